-- What a line says as a node: one node at most, which has the form of a node and distinct routers of the network.
use Rattle.std.proofs.lemmas.Grind.{common_steps}
use Rattle.std.proofs.Common.{◌≡◌, ℕ, ◌-◌, ◌<◌, List, [], ◌∷◌, length, get_or, codes, arith, refl, sym, ap, ◌∙◌, subst}
use Rattle.std.specs.List.{All, AllZip}
use Rattle.std.proofs.lemmas.List.{get_or-append-add}
use Rattle.std.proofs.lemmas.List.Elements.{All-cons, All-nil}
use Rattle.std.proofs.lemmas.Slice.Zip.{AllZip-long}
use Rattle.net_addr.specs.AddressWords.{IsAddressWord}
use Rattle.net_addr.proofs.AddressWordFacts.{IsAddressWord-unique}
use Rattle.net_model.specs.Lookups.{IsNamed}
use Rattle.net_model.specs.Network.{Network}
use Rattle.net_model.specs.Refusals.{IsNetwork}
use Rattle.net_model.proofs.NetworkFacts.{HasConfiguration-within}
use Rattle.order_core.specs.declared.turn.Tag.{Tag}
use Rattle.order_core.specs.declared.turn.Turn.{Turn}
use Rattle.order_search.specs.declared.tree.Node.{Node}
use Rattle.order_search.specs.declared.tree.Node.TheVariants.{Branch, Leaf, Unvisited}
use Rattle.plan_theory.specs.Ranked.{size_of}
use Rattle.plan_theory.specs.declared.items.Items.{Items}
use Rattle.plan_theory.specs.Numbers.{NamesNumber}
use Rattle.plan_theory.proofs.NumberWords.{NamesNumber-unique, NamesNumber-below}
use Rattle.refutation_check.specs.TreeLines.{letter_of, IsEntry, IsLeafLine, IsSomeEntry, HasForm, branch_form, leaf_form, open_form, SaysTurn, SaysNode}
use Rattle.refutation_check.specs.steps.Names.{NameNumbers}
use Rattle.refutation_check.specs.steps.Walks.{IsRinged}
use Rattle.refutation_check.proofs.NameFacts.{one_router}

-- lists whose items are related one by one
all_said : {A B : Type 0} (R : A → B → Type 0) (P : A → Type 0) → ((x : A) (y : B) → R x y → P x) → (xs : List A) (ys : List B) →
    AllZip R xs ys → All P xs
all_said R P from [] ys said = All-nil P
all_said R P from (x ∷ xs) [] said = absurd said
all_said R P from (x ∷ xs) (y ∷ ys) said = All-cons P x xs (from x y said.0) (all_said R P from xs ys said.1)

all_saying : {A B : Type 0} (R : A → B → Type 0) (P : B → Type 0) → ((x : A) (y : B) → R x y → P y) →
    (xs : List A) (ys : List B) → AllZip R xs ys → All P ys
all_saying R P from [] [] said = All-nil P
all_saying R P from [] (y ∷ ys) said = absurd said
all_saying R P from (x ∷ xs) [] said = absurd said
all_saying R P from (x ∷ xs) (y ∷ ys) said = All-cons P y ys (from x y said.0) (all_saying R P from xs ys said.1)

pub one_zip : {A B : Type 0} (R : A → B → Type 0) → ((x : A) (y z : B) → R x y → R x z → y ≡ z) →
    (xs : List A) (ys zs : List B) → AllZip R xs ys →
    AllZip R xs zs → ys ≡ zs
one_zip R one [] [] [] h k = refl
one_zip R one [] [] (z ∷ zs) h k = absurd k
one_zip R one [] (y ∷ ys) zs h k = absurd h
one_zip R one (x ∷ xs) [] zs h k = absurd h
one_zip R one (x ∷ xs) (y ∷ ys) [] h k = absurd k
one_zip R one (x ∷ xs) (y ∷ ys) (z ∷ zs) h k = ap (λ a. a ∷ ys) (one x y z h.0 k.0) ∙ ap (λ l. z ∷ l) (one_zip R one xs ys zs h.1 k.1)

-- a letter is that of one tag
one_tag : (s t : Tag) → letter_of s ≡ letter_of t → s ≡ t
one_tag s t e = grind (arith, common_steps)

-- the letter stands last
last_letter : (word name : List ℕ) (t : Tag) → IsEntry word name t → get_or word (length word - 1) 0 ≡ letter_of t
last_letter word name t is = grind (arith, common_steps, get_or-append-add)

one_turn : (net : Network) → IsNetwork net → (word : List ℕ) (s t : Turn) → SaysTurn net word s → SaysTurn net word t → s ≡ t
one_turn net network word s t first second =
    let router = one_router net network word s t first second in
    let tag = one_tag s.tag t.tag (sym (last_letter word first.name s.tag first.entry) ∙ last_letter word second.name t.tag second.entry) in
    ap (λ (u : ℕ). let made : Turn = record { router = u; tag = s.tag } in made) router
    ∙ ap (λ (g : Tag). let made : Turn = record { router = t.router; tag = g } in made) tag

pub first_word : (one two : List ℕ) (rest more : List (List ℕ)) → one ∷ rest ≡ two ∷ more → one ≡ two
first_word one two rest more e = cc

pub later_words : (one two : List ℕ) (rest more : List (List ℕ)) → one ∷ rest ≡ two ∷ more → rest ≡ more
later_words one two rest more e = cc

-- the three first words are three
pub branch_no_leaf : (rest more : List (List ℕ)) → codes "branch" ∷ rest ≡ codes "leaf" ∷ more → ⊥
branch_no_leaf rest more e = omega (arith, ap (λ (w : List ℕ). get_or w 0 0) (first_word (codes "branch") (codes "leaf") rest more e))

pub branch_no_open : (rest more : List (List ℕ)) → codes "branch" ∷ rest ≡ codes "open" ∷ more → ⊥
branch_no_open rest more e = omega (arith, ap (λ (w : List ℕ). get_or w 0 0) (first_word (codes "branch") (codes "open") rest more e))

pub leaf_no_open : (rest more : List (List ℕ)) → codes "leaf" ∷ rest ≡ codes "open" ∷ more → ⊥
leaf_no_open rest more e = omega (arith, ap (λ (w : List ℕ). get_or w 0 0) (first_word (codes "leaf") (codes "open") rest more e))

-- words that say a node have its form
pub form_of : (items : Items) (net : Network) (words : List (List ℕ)) (node : Node) → SaysNode items net words node → HasForm items words
form_of items net words (Branch a turns) says =
    branch_form a says.entries says.line
    (all_said (SaysTurn net) IsSomeEntry (λ word turn s. record { name = s.name; tag = turn.tag; entry = s.entry }) says.entries turns says.said)
form_of items net words (Leaf cycle) says = leaf_form says.names says.line
form_of items net words Unvisited says = open_form says

named_below : (net : Network) (name : List ℕ) (u : ℕ) → IsNamed net name u → u < length net
named_below net name u is = HasConfiguration-within net u is.config is.router

-- and its routers or numbers are distinct ones of the network
pub ringed : (items : Items) (net : Network) (words : List (List ℕ)) (node : Node) → SaysNode items net words node → IsRinged items (length net) node
ringed items net words (Branch a turns) says = (
  all_saying (SaysTurn net) (λ (t : Turn). t.router < length net) (λ word turn s. named_below net s.name turn.router s.named) says.entries turns says.said,
  record { some = omega (arith, says.line.some, AllZip-long (SaysTurn net) says.entries turns says.said); distinct = says.distinct },
)
ringed items net words (Leaf cycle) says = (
  all_saying (NamesNumber items net) (λ (u : ℕ). u < size_of items (length net)) (NamesNumber-below items net) says.names cycle says.named,
  record { some = omega (arith, says.line.some, AllZip-long (NamesNumber items net) says.names cycle says.named); distinct = says.distinct },
)
ringed items net words Unvisited says = tt

-- words say one node
pub one_node : (items : Items) (net : Network) → IsNetwork net → (words : List (List ℕ)) (n m : Node) → SaysNode items net words n →
    SaysNode items net words m → n ≡ m
one_node items net network words (Branch a turns) (Branch b others) one two =
    let rest = later_words (codes "branch") (codes "branch") (one.line.address ∷ one.entries) (two.line.address ∷ two.entries)
    (sym one.line.words_are ∙ two.line.words_are) in
    let address = first_word one.line.address two.line.address one.entries two.entries rest in
    let entries = later_words one.line.address two.line.address one.entries two.entries rest in
    let same_a : a ≡ b = IsAddressWord-unique two.line.address a b (subst (λ (w : List ℕ). IsAddressWord w a) address one.line.stands) two.line.stands in
    let same_turns : turns ≡ others = one_zip (SaysTurn net) (one_turn net network) two.entries turns others
    (subst (λ (l : List (List ℕ)). AllZip (SaysTurn net) l turns) entries one.said) two.said in
    ap (λ (x : ℕ). Branch x turns) same_a ∙ ap (λ (l : List Turn). Branch b l) same_turns
one_node items net network words (Branch a turns) (Leaf cycle) one two = absurd
    (branch_no_leaf (one.line.address ∷ one.entries) two.names (sym one.line.words_are ∙ two.line.words_are))
one_node items net network words (Branch a turns) Unvisited one two = absurd (branch_no_open (one.line.address ∷ one.entries) [] (sym one.line.words_are ∙ two))
one_node items net network words (Leaf cycle) (Branch b others) one two = absurd
    (branch_no_leaf (two.line.address ∷ two.entries) one.names (sym two.line.words_are ∙ one.line.words_are))
one_node items net network words (Leaf cycle) (Leaf other) one two =
    let names = later_words (codes "leaf") (codes "leaf") one.names two.names (sym one.line.words_are ∙ two.line.words_are) in
    ap (λ (l : List ℕ). Leaf l)
    (one_zip (NamesNumber items net) (NamesNumber-unique items net network.ascending) two.names cycle other
    (subst (λ (l : List (List ℕ)). AllZip (NamesNumber items net) l cycle) names one.named) two.named)
one_node items net network words (Leaf cycle) Unvisited one two = absurd (leaf_no_open one.names [] (sym one.line.words_are ∙ two))
one_node items net network words Unvisited (Branch b others) one two = absurd (branch_no_open (two.line.address ∷ two.entries) []
    (sym two.line.words_are ∙ one))
one_node items net network words Unvisited (Leaf cycle) one two = absurd (leaf_no_open two.names [] (sym two.line.words_are ∙ one))
one_node items net network words Unvisited Unvisited one two = refl

-- words of a leaf say the leaf of the numbers that they name
pub leaf_says : (items : Items) (net : Network) (words names : List (List ℕ)) (numbers : List ℕ) → IsLeafLine items words names →
    NameNumbers items net names numbers → SaysNode items net words (Leaf numbers)
leaf_says items net words names numbers line named = record { names = names; line = line; named = named.named; distinct = named.distinct }

-- and no node where they name none
pub leaf_says_none : (items : Items) (net : Network) (words names : List (List ℕ)) → IsLeafLine items words names →
    ((numbers : List ℕ) → NameNumbers items net names numbers → ⊥) → (node : Node) → SaysNode items net words node → ⊥
leaf_says_none items net words names line none (Branch a turns) says =
    branch_no_leaf (says.line.address ∷ says.entries) names (sym says.line.words_are ∙ line.words_are)
leaf_says_none items net words names line none (Leaf cycle) says =
    let same : says.names ≡ names = later_words (codes "leaf") (codes "leaf") says.names names (sym says.line.words_are ∙ line.words_are) in
    none cycle (record {
      named = subst (λ (l : List (List ℕ)). AllZip (NamesNumber items net) l cycle) same says.named;
      distinct = says.distinct;
    })
leaf_says_none items net words names line none Unvisited says = leaf_no_open names [] (sym line.words_are ∙ says)
