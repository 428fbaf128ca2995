-- A printed tree reads back.
use Rattle.std.proofs.lemmas.Grind.{common_steps}
use Rattle.std.proofs.Common.{◌≡◌, ◌≢◌, ℕ, ◌+◌, ◌*◌, ◌/◌, ◌%◌, ◌^◌, ◌<◌, Bool, true, false, eqb, List, [], ◌∷◌, ◌++◌, length, get_or, map, codes}
use Rattle.std.proofs.Common.{arith, refl, sym, ap, ◌∙◌, subst}
use Rattle.std.specs.List.{All, AllZip, slice_split}
use Rattle.std.proofs.lemmas.Bool.Decides.{Decides-eqb}
use Rattle.std.proofs.lemmas.List.{append-nil, length-map, get_or-map}
use Rattle.std.proofs.lemmas.List.Elements.{All-cons, All-nil, All-head, All-tail, All-weaker, All-map}
use Rattle.std.proofs.lemmas.List.Splits.{slice_split_none, slice_split_at}
use Rattle.std.proofs.lemmas.Option.{slice_get-get_or}
use Rattle.net_addr.specs.Blanks.{is_blank}
use Rattle.net_model.specs.Configuration.{Configuration, IsConfiguration, IsNameByte}
use Rattle.net_model.specs.Lookups.{IsNamed}
use Rattle.net_model.specs.Network.{Network}
use Rattle.net_model.specs.Refusals.{IsNetwork}
use Rattle.net_model.specs.RouterNames.{names_of}
use Rattle.net_model.proofs.NetworkFacts.{HasConfiguration-keeps}
use Rattle.order_core.specs.declared.turn.Tag.{Tag}
use Rattle.order_core.specs.declared.turn.Turn.{Turn}
use Rattle.order_search.specs.declared.tree.Node.{Node}
use Rattle.order_search.specs.declared.tree.Node.TheVariants.{Branch, Leaf, Unvisited}
use Rattle.printed_lines.specs.Texts.{IsPrintedLine}
use Rattle.printed_lines.specs.Words.{IsWordByte, IsPrintedWord, spaced, joined, dotted, router_word}
use Rattle.printed_lines.proofs.LineFacts.{lines_read_back}
use Rattle.printed_lines.proofs.NumberFacts.{dotted-IsAddressWord, dotted-IsPrintedWord, marked-IsPrintedWord, IsWordByte-above_blank}
use Rattle.printed_lines.proofs.WordFacts.{words_make_lines}
use Rattle.plan_theory.specs.Numbers.{IsNumberWord, NamesNumber}
use Rattle.plan_theory.specs.Ranked.{by_router, size_of}
use Rattle.plan_theory.specs.declared.items.Items.{Items}
use Rattle.plan_theory.specs.declared.items.Items.TheVariants.{Routers, Changes}
use Rattle.refutation_check.specs.TreeLines.{as_said, letter_of, pieces_of, IsEntry, SaysNode, SaysTurn}
use Rattle.refutation_check.specs.TreeTexts.{turn_word, number_word, node_words, node_line, ranked_tree_text, ranked_router, AreDistinctRouters}
use Rattle.refutation_check.specs.TreeTexts.{NodeBelow, IsPrintedNode, ReadsAsNodes}
use Rattle.refutation_check.specs.Verdicts.{tree_header_of}

-- Words joined by one blank each have just these words as pieces

other_byte : (a b : ℕ) → a ≢ b → eqb a b ≡ false
other_byte a b apart = by_test (eqb a b) (Decides-eqb a b).0
  where
    by_test : (t : Bool) → (t ≡ true → a ≡ b) → t ≡ false
    by_test true is = absurd (apart (is refl))
    by_test false is = refl

no_blanks : (word : List ℕ) → IsPrintedWord word → All (λ b. is_blank b ≡ false) word
no_blanks word fine = grind (arith, common_steps, All-weaker, other_byte)

pieces-joined : (word : List ℕ) (more : List (List ℕ)) → IsPrintedWord word → All IsPrintedWord more →
    slice_split is_blank (word ++ spaced more) ≡ word ∷ more
pieces-joined word [] fine rest = ap (slice_split is_blank) (append-nil word) ∙ slice_split_none is_blank word (no_blanks word fine)
pieces-joined word (next ∷ more) fine rest =
    slice_split_at is_blank word 32 (next ++ spaced more) (no_blanks word fine) refl
    ∙ ap (λ (l : List (List ℕ)). word ∷ l) (pieces-joined next more (All-head IsPrintedWord next more rest) (All-tail IsPrintedWord next more rest))

pub pieces_of-joined : (word : List ℕ) (more : List (List ℕ)) → All IsPrintedWord (word ∷ more) → pieces_of (joined (word ∷ more)) ≡ word ∷ more
pieces_of-joined word more fine = pieces-joined word more (All-head IsPrintedWord word more fine) (All-tail IsPrintedWord word more fine)

-- Names, letters and words

-- the byte of a name
name_byte : (b : ℕ) → IsNameByte b → IsWordByte b
name_byte b is = IsWordByte-above_blank b (above is)
  where
    above : IsNameByte b → 32 < b
    above x = grind arith

letter_byte : (t : Tag) → IsPrintedWord (letter_of t ∷ [])
letter_byte t = grind (arith, common_steps, All-cons, All-nil, IsWordByte-above_blank)

-- words of bytes above the blank
pub above_blank : (word : List ℕ) → 0 < length word → All (λ b. 32 < b) word → IsPrintedWord word
above_blank word some above = record { some = some; bytes = All-weaker (λ b. 32 < b) IsWordByte IsWordByte-above_blank word above }

-- a router below the count has this name
pub named : (net : Network) (u : ℕ) → u < length net → IsNamed net (router_word (names_of net) u) u
named net u within =
    let d : Configuration = get_or net u (any net u within) in
    record {
      config = d;
      router = slice_get-get_or net u (any net u within) within;
      name_is = sym (get_or-map (λ (c : Configuration). c.name) net u (any net u within) [] within);
    }
  where
    any : (xs : Network) (i : ℕ) → i < length xs → Configuration
    any [] i l = absurd (omega (arith, l))
    any (c ∷ xs) i l = c

-- which is a word
pub name_word : (net : Network) → IsNetwork net → (u : ℕ) → u < length net → IsPrintedWord (router_word (names_of net) u)
name_word net network u within =
    let is = named net u within in
    let kept : IsConfiguration is.config = HasConfiguration-keeps net u is.config network is.router in
    subst IsPrintedWord is.name_is (record { some = kept.name.some; bytes = All-weaker IsNameByte IsWordByte name_byte is.config.name kept.name.bytes })

-- ---- numbers ----

-- the router of a number below their count is one of the network
router_below : (items : Items) (n number : ℕ) → number < size_of items n → ranked_router items number < n
router_below items n number below = grind (arith, common_steps)

-- the digit of a change is a word
pub digit_word : (c : ℕ) → IsPrintedWord ((48 + c) ∷ [])
digit_word c = grind (arith, common_steps, All-cons, All-nil, IsWordByte-above_blank)

module _ (net : Network) (network : IsNetwork net) where
  -- what a leaf says of a number is a word of its form, and names it
  number_is_word : (items : Items) (number : ℕ) → number < size_of items (length net) → IsPrintedWord (number_word items (names_of net) number)
  number_is_word Routers number below = name_word net network number below
  number_is_word Changes number below =
      marked-IsPrintedWord (router_word (names_of net) (number / 2)) ((48 + (number % 2 + 1)) ∷ []) 58 (IsWordByte-above_blank 58 (omega arith))
      (name_word net network (number / 2) (router_below Changes (length net) number below)) (digit_word (number % 2 + 1))

  number_has_form : (items : Items) (number : ℕ) → number < size_of items (length net) → IsNumberWord items (number_word items (names_of net) number)
  number_has_form Routers number below = (name_word net network number below).some
  number_has_form Changes number below = record {
    name = router_word (names_of net) (number / 2);
    some = (name_word net network (number / 2) (router_below Changes (length net) number below)).some;
    number = number % 2 + 1;
    is_number = (omega arith, omega arith);
    word_is = refl;
  }

  pub number_named : (items : Items) (number : ℕ) → number < size_of items (length net) → NamesNumber items net (number_word items (names_of net) number) number
  number_named Routers number below = named net number below
  number_named Changes number below = record {
    router = number / 2;
    name = router_word (names_of net) (number / 2);
    named = named net (number / 2) (router_below Changes (length net) number below);
    number = number % 2 + 1;
    is_number = (omega arith, omega arith);
    word_is = refl;
    item_is = omega arith;
  }

  -- ---- turns ----

  -- an entry is a word, and says its turn by the router of its number
  entry_is_word : (items : Items) (turn : Turn) → turn.router < size_of items (length net) → IsPrintedWord (turn_word items (names_of net) turn)
  entry_is_word items turn below =
      let router = ranked_router items turn.router in
      marked-IsPrintedWord (router_word (names_of net) router) (letter_of turn.tag ∷ []) 58 (IsWordByte-above_blank 58 (omega arith))
      (name_word net network router (router_below items (length net) turn.router below)) (letter_byte turn.tag)

  entry_of : (items : Items) (turn : Turn) → turn.router < size_of items (length net) →
      IsEntry (turn_word items (names_of net) turn) (router_word (names_of net) (ranked_router items turn.router)) turn.tag
  entry_of items turn below =
      record { some = (name_word net network (ranked_router items turn.router) (router_below items (length net) turn.router below)).some; written = refl }

  entry_says : (turn : Turn) → turn.router < length net → SaysTurn net (turn_word Routers (names_of net) turn) turn
  entry_says turn below = record {
    name = router_word (names_of net) turn.router;
    entry = entry_of Routers turn below;
    named = named net turn.router below;
  }

  change_says : (turn : Turn) → turn.router < 2 * length net → SaysTurn net (turn_word Changes (names_of net) turn) (by_router turn)
  change_says turn below = record {
    name = router_word (names_of net) (turn.router / 2);
    entry = entry_of Changes turn below;
    named = named net (turn.router / 2) (router_below Changes (length net) turn.router below);
  }

-- ---- lists of words ----

-- what each item of a list is related to, by a view of it
map_said : {A B : Type 0} (R : List ℕ → B → Type 0) (word : A → List ℕ) (view : A → B) (P : A → Type 0) → ((x : A) → P x → R (word x) (view x)) →
    (xs : List A) → All P xs → AllZip R (map word xs) (map view xs)
map_said R word view P says [] all = tt
map_said {A} R word view P says (x ∷ xs) all = (says x (All-head P x xs all), map_said R word view P says xs (All-tail P x xs all))

pub map_says : {A : Type 0} (R : List ℕ → A → Type 0) (word : A → List ℕ) (P : A → Type 0) → ((x : A) → P x → R (word x) x) →
    (xs : List A) → All P xs → AllZip R (map word xs) xs
map_says R word P says [] all = tt
map_says {A} R word P says (x ∷ xs) all = (says x (All-head P x xs all), map_says R word P says xs (All-tail P x xs all))

branch_is_word : IsPrintedWord (codes "branch")
branch_is_word = above_blank (codes "branch") (omega arith) (grind arith)

leaf_is_word : IsPrintedWord (codes "leaf")
leaf_is_word = above_blank (codes "leaf") (omega arith) (grind arith)

open_is_word : IsPrintedWord (codes "open")
open_is_word = above_blank (codes "open") (omega arith) (grind arith)

-- ---- nodes ----

-- a branch that reads back is of an address, and a leaf of distinct numbers
address_fits : (items : Items) (a : ℕ) (turns : List Turn) → IsPrintedNode (as_said items (Branch a turns)) → a < 2 ^ 32
address_fits items a turns made = grind (arith, common_steps)

module _ (net : Network) (network : IsNetwork net) (items : Items) where
  -- the words of a node are words
  branch_words : (a : ℕ) (turns : List Turn) → NodeBelow (size_of items (length net)) (Branch a turns) → a < 2 ^ 32 →
      All IsPrintedWord (node_words items (names_of net) (Branch a turns))
  branch_words a turns below fits =
      All-cons IsPrintedWord (codes "branch") (dotted a ∷ map (turn_word items (names_of net)) turns) branch_is_word
      (All-cons IsPrintedWord (dotted a) (map (turn_word items (names_of net)) turns) (dotted-IsPrintedWord a fits)
      (All-map IsPrintedWord (turn_word items (names_of net)) turns
      (All-weaker (λ (t : Turn). t.router < size_of items (length net)) (λ (t : Turn). IsPrintedWord (turn_word items (names_of net) t))
      (entry_is_word net network items) turns below)))

  leaf_words : (cycle : List ℕ) → NodeBelow (size_of items (length net)) (Leaf cycle) → All IsPrintedWord (node_words items (names_of net) (Leaf cycle))
  leaf_words cycle below =
      All-cons IsPrintedWord (codes "leaf") (map (number_word items (names_of net)) cycle) leaf_is_word
      (All-map IsPrintedWord (number_word items (names_of net)) cycle
      (All-weaker (λ (u : ℕ). u < size_of items (length net)) (λ (u : ℕ). IsPrintedWord (number_word items (names_of net) u))
      (number_is_word net network items) cycle below))

  words_are : (node : Node) → NodeBelow (size_of items (length net)) node → IsPrintedNode (as_said items node) →
      All IsPrintedWord (node_words items (names_of net) node)
  words_are (Branch a turns) below made = branch_words a turns below (address_fits items a turns made)
  words_are (Leaf cycle) below made = leaf_words cycle below
  words_are Unvisited below made = All-cons IsPrintedWord (codes "open") [] open_is_word (All-nil IsPrintedWord)

  -- and say the node
  leaf_says : (cycle : List ℕ) → NodeBelow (size_of items (length net)) (Leaf cycle) → AreDistinctRouters cycle →
      SaysNode items net (node_words items (names_of net) (Leaf cycle)) (Leaf cycle)
  leaf_says cycle below made = record {
    names = map (number_word items (names_of net)) cycle;
    line = record {
      words_are = refl;
      some = omega (arith, made.some, length-map cycle (number_word items (names_of net)));
      filled = All-map (IsNumberWord items) (number_word items (names_of net)) cycle
          (All-weaker (λ (u : ℕ). u < size_of items (length net)) (λ (u : ℕ). IsNumberWord items (number_word items (names_of net) u))
          (number_has_form net network items) cycle below);
    };
    named = map_says (NamesNumber items net) (number_word items (names_of net)) (λ (u : ℕ). u < size_of items (length net))
        (number_named net network items) cycle below;
    distinct = made.distinct;
  }

words_say : (net : Network) → IsNetwork net → (items : Items) (node : Node) → NodeBelow (size_of items (length net)) node →
    IsPrintedNode (as_said items node) → SaysNode items net (node_words items (names_of net) node) (as_said items node)
words_say net network Routers (Branch a turns) below made = record {
  entries = map (turn_word Routers (names_of net)) turns;
  line = record {
    address = dotted a;
    words_are = refl;
    stands = dotted-IsAddressWord a made.0;
    some = omega (arith, made.1.some, length-map turns (turn_word Routers (names_of net)));
  };
  said = map_says (SaysTurn net) (turn_word Routers (names_of net)) (λ (t : Turn). t.router < length net) (entry_says net network) turns below;
  distinct = made.1.distinct;
}
words_say net network Changes (Branch a turns) below made = record {
  entries = map (turn_word Changes (names_of net)) turns;
  line = record {
    address = dotted a;
    words_are = refl;
    stands = dotted-IsAddressWord a made.0;
    some = omega (arith, made.1.some, length-map turns (turn_word Changes (names_of net)), length-map turns by_router);
  };
  said = map_said (SaysTurn net) (turn_word Changes (names_of net)) by_router (λ (t : Turn). t.router < 2 * length net) (change_says net network) turns below;
  distinct = made.1.distinct;
}
words_say net network Routers (Leaf cycle) below made = leaf_says net network Routers cycle below made
words_say net network Changes (Leaf cycle) below made = leaf_says net network Changes cycle below made
words_say net network Routers Unvisited below made = refl
words_say net network Changes Unvisited below made = refl

-- a node has a line that reads back
abbrev pub IsFine : Items → Network → Node → Type 0
IsFine items net node = NodeBelow (size_of items (length net)) node × IsPrintedNode (as_said items node)

-- the line of a node reads as its words
pieces-line : (net : Network) → IsNetwork net → (items : Items) (node : Node) → IsFine items net node →
    pieces_of (node_line items (names_of net) node) ≡ node_words items (names_of net) node
pieces-line net network items (Branch a turns) fine =
    pieces_of-joined (codes "branch") (dotted a ∷ map (turn_word items (names_of net)) turns) (words_are net network items (Branch a turns) fine.0 fine.1)
pieces-line net network items (Leaf cycle) fine =
    pieces_of-joined (codes "leaf") (map (number_word items (names_of net)) cycle) (words_are net network items (Leaf cycle) fine.0 fine.1)
pieces-line net network items Unvisited fine = pieces_of-joined (codes "open") [] (words_are net network items Unvisited fine.0 fine.1)

pub line_says : (net : Network) → IsNetwork net → (items : Items) (node : Node) → IsFine items net node →
    SaysNode items net (pieces_of (node_line items (names_of net) node)) (as_said items node)
line_says net network items node fine =
    subst (λ (words : List (List ℕ)). SaysNode items net words (as_said items node)) (sym (pieces-line net network items node fine))
    (words_say net network items node fine.0 fine.1)

pub line_is : (net : Network) → IsNetwork net → (items : Items) (node : Node) → IsFine items net node → IsPrintedLine (node_line items (names_of net) node)
line_is net network items node fine = (words_make_lines (node_words items (names_of net) node) (words_are net network items node fine.0 fine.1)).0

-- ---- texts ----

pub tree_is_word : IsPrintedWord (codes "tree")
tree_is_word = above_blank (codes "tree") (omega arith) (grind arith)

one_is_word : IsPrintedWord (codes "1")
one_is_word = above_blank (codes "1") (omega arith) (grind arith)

two_is_word : IsPrintedWord (codes "2")
two_is_word = above_blank (codes "2") (omega arith) (grind arith)

header_is : (items : Items) → IsPrintedLine (tree_header_of items)
header_is items = grind (arith, common_steps, All-cons, All-nil, one_is_word, tree_is_word, two_is_word, words_make_lines)

pub trees_read_back : (items : Items) (net : Network) (nodes : List Node) → IsNetwork net → All (NodeBelow (size_of items (length net))) nodes →
    All (λ node. IsPrintedNode (as_said items node)) nodes → ReadsAsNodes items net (ranked_tree_text items (names_of net) nodes) nodes
trees_read_back items net nodes network below made =
    let header = tree_header_of items in
    let fine : All (IsFine items net) nodes = λ k d within. (below k d within, made k d within) in
    let lines : List (List ℕ) = map (node_line items (names_of net)) nodes in
    let all : All IsPrintedLine (header ∷ lines) =
    All-cons IsPrintedLine header lines (header_is items)
    (All-map IsPrintedLine (node_line items (names_of net)) nodes (All-weaker (IsFine items net)
    (λ (node : Node). IsPrintedLine (node_line items (names_of net) node)) (line_is net network items) nodes fine)) in
    record {
      lines = lines;
      text_is = (lines_read_back (header ∷ lines) all).texts;
      said = map_says (λ (line : List ℕ) (node : Node). SaysNode items net (pieces_of line) (as_said items node)) (node_line items (names_of net))
          (IsFine items net) (line_says net network items) nodes fine;
    }
