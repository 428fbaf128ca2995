-- Words that say distinct routers, one by one: one more, and where no further one is said.
use Rattle.std.proofs.lemmas.Grind.{common_steps}
use Rattle.std.proofs.Common.{◌≡◌, ◌≢◌, ℕ, zero, suc, ◌+◌, ◌-◌, ◌<◌, List, [], ◌∷◌, ◌++◌, length, get_or, take, map}
use Rattle.std.proofs.Common.{Contains, AllPairs, arith, sym, ◌∙◌, subst}
use Rattle.std.specs.List.{AllZip}
use Rattle.std.proofs.lemmas.List.{take_more, take_at, get_or-take, get_or-map, get_or_default, length-map, length-take-le, map-id}
use Rattle.std.proofs.lemmas.List.Quantifiers.{all_pairs_push}
use Rattle.std.proofs.lemmas.Slice.Zip.{AllZip-long, all_zipped_more}
use Rattle.net_model.specs.Lookups.{IsNamed}
use Rattle.net_model.specs.Network.{Network}
use Rattle.net_model.specs.Refusals.{IsNetwork}
use Rattle.net_model.proofs.NetworkFacts.{IsNamed-unique}
use Rattle.order_core.specs.declared.turn.Tag.{Tag}
use Rattle.order_core.specs.declared.turn.Tag.TheVariants.{Old}
use Rattle.order_core.specs.declared.turn.Turn.{Turn}
use Rattle.plan_theory.specs.declared.items.Items.{Items}
use Rattle.plan_theory.specs.Numbers.{NamesNumber}
use Rattle.plan_theory.proofs.NumberWords.{NamesNumber-unique}
use Rattle.refutation_check.specs.TreeLines.{IsEntry, IsSomeEntry, SaysTurn}
use Rattle.refutation_check.specs.steps.Names.{SayTurns, NameNumbers, IsFurtherTurn, IsFurtherNumber, SaysNoFurtherTurn, NamesNoFurtherNumber}

-- what is related to an item at a place
pub zip_at : {A B : Type 0} (R : A → B → Type 0) (xs : List A) (ys : List B) (k : ℕ) (d : A) (e : B) → AllZip R xs ys → k < length xs →
    R (get_or xs k d) (get_or ys k e)
zip_at R [] ys k d e all within = absurd (omega (arith, within))
zip_at R (x ∷ xs) [] k d e all within = absurd all
zip_at R (x ∷ xs) (y ∷ ys) zero d e all within = all.0
zip_at R (x ∷ xs) (y ∷ ys) (suc k) d e all within = zip_at R xs ys k d e all.1 (omega (arith, within))

-- where a word says only items whose keys those of the words before it have, no list of items with distinct keys is said
no_further : {B : Type 0} (R : List ℕ → B → Type 0) (key : B → ℕ) → ((word : List ℕ) (x y : B) → R word x → R word y → key x ≡ key y) →
    (words : List (List ℕ)) (front others : List B) (i : ℕ) (d : B)
    → i < length words → AllZip R (take i words) front → AllZip R words others → AllPairs (λ (x y : B). key x ≢ key y) others
    → ((y : B) → R (get_or words i []) y → Contains (map key front) (key y)) → ⊥
no_further R key same words front others i d within said all distinct known =
    let here = get_or others i d in
    let says : R (get_or words i []) here = zip_at R words others i [] d all within in
    let has = known here says in
    let k = has.0 in
    let long : length front ≡ i = AllZip-long R (take i words) front said ∙ length-take-le i words (omega (arith, within)) in
    let before : k < i = omega (arith, has.1, long, length-map front key) in
    let in_front : k < length front = omega (arith, before, long) in
    let told : R (get_or words k []) (get_or front k d) =
    subst (λ (w : List ℕ). R w (get_or front k d)) (get_or-take i words k [] before)
    (zip_at R (take i words) front k [] d said (omega (arith, before, length-take-le i words (omega (arith, within))))) in
    let again : R (get_or words k []) (get_or others k d) = zip_at R words others k [] d all (omega (arith, before, within)) in
    let one : key (get_or front k d) ≡ key (get_or others k d) = same (get_or words k []) (get_or front k d) (get_or others k d) told again in
    let two : key (get_or front k d) ≡ key here = sym (get_or-map key front k d (key here) in_front) ∙ has.2 in
    distinct k i d before (omega (arith, within, AllZip-long R words others all)) (sym one ∙ two)

-- a name is what stands before the colon and the letter
entry_name : (word name : List ℕ) (tag : Tag) → IsEntry word name tag → name ≡ take (length word - 2) word
entry_name word name tag is = grind (arith, common_steps, take_at)

pub one_name : (word one two : List ℕ) (s t : Tag) → IsEntry word one s → IsEntry word two t → one ≡ two
one_name word one two s t first second = entry_name word one s first ∙ sym (entry_name word two t second)

-- an entry says one router
pub one_router : (net : Network) → IsNetwork net → (word : List ℕ) (s t : Turn) → SaysTurn net word s → SaysTurn net word t → s.router ≡ t.router
one_router net network word s t first second =
    let same = one_name word first.name second.name s.tag t.tag first.entry second.entry in
    IsNamed-unique net second.name s.router t.router network.ascending (subst (λ (n : List ℕ). IsNamed net n s.router) same first.named) second.named

-- a word that says a turn is an entry
pub says_entry : (net : Network) (word : List ℕ) (turn : Turn) → SaysTurn net word turn → IsSomeEntry word
says_entry net word turn says = record { name = says.name; tag = turn.tag; entry = says.entry }

a_turn : Turn
a_turn = record { router = 0; tag = Old }

pub no_turns : (net : Network) (words : List (List ℕ)) (front : List Turn) (i : ℕ) → i < length words →
    SayTurns net (take i words) front → SaysNoFurtherTurn net (get_or words i []) front → (IsSomeEntry (get_or words i []) → IsNetwork net)
    → (others : List Turn) → SayTurns net words others → ⊥
no_turns net words front i within say none network others all =
    let here = says_entry net (get_or words i []) (get_or others i a_turn) (zip_at (SaysTurn net) words others i [] a_turn all.said within) in
    no_further (SaysTurn net) (λ (t : Turn). t.router) (one_router net (network here)) words front others i a_turn within say.said all.said all.distinct none

pub no_numbers : (items : Items) (net : Network) → IsNetwork net → (words : List (List ℕ)) (front : List ℕ) (i : ℕ) → i < length words →
    NameNumbers items net (take i words) front → NamesNoFurtherNumber items net (get_or words i []) front
    → (others : List ℕ) → NameNumbers items net words others → ⊥
no_numbers items net network words front i within say none others all =
    no_further (NamesNumber items net) (λ (u : ℕ). u) (λ word u v. NamesNumber-unique items net network.ascending word u v) words front others i 0 within
    say.named all.named all.distinct
    (λ u named. subst (λ (l : List ℕ). Contains l u) (sym (map-id front)) (none u named))

-- one turn more
pub turns_more : (net : Network) (words : List (List ℕ)) (front : List Turn) (i : ℕ) (turn : Turn) → i < length words →
    SayTurns net (take i words) front →
    IsFurtherTurn net (get_or words i []) front turn
    → SayTurns net (take (i + 1) words) (front ++ turn ∷ [])
turns_more net words front i turn within say further = record {
  said = subst (λ (l : List (List ℕ)). AllZip (SaysTurn net) l (front ++ turn ∷ [])) (sym (take_more words i [] within))
      (all_zipped_more (SaysTurn net) (take i words) front (get_or words i []) turn say.said further.says);
  distinct = all_pairs_push (λ (s t : Turn). s.router ≢ t.router) front turn say.distinct
      (λ k d inside same. further.absent
      (k, omega (arith, inside, length-map front (λ (t : Turn). t.router)), get_or-map (λ (t : Turn). t.router) front k d turn.router inside ∙ same));
}

-- one number more
pub numbers_more : (items : Items) (net : Network) (words : List (List ℕ)) (front : List ℕ) (i u : ℕ) → i < length words →
    NameNumbers items net (take i words) front → IsFurtherNumber items net (get_or words i []) front u
    → NameNumbers items net (take (i + 1) words) (front ++ u ∷ [])
numbers_more items net words front i u within say further = record {
  named = subst (λ (l : List (List ℕ)). AllZip (NamesNumber items net) l (front ++ u ∷ [])) (sym (take_more words i [] within))
      (all_zipped_more (NamesNumber items net) (take i words) front (get_or words i []) u say.named further.named);
  distinct = all_pairs_push (λ (v w : ℕ). v ≢ w) front u say.distinct
      (λ k d inside same. further.absent (k, inside, get_or_default front k u d inside ∙ same));
}

-- no word says no turn, and names no number
pub say_none : (net : Network) → SayTurns net [] []
say_none net = record { said = tt; distinct = λ i j d less within. absurd (omega (arith, within)) }

pub name_none : (items : Items) (net : Network) → NameNumbers items net [] []
name_none items net = record { named = tt; distinct = λ i j d less within. absurd (omega (arith, within)) }
