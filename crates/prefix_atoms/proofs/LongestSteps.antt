-- The longest prefix of an address, as one prefix more is looked at.
use Rattle.std.proofs.lemmas.Grind.{common_steps}
use Rattle.std.proofs.Common.{◌≡◌, ℕ, ◌+◌, ◌<◌, ◌≤◌, ◌==◌, inl, inr, Bool, true, false, if◌then◌else◌, List, [], ◌∷◌, ◌++◌, length, map, take, get_or, set}
use Rattle.std.proofs.Common.{Option, Some, None, All, Contains, slice_get, ⊎_elim, arith, refl, sym, ap, subst, ◌∙◌, ◌≢◌, below_more, get_or-set_other}
use Rattle.std.proofs.Common.{get_or-set_same, eqb-true, eq-eqb}
use Rattle.std.proofs.lemmas.Bool.{cases_lt}
use Rattle.std.proofs.lemmas.List.{length-take-le, length-map, length-set, get_or-map}
use Rattle.std.proofs.lemmas.List.Elements.{All-push, Contains-push_cases}
use Rattle.std.proofs.lemmas.Option.{slice_get_within, get_or_from_slice_get}
use Rattle.std.specs.List.Sorted.{IsStrictlyIncreasing}
use Rattle.net_addr.specs.Addresses.{Block, ContainsAddress, IsBlock}
use Rattle.net_addr.specs.Boundaries.{last_address}
use Rattle.net_addr.proofs.Blocks.{block_size, ContainsAddress-bounds, ContainsAddress-between}
use Rattle.net_addr.proofs.BoundaryFacts.{last_address-after}
use Rattle.net_addr.specs.LongestMatches.{IsBestMatch, LongestAt}
use Rattle.net_addr.proofs.LongestMatchLaws.{slice_get-push_old, slice_get-push_new}
use Rattle.route_core.proofs.TableLaws.{Contains-from_place}
use Rattle.prefix_atoms.specs.steps.Lists.{AreTargets, IsPlaceOf}
use Rattle.prefix_atoms.specs.steps.Longest.{AreLongestKept, AreKeys, IsKey, TakesPrefix, key_of, top_of, IsFoundAt, IsKept, nothing}
use Rattle.prefix_atoms.specs.Nested.{AreTops, IsTop}
use Rattle.prefix_atoms.specs.declared.longest.Longest.{Longest}
use Rattle.prefix_atoms.proofs.Ascending.{at_most_later}
use Rattle.prefix_atoms.proofs.Collected.{take_place}

-- addresses before the base of a prefix, and after its last address, aren't the prefix's
pub misses_before : (p : Block) (a : ℕ) → IsBlock p → a < p.base → ¬ ContainsAddress p a
misses_before p a block low inside = let bounds = ContainsAddress-bounds p a block inside in absurd (omega (arith, bounds.0))

pub misses_after : (p : Block) (a : ℕ) → IsBlock p → last_address p < a → ¬ ContainsAddress p a
misses_after p a block high inside = grind (arith, common_steps, ContainsAddress-bounds, block_size, last_address-after)

pub contains_between : (p : Block) (a : ℕ) → IsBlock p → p.base ≤ a → a ≤ last_address p → ContainsAddress p a
contains_between p a block low high = grind (arith, common_steps, ContainsAddress-between, block_size, last_address-after)

-- a prefix that doesn't contain the address, or isn't longer, changes nothing
kept_more : (prefixes : List Block) (next : Block) (numbers : ℕ → ℕ) (a : ℕ) (found : Longest) → IsKept prefixes numbers a found
    → (ContainsAddress next a → next.len < found.size) → IsKept (prefixes ++ next ∷ []) numbers a found
kept_more prefixes next numbers a found is short = record {
  there = elim is.there [
    | inl none ↦ inl none
    | inr at ↦ inr (record {
      place = at.place;
      prefix = at.prefix;
      stands = slice_get-push_old prefixes next at.place at.prefix at.stands;
      contains = at.contains;
      size_is = at.size_is;
      number_is = at.number_is;
    })
  ];
  covers = λ q has inside. ⊎_elim
      (λ earlier. is.covers q earlier inside)
      (λ same. subst (λ (r : Block). r.len < found.size) same (short (subst (λ (r : Block). ContainsAddress r a) (sym same) inside)))
      (Contains-push_cases prefixes next q has);
}

-- a longer prefix that contains the address is kept
kept_longer : (prefixes : List Block) (next : Block) (numbers : ℕ → ℕ) (a : ℕ) (found new : Longest) → IsKept prefixes numbers a found
    → ContainsAddress next a → numbers (length prefixes) ≡ new.number → next.len + 1 ≡ new.size → found.size < new.size
    → IsKept (prefixes ++ next ∷ []) numbers a new
kept_longer prefixes next numbers a found new is inside number size less =
    grind (arith, common_steps, Contains-push_cases, slice_get-push_new)

-- prefixes by their numbers, the next one, and the addresses that they are found for
pub record Painting : Type 0 where
  pub prefixes : List Block
  pub numbers : ℕ → ℕ
  pub next : Block
  pub addresses : List ℕ

-- what is kept at a place of these prefixes, and with the next one
abbrev IsDone : Painting → List Longest → ℕ → Type 0
IsDone p found j = IsKept (p.prefixes ++ p.next ∷ []) p.numbers (get_or p.addresses j 0) (get_or found j nothing)

abbrev IsLeft : Painting → List Longest → ℕ → Type 0
IsLeft p found j = IsKept p.prefixes p.numbers (get_or p.addresses j 0) (get_or found j nothing)

-- what holds while the addresses of the next prefix get it: those before place i are done, the others not yet
pub record Painted (p : Painting) (found : List Longest) (i : ℕ) : Type 0 where
  pub count : length found ≡ length p.addresses
  pub low : (j : ℕ) → i ≤ j → j < length p.addresses → p.next.base ≤ get_or p.addresses j 0
  pub done : (j : ℕ) → j < i → j < length p.addresses → IsDone p found j
  pub rest : (j : ℕ) → i ≤ j → j < length p.addresses → IsLeft p found j

-- a place whose address isn't the prefix's needs no change
out : (p : Painting) (found : List Longest) (j : ℕ) → IsLeft p found j → ¬ ContainsAddress p.next (get_or p.addresses j 0) → IsDone p found j
out p found j is away = grind (arith, common_steps, kept_more)

-- at first no address before the prefix's base needs a change
pub painted_none : (p : Painting) (found : List Longest) (i : ℕ) → IsBlock p.next → AreLongestKept p.prefixes p.numbers p.addresses found
    → IsPlaceOf p.addresses p.next.base i → Painted p found i
painted_none p found i block are first = grind (arith, common_steps, misses_before, out)

-- at the end the addresses after the prefix's last need no change
pub painted_all : (p : Painting) (found : List Longest) (i : ℕ) → IsBlock p.next → IsStrictlyIncreasing p.addresses → Painted p found i
    → (i < length p.addresses → last_address p.next < get_or p.addresses i 0) → AreLongestKept (p.prefixes ++ p.next ∷ []) p.numbers p.addresses found
painted_all p found i block up painted past = record {
  count = painted.count;
  each = λ j m. ⊎_elim
      (λ (l : j < i). painted.done j l m)
      (λ (l : i ≤ j).
      let high : last_address p.next < get_or p.addresses i 0 = past (omega arith) in
      let later : get_or p.addresses i 0 ≤ get_or p.addresses j 0 = at_most_later p.addresses i j up l m in
      out p found j (painted.rest j l m) (misses_after p.next (get_or p.addresses j 0) block (omega arith)))
      (cases_lt j i);
}

-- the next address of the prefix gets it where it is longer
pub painted_more : (p : Painting) (found after : List Longest) (i : ℕ) (new : Longest) → IsBlock p.next → Painted p found i → i < length p.addresses
    → get_or p.addresses i 0 ≤ last_address p.next → p.numbers (length p.prefixes) ≡ new.number → p.next.len + 1 ≡ new.size
    → ((get_or found i nothing).size < new.size → after ≡ set found i new) → (new.size ≤ (get_or found i nothing).size → after ≡ found)
    → Painted p after (i + 1)
painted_more p found after i new block painted within low number size longer earlier = ⊎_elim
    (λ (l : (get_or found i nothing).size < new.size). subst (λ (f : List Longest). Painted p f (i + 1)) (sym (longer l))
    (one_more (set found i new) (length-set found i new) (λ j apart. sym (get_or-set_other found i j new nothing apart))
    (subst (IsKept (p.prefixes ++ p.next ∷ []) p.numbers (get_or p.addresses i 0))
    (sym (get_or-set_same found i new nothing (let in' : i < length found = omega (arith, painted.count) in in')))
    (kept_longer p.prefixes p.next p.numbers (get_or p.addresses i 0) (get_or found i nothing) new (painted.rest i (omega arith) within)
    (contains_between p.next (get_or p.addresses i 0) block (painted.low i (omega arith) within) low) number size l))))
    (λ (l : new.size ≤ (get_or found i nothing).size). subst (λ (f : List Longest). Painted p f (i + 1)) (sym (earlier l))
    (one_more found refl (λ j apart. refl)
    (kept_more p.prefixes p.next p.numbers (get_or p.addresses i 0) (get_or found i nothing)
    (painted.rest i (omega arith) within) (λ _. omega (arith, size, l)))))
    (cases_lt (get_or found i nothing).size new.size)
  where
    one_more : (f : List Longest) → length f ≡ length found → ((j : ℕ) → j ≢ i → get_or found j nothing ≡ get_or f j nothing) → IsDone p f i
        → Painted p f (i + 1)
    one_more f count other here = record {
      count = count ∙ painted.count;
      low = λ j l m. painted.low j (omega arith) m;
      done = below_more (λ (j : ℕ). j < length p.addresses → IsDone p f j) i
          (λ j l m. subst (IsKept (p.prefixes ++ p.next ∷ []) p.numbers (get_or p.addresses j 0)) (other j (omega arith)) (painted.done j l m)) (λ _. here);
      rest = λ j l m. subst (IsKept p.prefixes p.numbers (get_or p.addresses j 0)) (other j (omega arith)) (painted.rest j (omega arith) m);
    }

-- a prefix that is kept under its place is the longest match
found_longest : (prefixes : List Block) (a : ℕ) (found : Longest) → IsKept prefixes (λ place. place) a found
    → IsFoundAt prefixes (λ place. place) a found → LongestAt prefixes a found.number
found_longest prefixes a found is here = record {
  prefix = here.prefix;
  stands = subst (λ (n : ℕ). slice_get prefixes n ≡ Some here.prefix) here.number_is here.stands;
  match = record {
    is_offered = Contains-from_place prefixes here.place here.prefix here.stands;
    contains = here.contains;
    longest = λ q has inside. let short : q.len < found.size = is.covers q has inside in omega (arith, here.size_is);
  };
}

-- what is kept under its place gives the key
key_kept : (prefixes : List Block) (a : ℕ) (found : Longest) → IsKept prefixes (λ place. place) a found
    → IsKey prefixes a (key_of (length prefixes) found)
key_kept prefixes a found is = by_size (found.size == 0) refl
  where
    by_size : (none : Bool) → (found.size == 0) ≡ none → IsKey prefixes a (if none then length prefixes else found.number)
    by_size true at =
        let zero : found.size ≡ 0 = eqb-true found.size 0 at in
        inl (refl, λ q has inside. let short : q.len < found.size = is.covers q has inside in absurd (omega arith))
    by_size false at = elim is.there [
      | inl none ↦ absurd (let most : (found.size == 0) ≡ true = eq-eqb found.size 0 none in let no : ⊥ = cc in no)
      | inr here ↦ inr (found_longest prefixes a found is here)
    ]

pub keys_kept : (prefixes : List Block) (addresses keys : List ℕ) (found : List Longest) → AreLongestKept prefixes (λ place. place) addresses found
    → keys ≡ map (key_of (length prefixes)) found → AreKeys prefixes addresses keys
keys_kept prefixes addresses keys found are same = grind (arith, common_steps, get_or-map, key_kept, length-map)

-- what is kept under its place gives the top
top_kept : (prefixes : List Block) (a : ℕ) (found : Longest) → IsKept prefixes (λ place. place) a found → IsTop prefixes a (top_of found)
top_kept prefixes a found is = by_size (found.size == 0) refl
  where
    by_size : (none : Bool) → (found.size == 0) ≡ none → IsTop prefixes a (if none then None else Some found.number)
    by_size true at =
        let zero : found.size ≡ 0 = eqb-true found.size 0 at in
        λ q has inside. let short : q.len < found.size = is.covers q has inside in absurd (omega arith)
    by_size false at = elim is.there [
      | inl none ↦ absurd (let most : (found.size == 0) ≡ true = eq-eqb found.size 0 none in let no : ⊥ = cc in no)
      | inr here ↦ found_longest prefixes a found is here
    ]

-- the prefix at the place of the key is the longest match
key_longest : (prefixes : List Block) (a key : ℕ) → IsKey prefixes a key → IsBestMatch (Contains prefixes) a (slice_get prefixes key)
key_longest prefixes a key is = elim is [
  | inl none ↦ subst (IsBestMatch (Contains prefixes) a) (sym (ap (slice_get prefixes) none.0 ∙ past prefixes)) none.1
  | inr at ↦ subst (IsBestMatch (Contains prefixes) a) (sym at.stands) at.match
]
  where
    past : {X : Type 0} (xs : List X) → slice_get xs (length xs) ≡ None
    past [] = refl
    past (x ∷ xs) = past xs

pub tops_kept : (prefixes : List Block) (addresses : List ℕ) (found : List Longest) (tops : List (Option ℕ))
    → AreLongestKept prefixes (λ place. place) addresses found → tops ≡ map top_of found → AreTops prefixes addresses tops
tops_kept prefixes addresses found tops are same = record {
  count = ap length same ∙ length-map found top_of ∙ are.count;
  each = λ k top at.
      let within : k < length tops = slice_get_within tops k top at in
      let long : length tops ≡ length found = ap length same ∙ length-map found top_of in
      let is : get_or tops k None ≡ top_of (get_or found k nothing) =
      ap (λ (ts : List (Option ℕ)). get_or ts k None) same ∙ get_or-map top_of found k nothing None (omega arith) in
      subst (IsTop prefixes (get_or addresses k 0)) (sym is ∙ get_or_from_slice_get tops k top None at)
      (top_kept prefixes (get_or addresses k 0) (get_or found k nothing) (are.each k (omega (arith, are.count))));
}

pub targets_found : (prefixes : List Block) (addresses keys : List ℕ) (targets : List (Option Block)) → AreKeys prefixes addresses keys
    → targets ≡ map (slice_get prefixes) keys → AreTargets prefixes addresses targets
targets_found prefixes addresses keys targets are same = grind (arith, common_steps, get_or-map, key_longest, length-map)

-- what is kept of the prefixes of a list before a place, once the row at the place is taken
pub kept_next : (prefixes : List Block) (numbers : ℕ → ℕ) (place : ℕ) (next : Block) (number : ℕ) (addresses : List ℕ) (old new : List Longest)
    → slice_get prefixes place ≡ Some next → numbers place ≡ number → TakesPrefix next number addresses old new
    → AreLongestKept (take place prefixes) numbers addresses old → AreLongestKept (take (place + 1) prefixes) numbers addresses new
kept_next prefixes numbers place next number addresses old new at is takes are =
    let within : place < length prefixes = slice_get_within prefixes place next at in
    subst (λ (ps : List Block). AreLongestKept ps numbers addresses new) (sym (take_place prefixes place next at))
    (takes (take place prefixes) numbers (ap numbers (length-take-le place prefixes (omega arith)) ∙ is) are)

-- the next prefix is a block too
pub blocks_next : (prefixes : List Block) (place : ℕ) (next : Block) → slice_get prefixes place ≡ Some next → All IsBlock (take place prefixes)
    → IsBlock next → All IsBlock (take (place + 1) prefixes)
blocks_next prefixes place next at blocks block =
    subst (All IsBlock) (sym (take_place prefixes place next at)) (All-push IsBlock (take place prefixes) next blocks block)
