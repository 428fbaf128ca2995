-- Why intervals between cuts tell classes apart, and why numbers by the longest prefix number the classes.
use Rattle.std.proofs.lemmas.Grind.{common_steps}
use Rattle.std.proofs.Common.{◌≡◌, ◌≢◌, ℕ, zero, suc, ◌+◌, ◌^◌, ◌<◌, ◌≤◌, List, length, get_or, inl, inr, Some, All, AllPairs, Contains, slice_get}
use Rattle.std.proofs.Common.{⊎_elim, arith, sym, subst, ◌∙◌}
use Rattle.std.proofs.lemmas.Bool.{cases_lt}
use Rattle.std.proofs.lemmas.List.{get_or_default}
use Rattle.std.proofs.lemmas.List.Elements.{All-contains}
use Rattle.std.proofs.lemmas.Option.{slice_get_within, get_or_from_slice_get, same_Some}
use Rattle.std.specs.List.Sorted.{IsStrictlyIncreasing}
use Rattle.net_addr.specs.Addresses.{Block, ContainsAddress, IsBlock}
use Rattle.net_addr.specs.Boundaries.{SameBlocksContain}
use Rattle.net_addr.specs.LongestMatches.{IsLongestMatch}
use Rattle.net_addr.proofs.LongestMatchLaws.{IsLongestMatch-alike, one_longest_match}
use Rattle.net_addr.proofs.Blocks.{Covers-common, ContainsAddress-covers}
use Rattle.net_addr.proofs.BoundaryFacts.{ContainsAddress-alike}
use Rattle.prefix_atoms.specs.Classes.{AreSamples, Classes, IsClassing}
use Rattle.prefix_atoms.specs.Nested.{AreNested, AreTops}
use Rattle.prefix_atoms.specs.steps.Lists.{AreCuts}
use Rattle.prefix_atoms.specs.steps.Longest.{AreKeys, IsKey}
use Rattle.prefix_atoms.specs.Numbers.{InInterval, TellClasses}
use Rattle.prefix_atoms.specs.steps.Numbers.{IsNumbering, NumbersClasses, ArePicked}
use Rattle.prefix_atoms.proofs.Ascending.{below_later, at_most_later, start_is_last}
use Rattle.prefix_atoms.proofs.ClassLaws.{alike_sym, alike_trans}

-- Cuts

-- the first cut is 0
first_cut : (prefixes : List Block) (cuts : List ℕ) → AreCuts prefixes cuts → (0 < length cuts) × (get_or cuts 0 0 ≡ 0)
first_cut prefixes cuts are = grind (arith, common_steps, at_most_later)

-- between a cut and an address of its interval no prefix begins or ends
interval_alike : (prefixes : List Block) (cuts : List ℕ) (i a : ℕ) → All IsBlock prefixes → AreCuts prefixes cuts → InInterval cuts i a → a < 2 ^ 32
    → SameBlocksContain prefixes (get_or cuts i 0) a
interval_alike prefixes cuts i a blocks are inside below p member =
    ContainsAddress-alike p (get_or cuts i 0) a (All-contains IsBlock prefixes p blocks member) inside.from
    (λ c boundary above low.
    let small : c < 2 ^ 32 = omega arith in
    let h : c ≤ get_or cuts i 0 = start_is_last cuts i a c are.ascending inside (are.boundaries p c member boundary small) low in
    absurd (omega arith))

-- the last of the first n + 1 cuts that isn't above an address
last_cut : (cuts : List ℕ) (a n : ℕ) → get_or cuts 0 0 ≤ a
    → (i : ℕ) × (i ≤ n) × (get_or cuts i 0 ≤ a) × (i < n → a < get_or cuts (i + 1) 0)
last_cut cuts a zero low = (zero, omega arith, low, λ l. absurd (omega arith))
last_cut cuts a (suc n) low = ⊎_elim
    (λ (l : a < get_or cuts (suc n) 0).
    let h : (i : ℕ) × (i ≤ n) × (get_or cuts i 0 ≤ a) × (i < n → a < get_or cuts (i + 1) 0) = last_cut cuts a n low in (
      h.0,
      omega (arith, h.1),
      h.2,
      λ m. ⊎_elim
          (λ (k : h.0 < n). h.3 k)
          (λ (k : n ≤ h.0). let e : suc n ≡ h.0 + 1 = omega (arith, h.1) in subst (λ (j : ℕ). a < get_or cuts j 0) e l)
          (cases_lt h.0 n),
    ))
    (λ (l : get_or cuts (suc n) 0 ≤ a). (suc n, omega arith, l, λ m. absurd (omega arith)))
    (cases_lt a (get_or cuts (suc n) 0))

-- each address lies in an interval
each_in_interval : (cuts : List ℕ) (a : ℕ) → 0 < length cuts → get_or cuts 0 0 ≡ 0 → (i : ℕ) × InInterval cuts i a
each_in_interval cuts (a) some first =
    let n : (n : ℕ) × (n + 1 ≡ length cuts) = above_zero (length cuts) some in
    let h : (i : ℕ) × (i ≤ n.0) × (get_or cuts i 0 ≤ a) × (i < n.0 → a < get_or cuts (i + 1) 0) = last_cut cuts a n.0 (omega arith) in (
      h.0,
      record {
        within = omega (arith, n.1, h.1);
        from = h.2;
        before = λ l. h.3 (omega (arith, n.1));
      },
    )
  where
    above_zero : (m : ℕ) → 0 < m → (n : ℕ) × (n + 1 ≡ m)
    above_zero zero h = absurd (omega arith)
    above_zero (suc n) h = (n, omega arith)

-- The longest prefix tells the class

-- addresses with one longest prefix are in one class, since a prefix that contains one covers that prefix
key_alike : (prefixes : List Block) (a b key : ℕ) → All IsBlock prefixes → IsKey prefixes a key → IsKey prefixes b key → SameBlocksContain prefixes a b
key_alike prefixes a b key blocks one two p member = elim one [
  | inl none ↦ elim two [
    | inl other ↦ (λ inside. absurd (none.1 p member inside), λ inside. absurd (other.1 p member inside))
    | inr at ↦ absurd (omega (arith, slice_get_within prefixes key at.prefix at.stands, none.0))
  ]
  | inr at ↦ elim two [
    | inl none ↦ absurd (omega (arith, slice_get_within prefixes key at.prefix at.stands, none.0))
    | inr other ↦
        let same : at.prefix ≡ other.prefix = same_Some at.prefix other.prefix (sym at.stands ∙ other.stands) in (
          longer_contains a b at.prefix at.match (subst (λ (q : Block). ContainsAddress q b) (sym same) other.match.contains),
          longer_contains b a other.prefix other.match (subst (λ (q : Block). ContainsAddress q a) same at.match.contains),
        )
  ]
]
  where
    longer_contains : (a b : ℕ) (q : Block) → IsLongestMatch (Contains prefixes) a q → ContainsAddress q b → ContainsAddress p a → ContainsAddress p b
    longer_contains a b q longest at_b inside =
        let block : IsBlock q = All-contains IsBlock prefixes q blocks longest.is_offered in
        ContainsAddress-covers p q b block (Covers-common p q a block (longest.longest p member inside) inside longest.contains) at_b

-- no prefix of a list without repeats stands at two places
pub one_place : (prefixes : List Block) (i j : ℕ) (p : Block) → AllPairs (λ p q. p ≢ q) prefixes → slice_get prefixes i ≡ Some p →
    slice_get prefixes j ≡ Some p → i ≡ j
one_place prefixes i j p apart at_i at_j =
    let is_i : get_or prefixes i p ≡ p = get_or_from_slice_get prefixes i p p at_i in
    let is_j : get_or prefixes j p ≡ p = get_or_from_slice_get prefixes j p p at_j in
    let in_i : i < length prefixes = slice_get_within prefixes i p at_i in
    let in_j : j < length prefixes = slice_get_within prefixes j p at_j in
    ⊎_elim
    (λ (l : i < j). absurd (apart i j p l in_j (is_i ∙ sym is_j)))
    (λ (l : j ≤ i). ⊎_elim
    (λ (m : j < i). absurd (apart j i p m in_i (is_j ∙ sym is_i)))
    (λ (m : i ≤ j). let e : i ≡ j = omega arith in e)
    (cases_lt j i))
    (cases_lt i j)

-- addresses of one class have one key
alike_key : (prefixes : List Block) (a b key other : ℕ) → All IsBlock prefixes → AllPairs (λ p q. p ≢ q) prefixes
    → IsKey prefixes a key → IsKey prefixes b other → SameBlocksContain prefixes a b → key ≡ other
alike_key prefixes a b key other blocks apart one two alike =
    grind (arith, common_steps, All-contains, IsLongestMatch-alike, one_longest_match, one_place)

-- Classes

-- no key is above the count of prefixes
pub keys_below : (prefixes : List Block) (cuts keys : List ℕ) → AreKeys prefixes cuts keys → All (λ key. key < length prefixes + 1) keys
keys_below prefixes cuts keys are k d l =
    let at : get_or keys k d ≡ get_or keys k 0 = get_or_default keys k d 0 l in
    elim (are.each k (omega (arith, are.count))) [
      | inl none ↦ omega (arith, none.0)
      | inr here ↦ omega (arith, slice_get_within prefixes (get_or keys k 0) here.prefix here.stands)
    ]

-- numbers by the longest prefix number the classes
pub numbers_classes : (prefixes : List Block) (cuts keys numbers firsts : List ℕ) → All IsBlock prefixes → AllPairs (λ p q. p ≢ q) prefixes
    → AreKeys prefixes cuts keys → IsNumbering keys numbers firsts → NumbersClasses prefixes cuts numbers firsts
numbers_classes prefixes cuts keys numbers firsts blocks apart are numbering = record {
  count = numbering.count ∙ are.count;
  ascending = numbering.ascending;
  within = λ k l. omega (arith, numbering.within k l, are.count);
  first = λ k j l before alike.
      let f : ℕ = get_or firsts k 0 in
      let in_f : f < length cuts = omega (arith, numbering.within k l, are.count) in
      numbering.first k j l before (alike_key prefixes (get_or cuts j 0) (get_or cuts f 0) (get_or keys j 0) (get_or keys f 0) blocks apart
      (are.each j (omega arith)) (are.each f in_f) alike);
  numbered = λ j l. numbering.numbered j (omega (arith, are.count));
  same = λ j l.
      let f : ℕ = get_or firsts (get_or numbers j 0) 0 in
      let in_keys : j < length keys = omega (arith, are.count) in
      let in_f : f < length cuts = omega (arith, numbering.within (get_or numbers j 0) (numbering.numbered j in_keys), are.count) in
      key_alike prefixes (get_or cuts f 0) (get_or cuts j 0) (get_or keys j 0) blocks
      (subst (IsKey prefixes (get_or cuts f 0)) (numbering.same j in_keys) (are.each f in_f)) (are.each j l);
}

-- what the steps of the construction have made of the prefixes
pub record Made (prefixes : List Block) (cuts numbers firsts samples : List ℕ) : Type 0 where
  pub blocks : All IsBlock prefixes
  pub cut : AreCuts prefixes cuts
  pub numbering : NumbersClasses prefixes cuts numbers firsts
  pub picked : ArePicked cuts firsts samples

-- each first place is that of a cut
first_within : {prefixes : List Block} {cuts : List ℕ} {numbers firsts samples : List ℕ} (k : ℕ)
    → Made prefixes cuts numbers firsts samples → k < length samples → get_or firsts k 0 < length cuts
first_within {firsts = firsts} {samples = samples} k made l =
    let within : k < length firsts = omega (arith, made.picked.count) in
    omega (arith, made.numbering.within k within)

sample_at : {prefixes : List Block} {cuts : List ℕ} {numbers firsts samples : List ℕ} (k : ℕ)
    → Made prefixes cuts numbers firsts samples → k < length samples → get_or samples k 0 ≡ get_or cuts (get_or firsts k 0) 0
sample_at k made l = made.picked.each k (omega (arith, made.picked.count))

-- the number of an address's interval is that of its class
tell_class : {prefixes : List Block} {cuts : List ℕ} {numbers firsts samples : List ℕ} (i a : ℕ)
    → Made prefixes cuts numbers firsts samples → InInterval cuts i a → a < 2 ^ 32
    → (get_or numbers i 0 < length samples) × SameBlocksContain prefixes (get_or samples (get_or numbers i 0) 0) a
tell_class {prefixes} {cuts} {numbers} {firsts} {samples} i a made inside low =
    let k : ℕ = get_or numbers i 0 in
    let number : k < length samples = omega (arith, made.numbering.numbered i inside.within, made.picked.count) in
    let same : SameBlocksContain prefixes (get_or cuts (get_or firsts k 0) 0) (get_or cuts i 0) = made.numbering.same i inside.within in (
      number,
      alike_trans prefixes (get_or samples k 0) (get_or cuts i 0) a
          (subst (λ (s : ℕ). SameBlocksContain prefixes s (get_or cuts i 0)) (sym (sample_at k made number)) same)
          (interval_alike prefixes cuts i a made.blocks made.cut inside low),
    )

pub samples_ascend : {prefixes : List Block} {cuts : List ℕ} {numbers firsts samples : List ℕ}
    → Made prefixes cuts numbers firsts samples → IsStrictlyIncreasing samples
samples_ascend {cuts = cuts} {firsts = firsts} {samples = samples} made k l =
    let here : get_or samples k 0 ≡ get_or cuts (get_or firsts k 0) 0 = sample_at k made (omega arith) in
    let next : get_or samples (k + 1) 0 ≡ get_or cuts (get_or firsts (k + 1) 0) 0 = sample_at (k + 1) made l in
    let up : get_or firsts k 0 < get_or firsts (k + 1) 0 = made.numbering.ascending k (omega (arith, made.picked.count)) in
    let rise : get_or cuts (get_or firsts k 0) 0 < get_or cuts (get_or firsts (k + 1) 0) 0 =
    below_later cuts (get_or firsts k 0) (get_or firsts (k + 1) 0) made.cut.ascending up (first_within (k + 1) made l) in
    omega arith

-- no address below a sample is in its class
sample_is_least : {prefixes : List Block} {cuts : List ℕ} {numbers firsts samples : List ℕ} (k a : ℕ)
    → Made prefixes cuts numbers firsts samples → k < length samples → a < get_or samples k 0
    → SameBlocksContain prefixes (get_or samples k 0) a → ⊥
sample_is_least {prefixes} {cuts} {numbers} {firsts} {samples} k a made l below alike =
    let f : ℕ = get_or firsts k 0 in
    let in_f : f < length cuts = first_within k made l in
    let here : get_or samples k 0 ≡ get_or cuts f 0 = sample_at k made l in
    let small : get_or cuts f 0 < 2 ^ 32 = made.cut.below f 0 in_f in
    let low : a < 2 ^ 32 = omega arith in
    let start = first_cut prefixes cuts made.cut in
    let at : (i : ℕ) × InInterval cuts i a = each_in_interval cuts a start.0 start.1 in
    let inside : InInterval cuts at.0 a = at.1 in
    let before : at.0 < f = ⊎_elim
    (λ (m : at.0 < f). m)
    (λ (m : f ≤ at.0).
    let h : get_or cuts f 0 ≤ get_or cuts at.0 0 = at_most_later cuts f at.0 made.cut.ascending m inside.within in
    let from : get_or cuts at.0 0 ≤ a = inside.from in
    absurd (omega arith))
    (cases_lt at.0 f) in
    let same : SameBlocksContain prefixes (get_or cuts at.0 0) (get_or cuts f 0) =
    alike_trans prefixes (get_or cuts at.0 0) a (get_or cuts f 0) (interval_alike prefixes cuts at.0 a made.blocks made.cut inside low)
    (alike_sym prefixes (get_or cuts f 0) a (subst (λ (s : ℕ). SameBlocksContain prefixes s a) here alike)) in
    made.numbering.first k at.0 (omega (arith, made.picked.count)) before same

-- the numbers that are picked are the samples
pub samples_made : {prefixes : List Block} {cuts : List ℕ} {numbers firsts samples : List ℕ}
    → Made prefixes cuts numbers firsts samples → AreSamples prefixes samples
samples_made {prefixes} {cuts} {numbers} {firsts} {samples} made = record {
  ascending = samples_ascend made;
  addresses = λ k d l.
      let here : get_or samples k 0 ≡ get_or cuts (get_or firsts k 0) 0 = sample_at k made l in
      let small : get_or cuts (get_or firsts k 0) 0 < 2 ^ 32 = made.cut.below (get_or firsts k 0) 0 (first_within k made l) in
      let at : get_or samples k d ≡ get_or samples k 0 = get_or_default samples k d 0 l in
      omega arith;
  least = λ k a l below alike. sample_is_least k a made l below alike;
  all = λ a low.
      let start = first_cut prefixes cuts made.cut in
      let at : (i : ℕ) × InInterval cuts i a = each_in_interval cuts a start.0 start.1 in
      let told : (get_or numbers at.0 0 < length samples) × SameBlocksContain prefixes (get_or samples (get_or numbers at.0 0) 0) a =
      tell_class at.0 a made at.1 low in
      (get_or numbers at.0 0, told.0, told.1);
}

-- and the intervals tell the classes
pub intervals_tell : {prefixes : List Block} {cuts : List ℕ} {numbers firsts samples : List ℕ} (c : Classes)
    → c.prefixes ≡ prefixes → c.samples ≡ samples → Made prefixes cuts numbers firsts samples → TellClasses c cuts numbers
intervals_tell {prefixes} {cuts} {numbers} {firsts} {samples} c same_prefixes same_samples made =
    let start = first_cut prefixes cuts made.cut in
    record {
      ascending = made.cut.ascending;
      some = start.0;
      first = start.1;
      count = made.numbering.count;
      tell = λ i a inside low.
          let told : (get_or numbers i 0 < length samples) × SameBlocksContain prefixes (get_or samples (get_or numbers i 0) 0) a =
          tell_class i a made inside low in
          record {
            class = subst (λ (xs : List ℕ). get_or numbers i 0 < length xs) (sym same_samples) told.0;
            address = low;
            alike = subst (λ (ps : List Block). SameBlocksContain ps (get_or c.samples (get_or numbers i 0) 0) a) (sym same_prefixes)
                (subst (λ (xs : List ℕ). SameBlocksContain prefixes (get_or xs (get_or numbers i 0) 0) a) (sym same_samples) told.1);
          };
    }

-- and make classes, with the parents of their prefixes, their longest prefixes and their targets
pub classing_from : (c : Classes) (p1 p2 : List Block) (s1 s2 : List ℕ) → p1 ≡ c.prefixes → p2 ≡ c.prefixes → s1 ≡ c.samples → s2 ≡ c.samples
    → AreSamples c.prefixes c.samples → AreNested p1 c.parents → AreTops p2 s1 c.tops → length c.targets ≡ length s2 → IsClassing c
classing_from c p1 p2 s1 s2 same1 same2 same3 same4 samples nested tops targets = grind (arith, common_steps)

-- the steps, each over slices of its own
pub made_from : (prefixes p1 p2 : List Block) (cuts c1 c2 numbers firsts f1 samples : List ℕ) → p1 ≡ prefixes → p2 ≡ prefixes → c1 ≡ cuts →
    c2 ≡ cuts → f1 ≡ firsts
    → All IsBlock p1 → AreCuts p1 cuts → NumbersClasses p2 c1 numbers firsts → ArePicked c2 f1 samples → Made prefixes cuts numbers firsts samples
made_from prefixes p1 p2 cuts c1 c2 numbers firsts f1 samples same1 same2 same3 same4 same5 blocks cut numbering picked =
    grind (arith, common_steps)
