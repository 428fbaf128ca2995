-- Why the parent of a prefix is found from the prefix before it upwards, and why the parents of a prefix are the shorter matches of its addresses.
use Rattle.std.proofs.lemmas.Grind.{common_steps}
use Rattle.std.proofs.Common.{◌≡◌, ◌≢◌, ℕ, zero, suc, ◌+◌, ◌-◌, ◌<◌, ◌≤◌, List, get_or, inl, inr, Some, None, Option, All, AllPairs, slice_get}
use Rattle.std.proofs.Common.{⊎_elim, arith, refl, sym, subst, ◌∙◌, IfSome, MatchOption, SomeIff}
use Rattle.std.proofs.lemmas.Bool.{cases_lt}
use Rattle.std.proofs.lemmas.List.Elements.{All-contains}
use Rattle.std.proofs.lemmas.Option.{slice_get_within, get_or_from_slice_get, same_Some}
use Rattle.net_addr.specs.Addresses.{Block, ContainsAddress, IsBlock}
use Rattle.net_addr.proofs.Blocks.{block_size, same_block, Covers-common, ContainsAddress-covers, ContainsAddress-bounds, ContainsAddress-between}
use Rattle.net_addr.proofs.LongestMatchLaws.{IsLongestMatch-alike, HasNoMatch-alike}
use Rattle.route_core.proofs.TableLaws.{Contains-from_place, place_from_Contains}
use Rattle.prefix_atoms.specs.Nested.{StandsBefore, AreAscendingPrefixes, IsShorter, IsNextShorter, IsParent}

-- Places

at_get : (prefixes : List Block) (i : ℕ) (p : Block) → slice_get prefixes i ≡ Some p → (d : Block) → get_or prefixes i d ≡ p
at_get prefixes i p at d = get_or_from_slice_get prefixes i p d at

-- of two prefixes the one at the earlier place stands before the other
stands_before : (prefixes : List Block) (i j : ℕ) (p q : Block) → AreAscendingPrefixes prefixes → slice_get prefixes i ≡ Some p → slice_get prefixes j ≡ Some q
    → i < j → StandsBefore p q
stands_before prefixes i j p q up at_i at_j l =
    subst (λ (x : Block). StandsBefore p x) (at_get prefixes j q at_j p)
    (subst (λ (x : Block). StandsBefore x (get_or prefixes j p)) (at_get prefixes i p at_i p)
    (up i j p l (slice_get_within prefixes j q at_j)))

-- prefixes in ascending order are distinct
pub ascending_apart : (prefixes : List Block) → AreAscendingPrefixes prefixes → AllPairs (λ p q. p ≢ q) prefixes
ascending_apart prefixes up i j d l h same = grind (arith, common_steps)

-- The chain

-- a shorter prefix contains an address of a prefix exactly where it contains its base
shorter_alike : (p q : Block) (a : ℕ) → IsBlock p → ContainsAddress p a → q.len < p.len → (ContainsAddress q p.base → ContainsAddress q a)
    × (ContainsAddress q a → ContainsAddress q p.base)
shorter_alike p q a block inside short = grind (arith, common_steps, ContainsAddress-covers, Covers-common)

-- for each address of a prefix its parent is the longest shorter match
pub parent_is_next : (prefixes : List Block) (p : Block) (a : ℕ) (parent : Option ℕ) → IsBlock p → ContainsAddress p a
    → IsNextShorter prefixes p.len p.base parent → IsNextShorter prefixes p.len a parent
parent_is_next prefixes p a None block inside none =
    HasNoMatch-alike (IsShorter prefixes p.len) p.base a (λ q on. shorter_alike p q a block inside on.1) none
parent_is_next prefixes p a (Some place) block inside next = record {
  prefix = next.prefix;
  stands = next.stands;
  match = IsLongestMatch-alike (IsShorter prefixes p.len) p.base a next.prefix (λ q on. shorter_alike p q a block inside on.1) next.match;
}

-- The search for a parent

-- each shorter prefix that contains p is the prefix at this place or contains it; without a place there is none
abbrev pub HoldsAbove : List Block → Block → Option ℕ → Type 0
HoldsAbove prefixes p next =
    (q : Block) → IsShorter prefixes p.len q → ContainsAddress q p.base →
    MatchOption next ⊥ (λ j. (r : Block) → slice_get prefixes j ≡ Some r → (q.len ≤ r.len) × ContainsAddress q r.base)

pub record IsAhead (prefixes : List Block) (place : ℕ) (p : Block) (next : Option ℕ) : Type 0 where
  pub above : HoldsAbove prefixes p next
  pub before : IfSome next (λ j. j < place)

-- a shorter prefix that contains another one's base stands before it
shorter_earlier : (prefixes : List Block) (place i : ℕ) (p q : Block) → AreAscendingPrefixes prefixes → IsBlock q → slice_get prefixes place ≡ Some p
    → slice_get prefixes i ≡ Some q → q.len < p.len → ContainsAddress q p.base → i < place
shorter_earlier prefixes place i p q up block at_p at_q short inside =
    grind (arith, common_steps, ContainsAddress-bounds, block_size, cases_lt, same_Some, stands_before)

-- what contains p and stands before r, which stands before p, contains r
contains_middle : (p q r : Block) → IsBlock q → IsBlock r → StandsBefore q r → StandsBefore r p → ContainsAddress q p.base
    → (q.len ≤ r.len) × ContainsAddress q r.base
contains_middle p q r block_q block_r first second inside =
    let bounds : (q.base ≤ p.base) × (p.base < q.base + block_size q) = ContainsAddress-bounds q p.base block_q inside in
    let low : q.base ≤ r.base = elim first [ inl l ↦ omega (arith, l) | inr l ↦ omega (arith, l.0) ] in
    let high : r.base ≤ p.base = elim second [ inl l ↦ omega (arith, l) | inr l ↦ omega (arith, l.0) ] in
    let below : r.base < q.base + block_size q = omega (arith, bounds.1) in
    let here : ContainsAddress q r.base = ContainsAddress-between q r.base block_q low below in
    let no_longer : q.len ≤ r.len = ⊎_elim
    (λ (l : r.len < q.len). elim first [
      | inl less ↦
          let back : (r.base ≤ q.base) × (q.base < r.base + block_size r) =
          ContainsAddress-bounds r q.base block_r (Covers-common r q r.base block_q (omega arith) refl here).inside in
          absurd (omega (arith, back.0, less))
      | inr less ↦ absurd (omega (arith, less.1))
    ])
    (λ (l : q.len ≤ r.len). l)
    (cases_lt r.len q.len) in
    (no_longer, here)

-- at first the prefix before p is ahead
ahead_first : (prefixes : List Block) (place : ℕ) (p : Block) → All IsBlock prefixes → AreAscendingPrefixes prefixes → slice_get prefixes place ≡ Some p
    → 1 ≤ place → IsAhead prefixes place p (Some (place - 1))
ahead_first prefixes place p blocks up at some = record {
  above = λ q on inside r at_r.
      let block : IsBlock q = All-contains IsBlock prefixes q blocks on.0 in
      let found : (i : ℕ) × (slice_get prefixes i ≡ Some q) = place_from_Contains prefixes q on.0 in
      let i : ℕ = found.0 in
      let at_q : slice_get prefixes i ≡ Some q = found.1 in
      let early : i < place = shorter_earlier prefixes place i p q up block at at_q on.1 inside in
      ⊎_elim
      (λ (l : i < place - 1).
      contains_middle p q r block (All-contains IsBlock prefixes r blocks (Contains-from_place prefixes (place - 1) r at_r))
      (stands_before prefixes i (place - 1) q r up at_q at_r l) (stands_before prefixes (place - 1) place r p up at_r at (omega arith)) inside)
      (λ (l : place - 1 ≤ i).
      let e : i ≡ place - 1 = omega arith in
      let same : q ≡ r = same_Some q r (sym at_q ∙ subst (λ (k : ℕ). slice_get prefixes k ≡ Some r) (sym e) at_r) in
      subst (λ (x : Block). (q.len ≤ x.len) × ContainsAddress q x.base) same (omega arith, refl))
      (cases_lt i (place - 1));
  before = omega arith;
}

-- before the first prefix there is none
ahead_none : (prefixes : List Block) (p : Block) → All IsBlock prefixes → AreAscendingPrefixes prefixes → slice_get prefixes 0 ≡ Some p
    → IsAhead prefixes 0 p None
ahead_none prefixes p blocks up at = record {
  above = λ q on inside.
      let block : IsBlock q = All-contains IsBlock prefixes q blocks on.0 in
      let found : (i : ℕ) × (slice_get prefixes i ≡ Some q) = place_from_Contains prefixes q on.0 in
      let early : found.0 < 0 = shorter_earlier prefixes 0 found.0 p q up block at found.1 on.1 inside in
      omega arith;
  before = tt;
}

pub ahead_begins : (prefixes : List Block) (place : ℕ) (p : Block) (next : Option ℕ) → All IsBlock prefixes → AreAscendingPrefixes prefixes
    → slice_get prefixes place ≡ Some p → SomeIff next (1 ≤ place) (place - 1) → IsAhead prefixes place p next
ahead_begins prefixes place p None blocks up at is =
    let e : place ≡ 0 = zero_from place is in
    subst (λ (k : ℕ). IsAhead prefixes k p None) (sym e) (ahead_none prefixes p blocks up (subst (λ (k : ℕ). slice_get prefixes k ≡ Some p) e at))
  where
    zero_from : (n : ℕ) → ¬ (1 ≤ n) → n ≡ 0
    zero_from zero none = refl
    zero_from (suc n) none = absurd (none (omega arith))
ahead_begins prefixes place p (Some j) blocks up at is =
    subst (λ (k : ℕ). IsAhead prefixes place p (Some k)) (sym is.1) (ahead_first prefixes place p blocks up at is.0)

-- where the prefix ahead isn't shorter or doesn't contain p, its parent is ahead
pub ahead_next : (prefixes : List Block) (place j : ℕ) (p r : Block) (parent : Option ℕ) → All IsBlock prefixes → slice_get prefixes j ≡ Some r
    → IsAhead prefixes place p (Some j) → ((r.len < p.len) × ContainsAddress r p.base → ⊥) → IsParent prefixes j r parent
    → IsAhead prefixes place p parent
ahead_next prefixes place j p r parent blocks at ahead away up = record {
  above = λ q on inside.
      let here : (q.len ≤ r.len) × ContainsAddress q r.base = ahead.above q on inside r at in
      let block : IsBlock q = All-contains IsBlock prefixes q blocks on.0 in
      let block_r : IsBlock r = All-contains IsBlock prefixes r blocks (Contains-from_place prefixes j r at) in
      let shorter : q.len < r.len = ⊎_elim
      (λ (l : q.len < r.len). l)
      (λ (l : r.len ≤ q.len).
      let same : q ≡ r = same_block q r r.base block block_r (omega (arith, here.0)) here.1 refl in
      absurd (away (subst (λ (x : Block). (x.len < p.len) × ContainsAddress x p.base) same (on.1, inside))))
      (cases_lt q.len r.len) in
      by_parent q (on.0, shorter) here.1 parent up.next;
  before = earlier parent up.before;
}
  where
    by_parent : (q : Block) → IsShorter prefixes r.len q → ContainsAddress q r.base → (o : Option ℕ) → IsNextShorter prefixes r.len r.base o
        → MatchOption o ⊥ (λ k. (s : Block) → slice_get prefixes k ≡ Some s → (q.len ≤ s.len) × ContainsAddress q s.base)
    by_parent q on inside None none = none q on inside
    by_parent q on inside (Some k) next = λ s at_s.
        let same : next.prefix ≡ s = same_Some next.prefix s (sym next.stands ∙ at_s) in
        let long : q.len ≤ next.prefix.len = next.match.longest q on inside in
        let block_s : IsBlock next.prefix = All-contains IsBlock prefixes next.prefix blocks next.match.is_offered.0 in
        subst (λ (x : Block). (q.len ≤ x.len) × ContainsAddress q x.base) same
        (long, (Covers-common q next.prefix r.base block_s long inside next.match.contains).inside)

    earlier : (o : Option ℕ) → IfSome o (λ k. k < j) → IfSome o (λ k. k < place)
    earlier None _ = tt
    earlier (Some k) l = let m : j < place = ahead.before in omega arith

-- where it is shorter and contains p, it is the parent
pub parent_found : (prefixes : List Block) (place j : ℕ) (p r : Block) → slice_get prefixes j ≡ Some r → IsAhead prefixes place p (Some j)
    → r.len < p.len → ContainsAddress r p.base → IsParent prefixes place p (Some j)
parent_found prefixes place j p r at ahead short inside = record {
  next = record {
    prefix = r;
    stands = at;
    match = record {
      is_offered = (Contains-from_place prefixes j r at, short);
      contains = inside;
      longest = λ q on in_q. (ahead.above q on in_q r at).0;
    };
  };
  before = ahead.before;
}

-- where none is ahead, there is no parent
pub parent_none : (prefixes : List Block) (place : ℕ) (p : Block) (next : Option ℕ) → ((j : ℕ) → next ≡ Some j → ⊥) → IsAhead prefixes place p next
    → IsParent prefixes place p None
parent_none prefixes place p None none ahead = record { next = λ q on inside. ahead.above q on inside; before = tt }
parent_none prefixes place p (Some j) none ahead = absurd (none j refl)

-- how many places may still be looked at
abbrev pub places_left : Option ℕ → ℕ
places_left None = 0
places_left (Some j) = j + 1

-- the parents of a prefix stand before it
pub places_fewer : (parent next : Option ℕ) (j : ℕ) → next ≡ Some j → IfSome parent (λ k. k < j) → places_left parent < places_left next
places_fewer parent next j is before = subst (λ (o : Option ℕ). places_left parent < places_left o) (sym is) (fewer parent before)
  where
    fewer : (o : Option ℕ) → IfSome o (λ k. k < j) → places_left o < j + 1
    fewer None _ = let h : 0 < j + 1 = omega arith in h
    fewer (Some k) l = let h : k + 1 < j + 1 = omega (arith, l) in h
