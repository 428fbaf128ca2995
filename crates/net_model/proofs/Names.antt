-- Configurations in byte order of their names: when they ascend, and which name is the least that two have.
use Rattle.std.proofs.Common.{◌≡◌, ◌≢◌, ℕ, ◌+◌, ◌<◌, ◌≤◌, false, List, length, get_or, Ordering, IsPermutation, refl, sym, ap, subst, ◌∙◌, ◌⊎◌}
use Rattle.std.proofs.Common.{⊎_elim, inl, inr, arith}
use Rattle.std.specs.Cmp.Lexicographic.{slice_cmp, nat_list_cmp_total}
use Rattle.std.specs.FinMap.{nat_cmp-IsAntisymmetric, slice_cmp-IsAntisymmetric}
use Rattle.std.specs.List.{swap}
use Rattle.std.specs.List.Sorted.{IsSortedByKey}
use Rattle.std.specs.Ordering.{nat_cmp, is_lt, ordering_reverse}
use Rattle.std.specs.declared.cmp.Ordering.TheVariants.{Less, Equal, Greater}
use Rattle.std.proofs.lemmas.Bool.{cases_lt, cases_eq}
use Rattle.std.proofs.lemmas.List.{get_or_default}
use Rattle.std.proofs.lemmas.List.Edits.{swapped_from_swap, length-swap}
use Rattle.std.proofs.lemmas.List.Sorted.{ranks_by, sorted_far, IsPermutation-keeps, IsPermutation-sym}
use Rattle.std.proofs.lemmas.Option.{slice_get-get_or, slice_get_within, get_or_from_slice_get}
use Rattle.net_model.specs.Configuration.{Configuration}
use Rattle.net_model.specs.steps.Doubles.{IsDouble, NoDoubles, IsFirstDouble}
use Rattle.net_model.specs.Lookups.{IsNamed}
use Rattle.net_model.specs.Refusals.{IsBelow, NamesAscend, TwoHaveName, IsLeastDouble}

-- the name at a place
abbrev name_at : List Configuration → ℕ → Configuration → List ℕ
name_at configs k d = (get_or configs k d).name

pub same_name : (a b : List ℕ) → slice_cmp nat_cmp a b ≡ Equal → a ≡ b
same_name = slice_cmp-IsAntisymmetric nat_cmp-IsAntisymmetric

less_by : (a b : List ℕ) (r : Ordering) → slice_cmp nat_cmp a b ≡ r → is_lt (slice_cmp nat_cmp b a) ≡ false → (IsBelow a b) ⊎ (a ≡ b)
less_by a b Less e f = inl e
less_by a b Equal e f = inr (same_name a b e)
less_by a b Greater e f =
    let back : slice_cmp nat_cmp b a ≡ Less = nat_list_cmp_total.antisymm b a ∙ ap ordering_reverse e in
    let turned = ap is_lt back in
    cc

-- a name that isn't above another is below it or the same
below_or_same : (a b : List ℕ) → is_lt (slice_cmp nat_cmp b a) ≡ false → (IsBelow a b) ⊎ (a ≡ b)
below_or_same a b f = less_by a b (slice_cmp nat_cmp a b) refl f

not_below : (a b : List ℕ) → is_lt (slice_cmp nat_cmp a b) ≡ false → IsBelow a b → ⊥
not_below a b f e = let turned = ap is_lt e in cc

decided_by : (r : Ordering) → (r ≡ Less → ⊥) → is_lt r ≡ false
decided_by Less f = absurd (f refl)
decided_by Equal f = refl
decided_by Greater f = refl

-- of two names neither of which is below the other
pub neither_below : (a b : List ℕ) → (IsBelow a b → ⊥) → (IsBelow b a → ⊥) → a ≡ b
neither_below a b f g = ⊎_elim (λ l. absurd (f l)) (λ e. e) (below_or_same a b (decided_by (slice_cmp nat_cmp b a) g))

pub IsBelow-irrefl : (a : List ℕ) → IsBelow a a → ⊥
IsBelow-irrefl a e =
    let back : slice_cmp nat_cmp a a ≡ Greater = nat_list_cmp_total.antisymm a a ∙ ap ordering_reverse e in
    cc

module _ (ys : List Configuration) (up : IsSortedByKey (λ (c : Configuration). c.name) (slice_cmp nat_cmp) ys) where
  double_from : (k : ℕ) (d : Configuration) → k + 1 < length ys → name_at ys k d ≡ name_at ys (k + 1) d → IsDouble ys k
  double_from k d l e d' =
      ap (λ (c : Configuration). c.name) (get_or_default ys k d' d (omega arith)) ∙ e ∙ ap (λ (c : Configuration). c.name) (get_or_default ys (k + 1) d d' l)

  not_above : (i j : ℕ) (d : Configuration) → i ≤ j → j < length ys → is_lt (slice_cmp nat_cmp (name_at ys j d) (name_at ys i d)) ≡ false
  not_above = sorted_far (λ (x y : Configuration). is_lt (slice_cmp nat_cmp x.name y.name)) (ranks_by nat_list_cmp_total (λ (c : Configuration). c.name)) ys up

  module _ (none : NoDoubles ys (length ys)) where
    next_below : (k : ℕ) (d : Configuration) → k + 1 < length ys → IsBelow (name_at ys k d) (name_at ys (k + 1) d)
    next_below k d l =
        ⊎_elim (λ b. b) (λ e. absurd (none k l (double_from k d l e)))
        (below_or_same (name_at ys k d) (name_at ys (k + 1) d) (up k d (omega arith) l))

    pub NamesAscend-from_sorted : NamesAscend ys
    NamesAscend-from_sorted i j d l h =
        let next = next_below i d (omega arith) in
        ⊎_elim (nat_list_cmp_total.trans (name_at ys i d) (name_at ys (i + 1) d) (name_at ys j d) next)
        (λ e. subst (IsBelow (name_at ys i d)) e next)
        (below_or_same (name_at ys (i + 1) d) (name_at ys j d) (not_above (i + 1) j d (omega arith) h))

  -- two places of one name don't begin before the first double
  none_earlier : (k : ℕ) → IsFirstDouble ys k → (p q : ℕ) (d : Configuration) → p < q → q < length ys → name_at ys p d ≡ name_at ys q d → p < k → ⊥
  none_earlier k first p q d l h e before =
      let back : is_lt (slice_cmp nat_cmp (name_at ys p d) (name_at ys (p + 1) d)) ≡ false =
      ap (λ n. is_lt (slice_cmp nat_cmp n (name_at ys (p + 1) d))) e ∙ not_above (p + 1) q d (omega arith) h in
      ⊎_elim
      (λ b. not_below (name_at ys p d) (name_at ys (p + 1) d) back b)
      (λ same. first.none_before p (omega arith) (double_from p d (omega arith) same))
      (below_or_same (name_at ys p d) (name_at ys (p + 1) d) (up p d (omega arith) (omega arith)))

  -- the name of two places isn't below that of the first double
  none_lower : (k : ℕ) → IsFirstDouble ys k → (p q : ℕ) (d : Configuration) → p < q → q < length ys → name_at ys p d ≡ name_at ys q d →
      IsBelow (name_at ys p d) (name_at ys k d) → ⊥
  none_lower k first p q d l h e below =
      ⊎_elim
      (λ before. none_earlier k first p q d l h e before)
      (λ after. not_below (name_at ys p d) (name_at ys k d) (not_above k p d after (omega arith)) below)
      (cases_lt p k)

pub named_at : (configs : List Configuration) (name : List ℕ) (u : ℕ) (d : Configuration) → IsNamed configs name u → name_at configs u d ≡ name
named_at configs name u d h = ap (λ (c : Configuration). c.name) (get_or_from_slice_get configs u h.config d h.router) ∙ h.name_is

pub named_within : (configs : List Configuration) (name : List ℕ) (u : ℕ) → IsNamed configs name u → u < length configs
named_within configs name u h = slice_get_within configs u h.config h.router

pub named_from : (configs : List Configuration) (name : List ℕ) (u : ℕ) (d : Configuration) → u < length configs →
    name_at configs u d ≡ name → IsNamed configs name u
named_from configs name u d l e = record { config = get_or configs u d; router = slice_get-get_or configs u d l; name_is = e }

-- where an exchange of two places moves a name to
record Moves (xs ys : List Configuration) (i j k : ℕ) (name : List ℕ) : Type 0 where
  to : ℕ
  is : IsNamed ys name to
  where_to : ((k ≡ i) × (to ≡ j)) ⊎ ((k ≡ j) × (to ≡ i)) ⊎ ((k ≢ i) × (k ≢ j) × (to ≡ k))

moved : (xs : List Configuration) (i j k : ℕ) (name : List ℕ) → i < length xs → j < length xs → IsNamed xs name k → Moves xs (swap xs i j) i j k name
moved xs i j k name l h n =
    let d = n.config in
    let s = swapped_from_swap xs (swap xs i j) i j d l h refl in
    let long = length-swap xs i j in
    let at = named_at xs name k d n in
    let inside = named_within xs name k n in
    let nm : Configuration → List ℕ = λ c. c.name in
    ⊎_elim
    (λ a. record {
      to = j;
      is = named_from (swap xs i j) name j d (omega arith) (ap nm s.1 ∙ ap (λ m. name_at xs m d) (sym a) ∙ at);
      where_to = inl (a, refl);
    })
    (λ a. ⊎_elim
    (λ b. record {
      to = i;
      is = named_from (swap xs i j) name i d (omega arith) (ap nm s.0 ∙ ap (λ m. name_at xs m d) (sym b) ∙ at);
      where_to = inr (inl (b, refl));
    })
    (λ b. record { to = k; is = named_from (swap xs i j) name k d (omega arith) (ap nm (s.2 k a b) ∙ at); where_to = inr (inr (a, b, refl)) })
    (cases_eq k j))
    (cases_eq k i)

still_apart : (i j k m p q : ℕ) → ((k ≡ i) × (p ≡ j)) ⊎ ((k ≡ j) × (p ≡ i)) ⊎ ((k ≢ i) × (k ≢ j) × (p ≡ k)) → ((m ≡ i) × (q ≡ j)) ⊎ ((m ≡ j) × (q ≡ i)) ⊎
    ((m ≢ i) × (m ≢ j) × (q ≡ m)) → k ≢ m → p ≡ q → ⊥
still_apart i j k m p q a b ne e = grind arith

moved_both : (xs : List Configuration) (i j : ℕ) (name : List ℕ) → i < length xs → j < length xs → TwoHaveName xs name → TwoHaveName (swap xs i j) name
moved_both xs i j name l h t =
    let a = moved xs i j t.one name l h t.first in
    let b = moved xs i j t.two name l h t.second in
    record { one = a.to; two = b.to; apart = still_apart i j t.one t.two a.to b.to a.where_to b.where_to t.apart; first = a.is; second = b.is }

pub TwoHaveName-permutation : (xs ys : List Configuration) (name : List ℕ) → IsPermutation xs ys → TwoHaveName xs name → TwoHaveName ys name
TwoHaveName-permutation xs ys name moves t =
    IsPermutation-keeps xs (λ l. TwoHaveName l name) t (λ l i j a b. moved_both l i j name a b) ys moves

none_least : (ys : List Configuration) → IsSortedByKey (λ (c : Configuration). c.name) (slice_cmp nat_cmp) ys → (k : ℕ) (name : List ℕ) (d : Configuration) →
    IsFirstDouble ys k → name_at ys k d ≡ name → (other : List ℕ) → TwoHaveName ys other → IsBelow other name → ⊥
none_least ys up k name d first is other t below =
    let one = named_at ys other t.one d t.first in
    let two = named_at ys other t.two d t.second in
    let low : (p : ℕ) → name_at ys p d ≡ other → IsBelow (name_at ys p d) (name_at ys k d) =
    λ p e. ap (λ n. slice_cmp nat_cmp n (name_at ys k d)) e ∙ ap (slice_cmp nat_cmp other) is ∙ below in
    ⊎_elim
    (λ l. none_lower ys up k first t.one t.two d l (named_within ys other t.two t.second) (one ∙ sym two) (low t.one one))
    (λ h. none_lower ys up k first t.two t.one d (omega (arith, t.apart)) (named_within ys other t.one t.first) (two ∙ sym one) (low t.two two))
    (cases_lt t.one t.two)

pub IsLeastDouble-first : (xs ys : List Configuration) (k : ℕ) (name : List ℕ) (d : Configuration) → IsPermutation xs ys →
    IsSortedByKey (λ (c : Configuration). c.name) (slice_cmp nat_cmp) ys → IsFirstDouble ys k → name_at ys k d ≡ name → IsLeastDouble xs name
IsLeastDouble-first xs ys k name d moves up first is =
    let back = IsPermutation-sym xs ys moves in
    record {
      double = TwoHaveName-permutation ys xs name back (record {
        one = k;
        two = k + 1;
        apart = omega arith;
        first = named_from ys name k d (omega (arith, first.within)) is;
        second = named_from ys name (k + 1) d first.within (sym (first.double d) ∙ is);
      });
      least = λ other t below. none_least ys up k name d first is other (TwoHaveName-permutation xs ys other moves t) below;
    }
