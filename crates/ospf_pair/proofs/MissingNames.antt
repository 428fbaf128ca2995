-- Two networks whose names ascend: the lesser name at the first number where they differ is the least that stands in one alone.
use Rattle.std.proofs.Common.{◌≡◌, ℕ, ◌<◌, ◌≤◌, List, Option, Some, None, MatchOption, length, get_or, refl, sym, ap, subst, ◌∙◌, ⊎_elim, inl, inr, arith, ◌↔◌}
use Rattle.std.specs.Cmp.Lexicographic.{slice_cmp, nat_list_cmp_total}
use Rattle.std.specs.Ordering.{nat_cmp, ordering_reverse}
use Rattle.std.specs.declared.cmp.Ordering.TheVariants.{Greater}
use Rattle.std.proofs.lemmas.Bool.{cases_lt, cases_eq}
use Rattle.net_model.specs.Configuration.{Configuration}
use Rattle.net_model.specs.Lookups.{IsNamed}
use Rattle.net_model.specs.Network.{Network}
use Rattle.net_model.specs.Refusals.{IsBelow, NamesAscend}
use Rattle.net_model.proofs.Adjacency.{HasConfiguration-unique}
use Rattle.net_model.proofs.Names.{IsBelow-irrefl, named_at, named_from, named_within}
use Rattle.net_model.proofs.NetworkFacts.{IsNamed-unique}
use Rattle.ospf_pair.specs.NetworkPairs.{NetworkPair, HasRouter, StandsInOne, HaveSameRouters}
use Rattle.ospf_pair.specs.PairRefusals.{IsLeastName}
use Rattle.ospf_pair.specs.steps.Places.{HasLesser, IsLesserAt, IsNamedAlikeAt}

-- of two names of which the first comes after the second
pub below_from_greater : (one other : List ℕ) → slice_cmp nat_cmp one other ≡ Greater → IsBelow other one
below_from_greater one other e = nat_list_cmp_total.antisymm other one ∙ ap ordering_reverse e

-- a router has one name
pub IsNamed-same : (net : Network) (one other : List ℕ) (u : ℕ) → IsNamed net one u → IsNamed net other u → one ≡ other
IsNamed-same net one other u h k =
    sym h.name_is ∙ ap (λ (c : Configuration). c.name) (HasConfiguration-unique net u h.config k.config h.router k.router) ∙ k.name_is

-- later numbers have later names
named_later : (net : Network) (one other : List ℕ) (u v : ℕ) → NamesAscend net → IsNamed net one u → IsNamed net other v → u < v →
    IsBelow one other
named_later net one other u v up h k l =
    let d = h.config in
    let below = up u v d l (named_within net other v k) in
    let P : List ℕ → List ℕ → Type 0 = λ a b. IsBelow a b in
    subst (λ a. P a other) (named_at net one u d h) (subst (P (get_or net u d).name) (named_at net other v d k) below)

-- a lower name has a lower number
pub named_lower : (net : Network) (name other : List ℕ) (u v : ℕ) → NamesAscend net → IsNamed net name u → IsNamed net other v →
    IsBelow other name → v < u
named_lower net name other u v up h k below =
    ⊎_elim (λ l. l)
    (λ (g : u ≤ v). absurd (⊎_elim
    (λ (e : u ≡ v). IsBelow-irrefl name (subst (λ (n : List ℕ). IsBelow n name)
    (IsNamed-same net other name v k (subst (IsNamed net name) e h)) below))
    (λ apart. IsBelow-irrefl name (nat_list_cmp_total.trans name other name (named_later net name other u v up h k (omega arith)) below))
    (cases_eq u v)))
    (cases_lt v u)

-- at each number below one of a router stands a router
named_before : (net : Network) (name : List ℕ) (u v : ℕ) → IsNamed net name v → u < v → (its : List ℕ) × IsNamed net its u
named_before net name u v k l =
    let within : u < length net = omega (arith, named_within net name v k) in
    ((get_or net u k.config).name, named_from net (get_or net u k.config).name u k.config within refl)

-- two networks that have the same names below number u, where the first one has the lesser name
module _ (net other : Network) (u : ℕ) (name : List ℕ) (up : NamesAscend net) (other_up : NamesAscend other)
    (same : (v : ℕ) → v < u → (its : List ℕ) → IsNamed net its v ↔ IsNamed other its v) (lesser : HasLesser net other u name) where
  -- a name that the other one has from there on comes after the lesser one
  comes_after : (its : List ℕ) (v : ℕ) → u ≤ v → IsNamed other its v → IsBelow name its
  comes_after its v g k =
      ⊎_elim
      (λ (e : u ≡ v). lesser.before its (subst (IsNamed other its) (sym e) k))
      (λ apart.
      let l : u < v = omega arith in
      let mid = named_before other its u v k l in
      nat_list_cmp_total.trans name mid.0 its (lesser.before mid.0 mid.1) (named_later other mid.0 its u v other_up mid.1 k l))
      (cases_eq u v)

  absent : HasRouter other name → ⊥
  absent (v, k) =
      ⊎_elim
      (λ (l : v < u). let e : v ≡ u = IsNamed-unique net name v u up ((same v l name).1 k) lesser.named in absurd (omega arith))
      (λ g. IsBelow-irrefl name (comes_after name v g k))
      (cases_lt v u)

  -- a name below it stands in both networks, or in neither
  both_below : (its : List ℕ) → IsBelow its name → HasRouter net its ↔ HasRouter other its
  both_below its below = (
    λ (v, k). (v, (same v (named_lower net name its u v up lesser.named k below) its).0 k),
    λ (v, k). ⊎_elim
        (λ (l : v < u). let found : HasRouter net its = (v, (same v l its).1 k) in found)
        (λ g. absurd (IsBelow-irrefl name (nat_list_cmp_total.trans name its name (comes_after its v g k) below)))
        (cases_lt v u),
  )

module _ (nets : NetworkPair) (u : ℕ) (name : List ℕ) (old_up : NamesAscend nets.old) (new_up : NamesAscend nets.new)
    (same : (v : ℕ) → v < u → IsNamedAlikeAt nets v) where
  by_old : HasLesser nets.old nets.new u name → IsLeastName (StandsInOne nets) name
  by_old h = record {
    holds = inl ((u, h.named), absent nets.old nets.new u name old_up new_up (λ v l its. same v l its) h);
    least = λ its stands below.
        let both = both_below nets.old nets.new u name old_up new_up (λ v l its. same v l its) h its below in
        ⊎_elim (λ a. a.1 (both.0 a.0)) (λ b. b.0 (both.1 b.1)) stands;
  }

  by_new : HasLesser nets.new nets.old u name → IsLeastName (StandsInOne nets) name
  by_new h =
      let back : (v : ℕ) → v < u → (its : List ℕ) → IsNamed nets.new its v ↔ IsNamed nets.old its v =
      λ v l its. ((same v l its).1, (same v l its).0) in
      record {
        holds = inr (absent nets.new nets.old u name new_up old_up back h, (u, h.named));
        least = λ its stands below.
            let both = both_below nets.new nets.old u name new_up old_up back h its below in
            ⊎_elim (λ a. a.1 (both.1 a.0)) (λ b. b.0 (both.0 b.1)) stands;
      }

  pub IsLeastName-from_lesser : IsLesserAt nets u name → IsLeastName (StandsInOne nets) name
  IsLeastName-from_lesser h = ⊎_elim by_old by_new h

-- two networks that have the same names at each number below both counts have the same routers
pub HaveSameRouters-below : (nets : NetworkPair) (n : ℕ) → length nets.old ≤ n → length nets.new ≤ n → ((v : ℕ) → v < n → IsNamedAlikeAt nets v) →
    HaveSameRouters nets
HaveSameRouters-below nets n old_few new_few same name v = (
  λ k. (same v (omega (arith, named_within nets.old name v k)) name).0 k,
  λ k. (same v (omega (arith, named_within nets.new name v k)) name).1 k,
)

-- where the old network has no name at a number, the lesser one is that of the new network, if it has one
pub lesser_from_new : {A : Type 0} (value : A → List ℕ) (nets : NetworkPair) (u : ℕ) (found : Option A) →
    ((name : List ℕ) → IsNamed nets.old name u → ⊥) →
    MatchOption found ((name : List ℕ) → IsNamed nets.new name u → ⊥) (λ x. IsNamed nets.new (value x) u) →
    MatchOption found (IsNamedAlikeAt nets u) (λ x. IsLesserAt nets u (value x))
lesser_from_new value nets u None none h = λ name. (λ k. absurd (none name k), λ k. absurd (h name k))
lesser_from_new value nets u (Some x) none h = inr (record { named = h; before = λ its k. absurd (none its k) })
