-- Routers of a sort, one after the other, and the areas of a router.
use Rattle.std.proofs.Common.{◌≡◌, ℕ, ◌+◌, ◌<◌, ◌↔◌, Bool, true, false, if◌then◌else◌, List, [], ◌∷◌, ◌++◌, length, Option, Some, None}
use Rattle.std.proofs.Common.{IsTrue, IsPermutation, nat_cmp, nat_eq, ⊎_elim, inl, inr, refl, sym, subst, arith}
use Rattle.std.specs.List.{dedup, filter_map}
use Rattle.std.specs.List.Sorted.{IsSorted}
use Rattle.std.proofs.lemmas.Bool.{cases_lt}
use Rattle.std.proofs.lemmas.List.{append-nil}
use Rattle.std.proofs.lemmas.List.Kept.{AllPairs-from_increasing, Contains-dedup_nat, Contains-from_dedup}
use Rattle.std.proofs.lemmas.List.Sorted.{Contains-permutation, IsPermutation-sym}
use Rattle.std.proofs.lemmas.Map.Keys.{IsStrictlyIncreasing-dedup}
use Rattle.std.proofs.lemmas.Option.{slice_get_within}
use Rattle.net_model.specs.Configuration.{Configuration}
use Rattle.net_model.specs.Network.{Network, HasConfiguration, RunsArea}
use Rattle.net_model.proofs.Adjacency.{HasConfiguration-unique}
use Rattle.net_model.proofs.Members.{Contains-filter_map, Contains-in_filter_map}
use Rattle.network_survey.specs.Routers.{IsRouterOf, ListsAreas, ListsNumbers}
use Rattle.network_survey.specs.steps.RouterLists.{IsRouterBelow, area_if_up}
use Rattle.network_survey.proofs.ListingFacts.{ListsAll-none, ListsAll-push, ListsAll-same}

pub ListsNumbers-none : (P : ℕ → Type 0) → ListsNumbers (IsRouterBelow P 0) []
ListsNumbers-none P = ListsAll-none (λ (m n : ℕ). m < n) (IsRouterBelow P 0) (λ x b. omega (arith, b.below))

module _ (Sort : Configuration → Type 0) (net : Network) where
  pub ListsNumbers-more : (u : ℕ) (c : Configuration) → HasConfiguration net u c → (told : Bool) → IsTrue told ↔ Sort c →
      (old : List ℕ) → ListsNumbers (IsRouterBelow (IsRouterOf Sort net) u) old →
      ListsNumbers (IsRouterBelow (IsRouterOf Sort net) (u + 1)) (old ++ (if told then u ∷ [] else []))
  ListsNumbers-more u c router true says old lists =
      ListsAll-push (λ (m n : ℕ). m < n) (IsRouterBelow (IsRouterOf Sort net) u) (IsRouterBelow (IsRouterOf Sort net) (u + 1)) old u
      (λ x b. record { below = omega (arith, b.below); holds = b.holds })
      (λ x b. ⊎_elim (λ l. inl (record { below = l; holds = b.holds })) (λ g. inr (omega (arith, b.below, g))) (cases_lt x u))
      (record { below = omega arith; holds = record { config = c; router = router; sort = says.0 refl } }) (λ x b. b.below) lists
  ListsNumbers-more u c router false says old lists =
      rw (append-nil old)
      (ListsAll-same (λ (m n : ℕ). m < n) (IsRouterBelow (IsRouterOf Sort net) u) (IsRouterBelow (IsRouterOf Sort net) (u + 1)) old
      (λ x b. record { below = omega (arith, b.below); holds = b.holds })
      (λ x b. ⊎_elim (λ l. record { below = l; holds = b.holds }) (λ g. absurd (other x b.holds (omega (arith, b.below, g)))) (cases_lt x u)) lists)
    where
      other : (x : ℕ) → IsRouterOf Sort net x → x ≡ u → ⊥
      other x is e =
          let same : is.config ≡ c = HasConfiguration-unique net u is.config c (subst (λ w. HasConfiguration net w is.config) e is.router) router in
          cc (says.1 (subst Sort same is.sort))

  pub ListsNumbers-all : (found : List ℕ) → ListsNumbers (IsRouterBelow (IsRouterOf Sort net) (length net)) found →
      ListsNumbers (IsRouterOf Sort net) found
  ListsNumbers-all found =
      ListsAll-same (λ (m n : ℕ). m < n) (IsRouterBelow (IsRouterOf Sort net) (length net)) (IsRouterOf Sort net) found (λ x b. b.holds)
      (λ x is. record { below = slice_get_within net x is.config is.router; holds = is })

if_up : (up : Bool) (area : Option ℕ) (n : ℕ) → (if up then area else None) ≡ Some n → IsTrue up × (area ≡ Some n)
if_up true area n e = (refl, e)
if_up false area n e = cc

from_up : (up : Bool) (area : Option ℕ) (n : ℕ) → IsTrue up → area ≡ Some n → (if up then area else None) ≡ Some n
from_up true area n u e = e
from_up false area n u e = cc

-- the sorted areas without repeats are those of the router
pub ListsAreas-sorted : (c : Configuration) (ys zs : List ℕ) → IsPermutation (filter_map area_if_up c.interfaces) ys → IsSorted nat_cmp ys →
    zs ≡ dedup nat_eq ys → ListsAreas c zs
ListsAreas-sorted c ys zs moved up is =
    subst (ListsAreas c) (sym is) (record {
      exact = λ n. (
        λ h. let one = Contains-filter_map area_if_up c.interfaces n (Contains-permutation ys _ n (IsPermutation-sym _ ys moved) (Contains-from_dedup nat_eq ys n h)) in
            let runs = if_up one.item.up one.item.area n one.gives in
            let at : RunsArea n one.item = record { up = runs.0; area_is = runs.1 } in
            (one.among.0, one.item, one.among.1, one.among.2, at),
        λ h. Contains-dedup_nat ys n (Contains-permutation _ ys n moved
            (Contains-in_filter_map area_if_up c.interfaces h.1 n (h.0, h.2, h.3) (from_up h.1.up h.1.area n h.4.up h.4.area_is))),
      );
      ascending = AllPairs-from_increasing (dedup nat_eq ys) (IsStrictlyIncreasing-dedup ys up);
    })
