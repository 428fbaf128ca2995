-- Two routers with one system id.
use Rattle.std.proofs.Common.{arith}
use Rattle.std.proofs.lemmas.Grind.{common_steps}
use Rattle.std.proofs.Common.{◌≡◌, ◌≢◌, ℕ, zero, suc, ◌<◌, List, [], ◌∷◌, length, Option, None, Some, Contains, AllPairs, IsPermutation, eqb}
use Rattle.std.proofs.Common.{sym, ap, subst, ◌∙◌, ⊎_elim}
use Rattle.std.specs.Cmp.{unsigned_Decides}
use Rattle.std.specs.List.{cons_option, filter_map, slice_get}
use Rattle.std.specs.List.Sorted.{IsStrictlyIncreasing}
use Rattle.std.proofs.lemmas.Bool.{cases_lt}
use Rattle.std.proofs.lemmas.List.Sorted.{IsPermutation-sym}
use Rattle.std.proofs.lemmas.Map.Keys.{IsDistinct-IsPermutation}
use Rattle.std.proofs.lemmas.List.Kept.{AllPairs-from_increasing}
use Rattle.std.proofs.lemmas.Map.Made.{AllPairs-from_IsDistinct, IsDistinct-from_AllPairs}
use Rattle.std.proofs.lemmas.Option.{get_or_from_slice_get, same_Some, slice_get_within}
use Rattle.net_model.specs.Conditions.{HaveOneSystem, SystemsDiffer}
use Rattle.net_model.specs.Network.{Network}
use Rattle.net_model.specs.steps.Scans.{IsMutual}
use Rattle.net_model.specs.steps.Systems.{own_system}
use Rattle.net_model.proofs.Dests.{from_up}
use Rattle.net_model.proofs.Members.{Contains-in_filter_map}
use Rattle.net_model.proofs.NetworkFacts.{HasConfiguration-within}

HaveOneSystem-within : (net : Network) (u v s : ℕ) → HaveOneSystem net u v s → v < length net
HaveOneSystem-within net u v s h = HasConfiguration-within net v h.two h.two_router

HaveOneSystem-sym : (net : Network) (u v s : ℕ) → HaveOneSystem net u v s → HaveOneSystem net v u s
HaveOneSystem-sym net u v s h = grind (arith, common_steps)

pub HaveOneSystem-mutual : (net : Network) → IsMutual (HaveOneSystem net) (length net)
HaveOneSystem-mutual net = record { within = HaveOneSystem-within net; back = HaveOneSystem-sym net }

-- where what a list gives is apart, no two places give one thing
apart_places : {X A : Type 0} (give : X → Option A) (xs : List X) (x y : X) (a : A) (u v : ℕ) →
    AllPairs (λ (p q : A). p ≢ q) (filter_map give xs) → u < v →
    slice_get xs u ≡ Some x → slice_get xs v ≡ Some y → give x ≡ Some a → give y ≡ Some a → ⊥
apart_places give [] x y a u v apart less at_u at_v is_x is_y = cc
apart_places give (z ∷ zs) x y a u zero apart less at_u at_v is_x is_y = absurd (omega arith)
apart_places {X} {A} give (z ∷ zs) x y a zero (suc v) apart less at_u at_v is_x is_y =
    let among : Contains zs y = (v, slice_get_within zs v y at_v, get_or_from_slice_get zs v y y at_v) in
    let inside = Contains-in_filter_map give zs y a among is_y in
    let first : give z ≡ Some a = ap give (same_Some z x at_u) ∙ is_x in
    let all = subst (λ (o : Option A). AllPairs (λ (p q : A). p ≢ q) (cons_option o (filter_map give zs))) first apart in
    all 0 (suc inside.0) a (omega arith) (omega (arith, inside.1)) (sym inside.2)
apart_places {X} {A} give (z ∷ zs) x y a (suc u) (suc v) apart less at_u at_v is_x is_y =
    apart_places give zs x y a u v (rest (give z) apart) (omega arith) at_u at_v is_x is_y
  where
    rest : (o : Option A) → AllPairs (λ (p q : A). p ≢ q) (cons_option o (filter_map give zs)) →
        AllPairs (λ (p q : A). p ≢ q) (filter_map give zs)
    rest None all = all
    rest (Some b) all = λ i j d l h. all (suc i) (suc j) d (omega arith) (omega arith)

-- where the sorted system ids rise, no two routers have one
pub SystemsDiffer-sorted : (net : Network) (systems : List ℕ) → IsPermutation (filter_map own_system net) systems →
    IsStrictlyIncreasing systems → SystemsDiffer net
SystemsDiffer-sorted net systems moved up u v s h =
    ⊎_elim (λ less. apart_places own_system net h.one h.two s u v apart less h.one_router h.two_router one two)
    (λ le. apart_places own_system net h.two h.one s v u apart (omega (arith, h.apart)) h.two_router h.one_router two one)
    (cases_lt u v)
  where
    apart : AllPairs (λ (p q : ℕ). p ≢ q) (filter_map own_system net)
    apart = AllPairs-from_IsDistinct unsigned_Decides (filter_map own_system net)
        (IsDistinct-IsPermutation eqb (λ x y. grind (arith, common_steps)) systems (filter_map own_system net)
        (IsPermutation-sym _ _ moved)
        (IsDistinct-from_AllPairs unsigned_Decides systems (λ i j d l h e.
        omega (arith, e, AllPairs-from_increasing systems up i j d l h))))

    one : own_system h.one ≡ Some s
    one = from_up h.one.isis _ _ h.one_runs (ap Some h.one_system)

    two : own_system h.two ≡ Some s
    two = from_up h.two.isis _ _ h.two_runs (ap Some h.two_system)
