-- The better of the best routes of two kinds is the best of both.
use Rattle.std.proofs.Common.{◌≡◌, ℕ, ◌<◌, ◌≤◌, ◌⊎◌, ⊎_elim, inl, inr, Bool, true, false, Option, None, Some, IfSome, cond}
use Rattle.std.proofs.Common.{refl, arith}
use Rattle.std.proofs.lemmas.Bool.Decides.{nat_tests}
use Rattle.igp_theory.specs.Forwarding.{Usable, Kind}
use Rattle.used_routes.specs.declared.used.Origin.{Origin}
use Rattle.used_routes.specs.declared.used.UsedRoute.{UsedRoute}
use Rattle.used_routes.specs.steps.Found.{HasNone, IsBestUsed, IsFoundUsed, better_route, comes_first}

-- entries of either kind
abbrev pub Either : Kind → Kind → Kind
Either one other p d x = one p d x ⊎ other p d x

-- the first comes before whatever comes after the second
record ComesBefore (x y : UsedRoute) : Type 0 where
  longer : y.prefix.len ≤ x.prefix.len
  lower : y.prefix.len ≡ x.prefix.len → x.distance ≤ y.distance

came_first : (x y : UsedRoute) → comes_first x y ≡ true → ComesBefore x y
came_first x y h = record { longer = grind (arith, nat_tests); lower = λ e. grind (arith, nat_tests) }

came_second : (x y : UsedRoute) → comes_first x y ≡ false → ComesBefore y x
came_second x y h = record { longer = grind (arith, nat_tests); lower = λ e. grind (arith, nat_tests) }

module _ (usable : Origin → Usable) (S T : Kind) (a : ℕ) where
  first_best : (x y : UsedRoute) → IsBestUsed usable S a x → IsBestUsed usable T a y → ComesBefore x y → IsBestUsed usable (Either S T) a x
  first_best x y best other before = record {
    counts = inl best.counts;
    contains = best.contains;
    longest = λ q d z h c. ⊎_elim (λ s. best.longest q d z s c)
        (λ t. let l = other.longest q d z t c in let m = before.longer in omega (arith, l, m)) h;
    lowest = λ q d z h c e. ⊎_elim (λ s. best.lowest q d z s c e)
        (λ t.
        let l = other.longest q d z t c in
        let m = before.longer in
        let same : y.prefix.len ≡ x.prefix.len = omega (arith, l, m, e) in
        let low = other.lowest q d z t c (omega (arith, l, m, e)) in
        let lower = before.lower same in
        omega (arith, low, lower)) h;
  }

  alone : (x : UsedRoute) → IsBestUsed usable S a x → HasNone T a → IsBestUsed usable (Either S T) a x
  alone x best none = record {
    counts = inl best.counts;
    contains = best.contains;
    longest = λ q d z h c. ⊎_elim (λ s. best.longest q d z s c) (λ t. absurd (none q d z t c)) h;
    lowest = λ q d z h c e. ⊎_elim (λ s. best.lowest q d z s c e) (λ t. absurd (none q d z t c)) h;
  }

turned : (usable : Origin → Usable) (S T : Kind) (a : ℕ) (x : UsedRoute) → IsBestUsed usable (Either S T) a x →
    IsBestUsed usable (Either T S) a x
turned usable S T a x best = record {
  counts = ⊎_elim inr inl best.counts;
  contains = best.contains;
  longest = λ q d z h c. best.longest q d z (⊎_elim inr inl h) c;
  lowest = λ q d z h c e. best.lowest q d z (⊎_elim inr inl h) c e;
}

chosen : (usable : Origin → Usable) (S T : Kind) (a : ℕ) (x y : UsedRoute) (b : Bool) → comes_first x y ≡ b →
    IsBestUsed usable S a x → IsBestUsed usable T a y →
    IsBestUsed usable (Either S T) a (cond b x y)
chosen usable S T a x y true is one other = first_best usable S T a x y one other (came_first x y is)
chosen usable S T a x y false is one other = turned usable T S a y (first_best usable T S a y x other one (came_second x y is))

pub better_found : (usable : Origin → Usable) (S T : Kind) (a : ℕ) (x y : Option UsedRoute) → IsFoundUsed usable S a x →
    IsFoundUsed usable T a y → IsFoundUsed usable (Either S T) a (better_route x y)
better_found usable S T a None None one other = λ q d z h c. ⊎_elim (λ s. one q d z s c) (λ t. other q d z t c) h
better_found usable S T a None (Some y) one other = turned usable T S a y (alone usable T S a y other one)
better_found usable S T a (Some x) None one other = alone usable S T a x one other
better_found usable S T a (Some x) (Some y) one other = chosen usable S T a x y (comes_first x y) refl one other

-- what holds of both origins holds of that of the better one
pub better_within : (P : Origin → Type 0) (x y : Option UsedRoute) → IfSome x (λ r. P r.origin) → IfSome y (λ r. P r.origin) →
    IfSome (better_route x y) (λ r. P r.origin)
better_within P None None one other = tt
better_within P None (Some y) one other = other
better_within P (Some x) None one other = one
better_within P (Some x) (Some y) one other =
    elim (comes_first x y) as (λ b. P (cond b x y).origin) [ true ↦ one | false ↦ other ]
