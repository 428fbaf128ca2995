-- The sorted list of prefixes without repeats is what the limit counts.
use Rattle.std.proofs.Common.{◌≡◌, ◌≢◌, ◌↔◌, ◌≤◌, ℕ, Bool, true, false, if◌then◌else◌, List, [], ◌∷◌, length, map, Option, Some, None, IsTrue, AllPairs}
use Rattle.std.proofs.Common.{Contains, IsPermutation, refl, sym, subst, ◌∙◌, ⊎_elim, arith}
use Rattle.std.proofs.lemmas.Grind.{common_steps}
use Rattle.std.proofs.lemmas.List.{get_or_default}
use Rattle.std.specs.List.{dedup}
use Rattle.std.specs.List.Sorted.{IsSorted}
use Rattle.std.proofs.lemmas.List.Sorted.{Contains-permutation, IsPermutation-sym, length_permutation, sum_by-IsPermutation}
use Rattle.std.proofs.lemmas.List.Elements.{Contains-append_left, Contains-append_right, Contains-append_cases}
use Rattle.net_addr.specs.Addresses.{Block}
use Rattle.net_addr.proofs.BlockOrder.{apart_once, block_cmp, block_eq, block_same, same_prefixes}
use Rattle.net_model.specs.Configuration.{Configuration}
use Rattle.std.specs.Bool.{Decides}
use Rattle.std.specs.Set.{is_member}
use Rattle.std.proofs.lemmas.Map.Made.{is_member-Decides}
use Rattle.std.proofs.lemmas.List.Kept.{AllPairs-cons}
use Rattle.net_model.specs.declared.bounds.TheConstants.{MOST_DESTS, MOST_ROUTERS, MOST_UP_INTERFACES}
use Rattle.net_model.specs.Limits.{all_up_interfaces, up_interfaces, NamesDest, IsDest, CountsDests, IsWithinLimits}
use Rattle.net_model.specs.Limits.NamesDest.{by_interface, by_range}
use Rattle.net_model.specs.DestLists.{subnet_if_up, own_dests, all_dests}
use Rattle.net_model.specs.declared.area.Range.{Range}
use Rattle.net_model.proofs.Members.{Contains-first, Contains-rest, Contains-cases, Contains-flat_map, Contains-in_flat_map, Contains-map, Contains-in_map, Contains-filter_map, Contains-in_filter_map}

if_up : (up : Bool) (subnet : Option Block) (p : Block) → (if up then subnet else None) ≡ Some p → IsTrue up × (subnet ≡ Some p)
if_up true subnet p e = (refl, e)
if_up false subnet p e = cc

pub from_up : {X : Type 0} (up : Bool) (given : Option X) (x : X) → IsTrue up → given ≡ Some x → (if up then given else None) ≡ Some x
from_up true given x u e = e
from_up false given x u e = cc

own_from_list : (c : Configuration) (p : Block) → Contains (own_dests c) p → NamesDest c p
own_from_list c p h =
    ⊎_elim
    (λ l.
    let one = Contains-filter_map subnet_if_up c.interfaces p l in
    let is = if_up one.item.up one.item.subnet p one.gives in
    by_interface one.item one.among is.0 is.1)
    (λ r.
    let one = Contains-map (λ (g : Range). g.dest) c.ranges p r in
    by_range one.item one.among one.gives)
    (Contains-append_cases _ _ p h)

list_from_own : (c : Configuration) (p : Block) → NamesDest c p → Contains (own_dests c) p
list_from_own c p (by_interface i c' u e) =
    Contains-append_left _ _ p (Contains-in_filter_map subnet_if_up c.interfaces i p c' (from_up i.up i.subnet p u e))
list_from_own c p (by_range r c' e) =
    Contains-append_right _ _ p (subst (Contains (map (λ (g : Range). g.dest) c.ranges)) e (Contains-in_map (λ (g : Range). g.dest) c.ranges r c'))

IsDest-from_list : (configs : List Configuration) (p : Block) → Contains (all_dests configs) p → IsDest configs p
IsDest-from_list configs p h =
    let one = Contains-flat_map own_dests configs p h in
    record { config = one.item; among = one.among; names = own_from_list one.item p one.inside }

list-from_IsDest : (configs : List Configuration) (p : Block) → IsDest configs p → Contains (all_dests configs) p
list-from_IsDest configs p d = Contains-in_flat_map own_dests configs d.config p d.among (list_from_own d.config p d.names)

pub CountsDests-sorted : (configs : List Configuration) (ys zs : List Block) → IsPermutation (all_dests configs) ys → IsSorted block_cmp ys →
    zs ≡ dedup block_eq ys → CountsDests configs (length zs)
CountsDests-sorted configs ys zs moved up is = record {
  dests = zs;
  once = apart_once ys zs up is;
  exact = λ p. let same = same_prefixes (all_dests configs) ys zs p moved is in
      (λ c. IsDest-from_list configs p (same.0 c), λ d. same.1 (list-from_IsDest configs p d));
  count_is = refl;
}

block_Decides : (x y : Block) → Decides (block_eq x y) (x ≡ y)
block_Decides x y = (block_same x y, λ e. grind (arith, common_steps))

-- a list with the prefixes of another, each once, and no longer
record Once (xs : List Block) : Type 0 where
  ys : List Block
  apart : AllPairs (λ (p q : Block). p ≢ q) ys
  same : (p : Block) → Contains ys p ↔ Contains xs p
  few : length ys ≤ length xs

once : (xs : List Block) → Once xs
once [] = record { ys = []; apart = λ i j d l h. absurd (omega (arith, l, h)); same = λ p. (λ c. c, λ c. c); few = omega arith }
once (x ∷ xs) = let rest = once xs in cases rest (is_member block_eq rest.ys x) refl
  where
    cases : (rest : Once xs) (t : Bool) → is_member block_eq rest.ys x ≡ t → Once (x ∷ xs)
    cases rest true e = record {
      ys = rest.ys;
      apart = rest.apart;
      same = λ p. (
        λ c. Contains-rest x xs p ((rest.same p).0 c),
        λ c. ⊎_elim (λ i. subst (Contains rest.ys) i ((is_member-Decides block_Decides rest.ys x).0 e)) (λ r. (rest.same p).1 r)
            (Contains-cases x xs p c),
      );
      few = omega (arith, rest.few);
    }
    cases rest false e = record {
      ys = x ∷ rest.ys;
      apart = AllPairs-cons (λ (p q : Block). p ≢ q) x rest.ys
          (λ i d l here.
          let found = (is_member-Decides block_Decides rest.ys x).1 (i, l, get_or_default rest.ys i x d l ∙ sym here) in absurd cc)
          rest.apart;
      same = λ p. (
        λ c. ⊎_elim (λ i. subst (Contains (x ∷ xs)) i (Contains-first x xs)) (λ r. Contains-rest x xs p ((rest.same p).0 r))
            (Contains-cases x rest.ys p c),
        λ c. ⊎_elim (λ i. subst (Contains (x ∷ rest.ys)) i (Contains-first x rest.ys)) (λ r. Contains-rest x rest.ys p ((rest.same p).1 r))
            (Contains-cases x xs p c),
      );
      few = omega (arith, rest.few);
    }

-- configurations that name few prefixes with repeats name few
pub IsWithinLimits-few : (configs : List Configuration) → length configs ≤ MOST_ROUTERS →
    all_up_interfaces configs ≤ MOST_UP_INTERFACES → length (all_dests configs) ≤ MOST_DESTS → IsWithinLimits configs
IsWithinLimits-few configs routers interfaces few =
    let once = once (all_dests configs) in
    record {
      routers = routers;
      interfaces = interfaces;
      dests = length once.ys;
      counted = record {
        dests = once.ys;
        once = once.apart;
        exact = λ p. (λ c. IsDest-from_list configs p ((once.same p).0 c), λ d. (once.same p).1 (list-from_IsDest configs p d));
        count_is = refl;
      };
      few = omega (arith, once.few, few);
    }

IsDest-permutation : (xs ys : List Configuration) (p : Block) → IsPermutation xs ys → IsDest xs p → IsDest ys p
IsDest-permutation xs ys p moves d = record { config = d.config; among = Contains-permutation xs ys d.config moves d.among; names = d.names }

CountsDests-permutation : (xs ys : List Configuration) (count : ℕ) → IsPermutation xs ys → CountsDests xs count → CountsDests ys count
CountsDests-permutation xs ys count moves c = record {
  dests = c.dests;
  once = c.once;
  exact = λ p. (λ h. IsDest-permutation xs ys p moves ((c.exact p).0 h), λ d. (c.exact p).1 (IsDest-permutation ys xs p (IsPermutation-sym xs ys moves) d));
  count_is = c.count_is;
}

-- the limits don't depend on the order
pub IsWithinLimits-permutation : (xs ys : List Configuration) → IsPermutation xs ys → IsWithinLimits xs → IsWithinLimits ys
IsWithinLimits-permutation xs ys moves w =
    let long = length_permutation xs ys moves in
    let sum = sum_by-IsPermutation up_interfaces xs ys moves in
    record {
      routers = omega (arith, long, w.routers);
      interfaces = omega (arith, sum, w.interfaces);
      dests = w.dests;
      counted = CountsDests-permutation xs ys w.dests moves w.counted;
      few = w.few;
    }
