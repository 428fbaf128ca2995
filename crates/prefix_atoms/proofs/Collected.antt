-- The lists of prefixes that the collecting loops make, router by router.
use Rattle.std.proofs.Common.{arith}
use Rattle.std.proofs.lemmas.Grind.{common_steps}
use Rattle.std.proofs.Common.{◌≡◌, ℕ, ◌+◌, List, [], ◌∷◌, ◌++◌, take, map, Some, append_assoc, refl, sym, ap, ◌∙◌}
use Rattle.std.specs.List.{filter_map, flat_map, slice_get}
use Rattle.std.proofs.lemmas.Option.{slice_get_within, get_or_from_slice_get}
use Rattle.std.proofs.lemmas.List.{take_more}
use Rattle.std.proofs.lemmas.List.Concat.{flat_map-append}
use Rattle.net_addr.specs.Addresses.{Block}
use Rattle.net_model.specs.Configuration.{Configuration}
use Rattle.net_model.specs.DestLists.{subnet_if_up, own_dests, all_dests}
use Rattle.net_model.specs.declared.area.Range.{Range}
use Rattle.net_model.specs.declared.interface.Interface.{Interface}
use Rattle.prefix_atoms.specs.Originated.{originated_subnet, all_originated}

-- one element more, which stands at the next place
pub take_place : {X : Type 0} (xs : List X) (i : ℕ) (x : X) → slice_get xs i ≡ Some x → take (i + 1) xs ≡ take i xs ++ x ∷ []
take_place xs i x at = take_more xs i x (slice_get_within xs i x at) ∙ ap (λ y. take i xs ++ y ∷ []) (get_or_from_slice_get xs i x x at)

append_nil : {X : Type 0} (xs : List X) → xs ++ [] ≡ xs
append_nil [] = refl
append_nil (x ∷ xs) = ap (λ ys. x ∷ ys) (append_nil xs)

flat_map_at : {X A : Type 0} (f : X → List A) (xs : List X) (i : ℕ) (x : X) → slice_get xs i ≡ Some x
    → flat_map f (take (i + 1) xs) ≡ flat_map f (take i xs) ++ f x
flat_map_at f xs i x at =
    ap (flat_map f) (take_place xs i x at) ∙ flat_map-append f (take i xs) (x ∷ []) ∙ ap (λ ys. flat_map f (take i xs) ++ ys) (append_nil (f x))

-- a list gains two parts
gains_two : (args old first new done one two more : List Block) → old ≡ args ++ done → first ≡ old ++ one → new ≡ first ++ two
    → more ≡ (done ++ one) ++ two → new ≡ args ++ more
gains_two args old first new done one two more a b c d = grind (arith, common_steps)

-- the next router's subnets and ranges
pub dests_more : (net : List Configuration) (u : ℕ) (c : Configuration) (interfaces : List Interface) (ranges : List Range) (args old first new : List Block)
    → slice_get net u ≡ Some c → interfaces ≡ c.interfaces → ranges ≡ c.ranges
    → old ≡ args ++ all_dests (take u net) → first ≡ old ++ filter_map subnet_if_up interfaces → new ≡ first ++ map (λ (r : Range). r.dest) ranges
    → new ≡ args ++ all_dests (take (u + 1) net)
dests_more net u c interfaces ranges args old first new at same_i same_r has one two =
    let subnets : List Block = filter_map subnet_if_up c.interfaces in
    let dests : List Block = map (λ (r : Range). r.dest) c.ranges in
    gains_two args old first new (all_dests (take u net)) subnets dests (all_dests (take (u + 1) net)) has
    (one ∙ ap (λ (xs : List Interface). old ++ filter_map subnet_if_up xs) same_i)
    (two ∙ ap (λ (xs : List Range). first ++ map (λ (r : Range). r.dest) xs) same_r)
    (flat_map_at own_dests net u c at ∙ sym (append_assoc (all_dests (take u net)) subnets dests))

-- the next router's originated subnets
pub originated_more : (net : List Configuration) (u : ℕ) (c : Configuration) (interfaces : List Interface) (old new : List Block)
    → slice_get net u ≡ Some c → interfaces ≡ c.interfaces
    → old ≡ all_originated (take u net) → new ≡ old ++ filter_map originated_subnet interfaces → new ≡ all_originated (take (u + 1) net)
originated_more net u c interfaces old new at same has one =
    one ∙ ap (λ (xs : List Interface). old ++ filter_map originated_subnet xs) same
    ∙ ap (λ (ps : List Block). ps ++ filter_map originated_subnet c.interfaces) has
    ∙ sym (flat_map_at (λ (d : Configuration). filter_map originated_subnet d.interfaces) net u c at)
