-- Lists with a prefix in each element, and their prefixes.
use Rattle.std.proofs.lemmas.Grind.{common_steps}
use Rattle.std.proofs.Common.{◌≡◌, ◌+◌, ◌<◌, ℕ, [], ◌∷◌, ◌++◌, length, map, take, get_or, List, Result, Ok, Err, IfOk, sym, subst, arith}
use Rattle.std.specs.List.{All}
use Rattle.std.proofs.lemmas.List.{map-append, take_more, length-map, get_or-map}
use Rattle.net_addr.specs.Addresses.{Block}
use Rattle.route_tables.specs.Prefixes.{prefix_at}

-- what follows from two clauses on a call
pub if_ok_both : {T E : Type 0} (r : Result T E) (P Q R : T → Type 0) → ((x : T) → P x → Q x → R x) → IfOk r P → IfOk r Q → IfOk r R
if_ok_both (Ok x) P Q R both p q = both x p q
if_ok_both (Err e) P Q R both p q = p

-- the prefixes of one more element
pub one_more_prefix : {D : Type 0} (dest_of : D → Block) (dests : List Block) (k : ℕ) (all : List D) (d : D) (dest : Block) → k < length dests →
    dest ≡ get_or dests k dest → map dest_of all ≡ take k dests → dest_of d ≡ dest →
    map dest_of (all ++ d ∷ []) ≡ take (k + 1) dests
one_more_prefix dest_of dests k all d dest within here so_far is = grind (arith, common_steps, map-append, take_more)

inside : {D : Type 0} (dest_of : D → Block) (all : List D) (k : ℕ) → k < length (map dest_of all) → k < length all
inside dest_of all k below = let same = length-map all dest_of in omega (arith, same)

-- the prefix at a place is that of the element there
pub prefix_is : {D : Type 0} (dest_of : D → Block) (all : List D) (k : ℕ) (d : D) → k < length (map dest_of all) → d ≡ get_or all k d →
    dest_of d ≡ prefix_at (map dest_of all) k
prefix_is dest_of all k d below here = grind (arith, common_steps, get_or-map, inside)

-- what holds of all elements holds of the one at a place
pub element_at : {D : Type 0} (dest_of : D → Block) (P : D → Type 0) (all : List D) (k : ℕ) (d : D) → All P all → k < length (map dest_of all) →
    d ≡ get_or all k d → P d
element_at dest_of P all k d every below here = subst P (sym here) (every k d (inside dest_of all k below))
