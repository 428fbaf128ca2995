-- The boundaries of prefixes, as they are gathered one prefix after another.
use Rattle.std.proofs.lemmas.Grind.{common_steps}
use Rattle.std.proofs.Common.{◌≡◌, ℕ, zero, suc, ◌+◌, ◌^◌, ◌<◌, ◌≤◌, List, [], ◌∷◌, ◌++◌, length, take, get_or, All, Contains, ⊎_elim, arith, refl, sym, ap}
use Rattle.std.proofs.Common.{subst, ◌∙◌}
use Rattle.std.proofs.lemmas.List.{take_more}
use Rattle.std.proofs.lemmas.List.Elements.{All-push, Contains-push_cases}
use Rattle.net_addr.specs.Addresses.{Block, IsBlock}
use Rattle.net_addr.specs.Boundaries.{IsBoundary}
use Rattle.prefix_atoms.specs.steps.Lists.{GainsBoundaries}

-- each boundary of these prefixes is in the list of numbers
abbrev pub HasBoundaries : List Block → List ℕ → Type 0
HasBoundaries prefixes cuts = (p : Block) (c : ℕ) → Contains prefixes p → IsBoundary p c → c < 2 ^ 32 → Contains cuts c

next_prefix : (prefixes : List Block) (i : ℕ) (p : Block) → i < length prefixes → p ≡ get_or prefixes i p → take (i + 1) prefixes ≡ take i prefixes ++ p ∷ []
next_prefix prefixes i p within read = take_more prefixes i p within ∙ ap (λ (q : Block). take i prefixes ++ q ∷ []) (sym read)

pub boundaries_more : (prefixes : List Block) (i : ℕ) (p : Block) (old new : List ℕ) → i < length prefixes → p ≡ get_or prefixes i p
    → GainsBoundaries old new p → HasBoundaries (take i prefixes) old → HasBoundaries (take (i + 1) prefixes) new
boundaries_more prefixes i p old new within read gains has q c member boundary low = ⊎_elim
    (λ before. gains.kept c (has q c before boundary low))
    (λ same. gains.gained c (subst (λ (r : Block). IsBoundary r c) (sym same) boundary) low)
    (Contains-push_cases (take i prefixes) p q (subst (λ (qs : List Block). Contains qs q) (next_prefix prefixes i p within read) member))

pub blocks_more : (prefixes : List Block) (i : ℕ) (p : Block) → i < length prefixes → p ≡ get_or prefixes i p
    → All IsBlock (take i prefixes) → IsBlock p → All IsBlock (take (i + 1) prefixes)
blocks_more prefixes i p within read blocks block = grind (arith, common_steps, All-push, next_prefix)

-- what stands before a place past the end is the whole list
pub take_whole : {X : Type 0} (xs : List X) (n : ℕ) → length xs ≤ n → take n xs ≡ xs
take_whole [] zero h = refl
take_whole [] (suc n) h = refl
take_whole (x ∷ xs) zero h = absurd (omega arith)
take_whole (x ∷ xs) (suc n) h = ap (λ ys. x ∷ ys) (take_whole xs n (omega arith))
