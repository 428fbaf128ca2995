-- One more entry, and the longest match so far.
use Rattle.std.proofs.Common.{arith}
use Rattle.std.proofs.lemmas.Grind.{common_steps}
use Rattle.std.proofs.Common.{◌≡◌, ℕ, ◌⊎◌, inl, inr, List, [], ◌∷◌, ◌++◌, length, Option, MatchOption, sym, subst, ⊎_elim}
use Rattle.std.proofs.lemmas.List.Elements.{Contains-push_cases}
use Rattle.net_addr.specs.Addresses.{Block, ContainsAddress, IsBlock}
use Rattle.net_addr.specs.LongestMatches.{IsMatch, TakesLonger}
use Rattle.net_addr.specs.declared.matches.Match.{Match}
use Rattle.net_addr.proofs.LongestMatchLaws.{IsMatch-out, IsMatch-in}
use Rattle.route_core.specs.steps.Matches.{AreBlocks}

-- what the search does with the next prefix, at its place in the list
abbrev pub Step : ℕ → ℕ → Option Match → Block → Option Match → Type 0
Step place a best dest after = (¬ ContainsAddress dest a × (after ≡ best))
    ⊎ (ContainsAddress dest a × IsBlock dest × MatchOption after ⊥ (TakesLonger best (record { place = place; len = dest.len })))

-- the search goes on by one prefix
pub found_more : (xs : List Block) (place a : ℕ) (best after : Option Match) (next : Block)
    → place ≡ length xs → IsMatch xs a best → Step place a best next after → IsMatch (xs ++ next ∷ []) a after
found_more xs place a best after next e h it_8 = grind (arith, common_steps, IsMatch-in, IsMatch-out)

pub blocks_more : (xs : List Block) (place a : ℕ) (best after : Option Match) (next : Block)
    → AreBlocks xs a → Step place a best next after → AreBlocks (xs ++ next ∷ []) a
blocks_more xs place a best after next h step = λ p has inside. ⊎_elim
    (λ earlier. h p earlier inside)
    (λ same. next_block step p same inside)
    (Contains-push_cases xs next p has)
  where
    next_block : Step place a best next after → (p : Block) → next ≡ p → ContainsAddress p a → IsBlock p
    next_block (inl s) p same inside = absurd (s.0 (subst (λ (q : Block). ContainsAddress q a) (sym same) inside))
    next_block (inr s) p same inside = subst IsBlock same s.1
