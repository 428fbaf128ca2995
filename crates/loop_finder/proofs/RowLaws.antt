-- The rows of a part, kept by their places.
use Rattle.std.proofs.Common.{◌≡◌, ℕ, ◌<◌, List, [], ◌∷◌, ◌++◌, All, length, get_or, ap, ◌∙◌}
use Rattle.std.proofs.lemmas.List.Elements.{All-head, All-tail}
use Rattle.std.proofs.Math.ListN.{get_or-append}
use Rattle.std.proofs.Math.Seq.{get_or-append_seam}
use Rattle.loop_finder.specs.Parts.{PhaseHops, no_hops}
use Rattle.loop_finder.specs.steps.PartRows.{placed_rows}

-- a row that goes last is that of a place behind the others
pub placed_more : (own : List PhaseHops) (places : List ℕ) (row : PhaseHops) → All (λ k. k < length own) places
    → placed_rows (own ++ row ∷ []) (places ++ length own ∷ []) ≡ placed_rows own places ++ row ∷ []
placed_more own [] row below = ap (λ (r : PhaseHops). r ∷ []) (get_or-append_seam own row [] no_hops)
placed_more own (k ∷ places) row below =
    ap (λ (r : PhaseHops). r ∷ placed_rows (own ++ row ∷ []) (places ++ length own ∷ []))
    (get_or-append own (row ∷ []) no_hops k (All-head (λ k. k < length own) k places below))
    ∙ ap (λ (rows : List PhaseHops). get_or own k no_hops ∷ rows) (placed_more own places row (All-tail (λ k. k < length own) k places below))
