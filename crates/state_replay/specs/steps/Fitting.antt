-- Which change fits next, by the counts of the changes made.
use Rattle.std.specs.Prelude.{◌≡◌, ℕ, ◌<◌, List, length, slice_index}
use Rattle.order_core.specs.Rankings.{rank_of}
use Rattle.state_replay.specs.declared.half.Half.{Half}
use Rattle.state_replay.specs.declared.half.Half.TheVariants.{First, Second}

-- both changes were made on each router of a lower rank
abbrev pub IsOpen : List ℕ → List ℕ → ℕ → Type 0
IsOpen ranks done rank = (v : ℕ) → v < length ranks → rank_of ranks v < rank → slice_index done v ≡ 2

-- no change was made on a router, and the waves before its own are done
pub record FitsFirst (ranks done : List ℕ) (u : ℕ) : Type 0 where
  pub none : slice_index done u ≡ 0
  pub earlier : IsOpen ranks done (rank_of ranks u)

-- a change of a router fits: its first one, or its second one after the first
abbrev pub FitsCounts : List ℕ → List ℕ → ℕ → Half → Type 0
FitsCounts ranks done u First = FitsFirst ranks done u
FitsCounts ranks done u Second = slice_index done u ≡ 1
