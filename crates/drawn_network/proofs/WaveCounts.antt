-- A list of some routers has waves.
use Rattle.std.proofs.Common.{ℕ, ◌<◌, [], ◌∷◌, List, length, arith}
use Rattle.order_core.specs.Rankings.{wave_count}

pub has_waves : (ranks : List ℕ) → 0 < length ranks → 0 < wave_count ranks
has_waves [] some = absurd (omega arith)
has_waves (rank ∷ ranks) some = omega arith
