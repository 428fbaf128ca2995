-- The ends of what is mixed, and what the oracle of wave lists keeps.
use Rattle.std.specs.Prelude.{◌≡◌, ℕ, length}
use Rattle.igp_theory.specs.LoopLaws.{AreSoundEnds}
use Rattle.rib_mix.specs.Mixture.{Mixture, migration_of}
use Rattle.loop_finder.specs.Faults.{Finding}
use Rattle.loop_finder.specs.Mixes.{Listing}

-- both ends are sound
abbrev pub HasSoundEnds : {O N : Type 0} → Listing O → Listing N → Mixture O N → Type 0
HasSoundEnds old new m = AreSoundEnds (migration_of old new m)

-- the oracle's count is that of the network's routers, and both ends are sound
pub record IsWaveOracle {O N : Type 0} (old : Listing O) (new : Listing N) (finding : Finding O N) (routers : ℕ) : Type 0 where
  pub routers_are : routers ≡ length finding.mixture.net
  pub ends : HasSoundEnds old new finding.mixture
