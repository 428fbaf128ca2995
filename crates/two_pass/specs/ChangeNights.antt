-- A night in which single changes are ranked, from the state in which every router is Old.
use Rattle.std.specs.Prelude.{◌≡◌, List}
use Rattle.order_core.specs.declared.turn.Turn.{Turn}
use Rattle.order_search.specs.Meanings.{SameMeaning}
use Rattle.rib_mix.specs.Mixture.{Mixture, migration_of}
use Rattle.loop_finder.specs.Mixes.{Listing}
use Rattle.plan_theory.specs.WavesMeaning.{changes_meaning, night_meaning}
use Rattle.plan_theory.specs.declared.items.Items.TheVariants.{Changes}
use Rattle.wave_oracle.specs.Nights.{Night, night_move}

-- what contracts see of who finds the faults of its rankings, and of its oracle: what is mixed, and the turns of the latest loop
pub record ChangeNight (O N : Type 0) : Type 0 where
  pub mixture : Mixture O N
  pub turns : List Turn

-- a night ranks the single changes of what is mixed
pub record RanksChanges {O N : Type 0} (mixture : Mixture O N) (night : Night O N) : Type 0 where
  pub same : night.mixture ≡ mixture
  pub changes : night.items ≡ Changes

-- what is meant by a night is what is meant by rankings of the single changes of what is mixed
abbrev pub MeansChanges : {O N : Type 0} → Listing O → Listing N → Mixture O N → Night O N → Type 0
MeansChanges old new mixture night =
    SameMeaning (changes_meaning (migration_of old new mixture)) (night_meaning night.items (night_move old new night))
