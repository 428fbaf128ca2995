use Rattle.explained_texts.proofs.WayStates.{order_in_one, times_in_one}
use Rattle.explained_texts.proofs.laws.ways_are_in_one_state.Goals as goal

pub returns : goal.returns
returns g c = record {
  of_order = order_in_one g.T.AnyMigration.migration;
  of_waves = λ time w fault text table. times_in_one g.T.AnyMigration.migration time w table fault text;
}
