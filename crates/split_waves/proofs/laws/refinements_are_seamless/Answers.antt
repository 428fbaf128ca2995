use Rattle.split_waves.proofs.Refinements.{no_other_states, refinement_is_seamless}
use Rattle.split_waves.proofs.laws.refinements_are_seamless.Goals as goal

pub returns : goal.returns
returns g c = record { states = no_other_states g.T.AnyMigration.migration; seamless = refinement_is_seamless g.T.AnyMigration.migration }
