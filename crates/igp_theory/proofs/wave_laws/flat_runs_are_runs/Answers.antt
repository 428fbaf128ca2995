use Rattle.igp_theory.proofs.FlatOrders.{flat_is_run, states_along}
use Rattle.igp_theory.proofs.wave_laws.flat_runs_are_runs.Goals as goal

pub returns : goal.returns
returns c = record { run = flat_is_run; states = states_along }
