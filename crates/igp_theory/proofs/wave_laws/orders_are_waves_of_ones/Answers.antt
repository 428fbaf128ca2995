use Rattle.igp_theory.specs.Phases.{all_old}
use Rattle.igp_theory.proofs.OnesRuns.{order_has_ones, order_has_one_run}
use Rattle.igp_theory.proofs.wave_laws.orders_are_waves_of_ones.Goals as goal

pub returns : goal.returns
returns c = record { ones = order_has_ones; one_run = λ n order ranks run lists ones is. order_has_one_run n all_old order ranks run lists ones is }
