use Rattle.order_core.specs.Rankings.{wave_count}
use Rattle.order_core.proofs.WaveLists.{flat_is_order, waves_by_rank, lower_before}
use Rattle.order_core.proofs.wave_laws.flat_runs_are_orders.Goals as goal

pub returns : goal.returns
returns c = record { order = flat_is_order; by_waves = λ ranks. waves_by_rank ranks (wave_count ranks); before = lower_before }
