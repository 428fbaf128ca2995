use Rattle.order_core.proofs.WaveLists.{wave_routers, wave_ascends, wave_some}
use Rattle.order_core.proofs.wave_laws.waves_are_ranks.Goals as goal

pub returns : goal.returns
returns c = record { routers = wave_routers; ascending = wave_ascends; some = wave_some }
