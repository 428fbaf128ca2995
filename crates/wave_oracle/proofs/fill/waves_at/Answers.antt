use Rattle.wave_oracle.proofs.FilledTimes.{change_times_of}
use Rattle.wave_oracle.proofs.fill.waves_at.Goals as goal

pub returns-in-Changes : goal.returns-in-Changes
returns-in-Changes c = λ state is.
    change_times_of c.args.items state c.args.ranks.now c.args.router c.change_waves.result c.in-Changes.is (c.change_waves.ensures state)
