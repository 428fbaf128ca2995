use Rattle.state_replay.proofs.Lines.{no_name_told}
use Rattle.state_replay.proofs.told.told_change.Goals as goal

pub returns-in-None : goal.returns-in-None
returns-in-None c = no_name_told c.args.net.now c.args.line.now c.in-None.ensures.number
