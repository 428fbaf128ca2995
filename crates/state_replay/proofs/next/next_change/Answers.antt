use Rattle.state_replay.proofs.NextChanges.{fitting}
use Rattle.state_replay.proofs.next.next_change.Goals as goal

pub returns : goal.returns
returns c = fitting c.args.ranks.now c.args.done.now c.args.router c.fitting_change.result c.requires.ranking c.requires.router c.fitting_change.ensures
