use Rattle.state_replay.proofs.Fronts.{whole_run}
use Rattle.state_replay.proofs.Places.{one_place}
use Rattle.state_replay.proofs.laws.replay_laws.Goals as goal

pub returns-clause-one_place : goal.returns-clause-one_place
returns-clause-one_place c net ranks journal one other done made network is its = one_place net ranks journal network one other done made is its

pub returns-clause-some_next : goal.returns-clause-some_next
returns-clause-some_next c = whole_run
