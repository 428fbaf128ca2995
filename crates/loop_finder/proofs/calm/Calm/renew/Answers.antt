use Rattle.loop_finder.proofs.calm.Calm.renew.Goals as goal

pub look-requires-clause-calm : goal.look-requires-clause-calm
look-requires-clause-calm c = rw c.take_times.ensures.times at c.take_times.ensures.calm

pub returns-clause-calm : goal.returns-clause-calm
returns-clause-calm c = rw (c.look.ensures.times, c.take_times.ensures.times) c.look.ensures.calm
