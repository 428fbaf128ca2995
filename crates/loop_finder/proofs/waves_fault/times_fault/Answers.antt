use Rattle.loop_finder.proofs.waves_fault.times_fault.Goals as goal

pub waves_fault-requires-clause-begun : goal.waves_fault-requires-clause-begun
waves_fault-requires-clause-begun g c = rw c.renew.ensures.times c.requires.begun

pub waves_fault-requires-clause-order : goal.waves_fault-requires-clause-order
waves_fault-requires-clause-order g c = rw c.renew.ensures.times c.requires.order

pub returns-clause-sound : goal.returns-clause-sound
returns-clause-sound g c = rw c.renew.ensures.times at c.waves_fault.ensures.sound

pub returns-clause-fault : goal.returns-clause-fault
returns-clause-fault g c = rw c.renew.ensures.times at c.waves_fault.ensures.fault
