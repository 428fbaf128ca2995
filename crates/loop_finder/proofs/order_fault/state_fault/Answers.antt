use Rattle.loop_finder.proofs.ToldOfStates.{told_of_state}
use Rattle.loop_finder.proofs.order_fault.state_fault.Goals as goal

pub returns-clause-sound : goal.returns-clause-sound
returns-clause-sound g c = (told_of_state c.args.phases.now c.classes_fault.result c.classes_fault.new.room.ring.items c.requires.subject.parts_are
    c.classes_fault.ensures.told).0

pub returns-clause-fault : goal.returns-clause-fault
returns-clause-fault g c = (told_of_state c.args.phases.now c.classes_fault.result c.classes_fault.new.room.ring.items c.requires.subject.parts_are
    c.classes_fault.ensures.told).1
