use Rattle.std.proofs.Common.{arith}
use Rattle.std.proofs.lemmas.Grind.{common_steps}
use Rattle.std.proofs.Common.{List, length, ap, ◌∙◌}
use Rattle.igp_theory.specs.Phases.{state_in}
use Rattle.igp_theory.specs.declared.phase.Phase.{Phase}
use Rattle.rib_mix.specs.Mixture.{migration_of}
use Rattle.loop_finder.specs.Mixes.{mix_of}
use Rattle.loop_finder.specs.Times.{times_in}
use Rattle.loop_finder.proofs.Started.{keeps_twice, told_from_start, told_steps_from}
use Rattle.loop_finder.proofs.WaveSteps.{begun_from}
use Rattle.loop_finder.proofs.finder.Finder.times_fault.Goals as goal

pub times_fault-found-requires-clause-begun : goal.times_fault-found-requires-clause-begun
times_fault-found-requires-clause-begun g c =
    begun_from (mix_of g.O.RouteSource.table g.N.RouteSource.table c.self.inside.subject.mixed.now) (times_in c.args.times.now)
    (state_in c.self.inside.start.items) c.self.inside.begun
    (rw (← c.self.view_is) at c.requires.table) c.self.invariant.begun_is

pub tag_found-requires-clause-start : goal.tag_found-requires-clause-start
tag_found-requires-clause-start g c = ap (λ (xs : List Phase). length xs) c.as_slice.ensures.value ∙ c.self.invariant.start_many

pub tag_found-requires-clause-steps : goal.tag_found-requires-clause-steps
tag_found-requires-clause-steps g c =
    rw (c.as_slice.ensures.value, c.fault_alone-fault.ensures)
    (told_steps_from (migration_of g.O.RouteSource.table g.N.RouteSource.table c.self.inside.subject.mixed.now)
    (state_in c.self.inside.start.items) (times_in c.args.times.now) c.times_fault-found.result c.times_fault-found.new.work.room.ring.items
    (rw (← c.self.view_is) at c.requires.table) c.times_fault-found.ensures.fault)

pub returns-clause-sound : goal.returns-clause-sound
returns-clause-sound g c =
    rw (← c.self.view_is) (told_from_start (migration_of g.O.RouteSource.table g.N.RouteSource.table c.self.inside.subject.mixed.now)
    (state_in c.self.inside.start.items) (times_in c.args.times.now) c.times_fault-found.result c.times_fault-found.new.work.room.ring.items
    c.tag_found.new.ring.items (rw (← c.self.view_is) at c.requires.table) c.tag_found.ensures.routers
    (rw (c.as_slice.ensures.value, c.fault_alone-fault.ensures) at c.tag_found.ensures.tags)
    c.times_fault-found.ensures.sound c.times_fault-found.ensures.fault).0

pub returns-clause-fault : goal.returns-clause-fault
returns-clause-fault g c =
    rw (← c.self.view_is) (told_from_start (migration_of g.O.RouteSource.table g.N.RouteSource.table c.self.inside.subject.mixed.now)
    (state_in c.self.inside.start.items) (times_in c.args.times.now) c.times_fault-found.result c.times_fault-found.new.work.room.ring.items
    c.tag_found.new.ring.items (rw (← c.self.view_is) at c.requires.table) c.tag_found.ensures.routers
    (rw (c.as_slice.ensures.value, c.fault_alone-fault.ensures) at c.tag_found.ensures.tags)
    c.times_fault-found.ensures.sound c.times_fault-found.ensures.fault).1

pub returns-clause-ring : goal.returns-clause-ring
returns-clause-ring g c = grind (arith, common_steps, keeps_twice)
