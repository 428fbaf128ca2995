use Rattle.std.proofs.Common.{arith}
use Rattle.std.proofs.lemmas.Grind.{common_steps}
use Rattle.igp_theory.specs.Phases.{state_in}
use Rattle.rib_mix.specs.Mixture.{migration_of}
use Rattle.loop_finder.proofs.FaultLaws.{none_sound}
use Rattle.loop_finder.proofs.finder.Finder.state_fault.Goals as goal

pub is_sound_start-requires : goal.is_sound_start-requires
is_sound_start-requires g c = grind (arith, common_steps)

pub returns-then-is_sound_start-clause-sound : goal.returns-then-is_sound_start-clause-sound
returns-then-is_sound_start-clause-sound g c = grind (arith, common_steps)

pub returns-clause-sound : goal.returns-clause-sound
returns-clause-sound g c = rw (← c.self.view_is) (none_sound (migration_of g.O.RouteSource.table g.N.RouteSource.table c.self.inside.subject.mixed.now)
    (state_in c.args.phases.now) c.state_fault.result c.state_fault.new.room.ring.items c.state_fault.ensures.sound c.state_fault.ensures.fault)
