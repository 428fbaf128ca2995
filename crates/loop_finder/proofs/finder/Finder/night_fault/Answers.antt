use Rattle.std.proofs.Common.{arith}
use Rattle.std.proofs.lemmas.Grind.{common_steps}
use Rattle.std.proofs.Common.{Bool, List, [], None, length, ap, refl, sym, subst, ◌∙◌}
use Rattle.std.specs.Bool.{OnTrue}
use Rattle.igp_theory.specs.Migrations.{Migration}
use Rattle.igp_theory.specs.Phases.{State, state_in}
use Rattle.igp_theory.specs.declared.phase.Phase.{Phase}
use Rattle.rib_mix.specs.Mixture.{migration_of}
use Rattle.loop_finder.specs.Mixes.{mix_of}
use Rattle.loop_finder.specs.Soundness.{Sound}
use Rattle.loop_finder.proofs.Started.{keeps_twice, told_at_start, state_steps_from}
use Rattle.loop_finder.proofs.finder.Finder.night_fault.Goals as goal

pub is_sound_start-requires : goal.is_sound_start-requires
is_sound_start-requires g c = grind (arith, common_steps)

pub returns-then-is_sound_start-clause-sound : goal.returns-then-is_sound_start-clause-sound
returns-then-is_sound_start-clause-sound g c =
    rw (← c.self.view_is) (told_at_start (migration_of g.O.RouteSource.table g.N.RouteSource.table c.self.inside.subject.mixed.now)
    (state_in c.self.inside.start.items) (state_in c.args.phases.now) None [] [] refl tt
    (subst (λ (s : State). Sound (mix_of g.O.RouteSource.table g.N.RouteSource.table c.self.inside.subject.mixed.now) s)
    (ap state_in (sym c.as_slice.ensures.value) ∙ c.if-is_sound_start.ensures.same)
    (subst (λ (b : Bool). OnTrue b (Sound (mix_of g.O.RouteSource.table g.N.RouteSource.table c.self.inside.subject.mixed.now)
    (state_in c.self.inside.start.items))) c.if-is_sound_start.ensures.begun c.self.invariant.begun_is)) tt).0

pub tag_found-requires-clause-start : goal.tag_found-requires-clause-start
tag_found-requires-clause-start g c = ap (λ (xs : List Phase). length xs) c.as_slice-2.ensures.value ∙ c.self.invariant.start_many

pub tag_found-requires-clause-steps : goal.tag_found-requires-clause-steps
tag_found-requires-clause-steps g c =
    let move : Migration = migration_of g.O.RouteSource.table g.N.RouteSource.table c.self.inside.subject.mixed.now in
    rw c.as_slice-2.ensures.value (state_steps_from move (state_in c.self.inside.start.items) (state_in c.args.phases.now) c.state_fault-found.result
    c.state_fault-found.new.room.ring.items (rw (← c.self.view_is) at c.requires.from) c.state_fault-found.ensures.fault)

pub returns-clause-sound : goal.returns-clause-sound
returns-clause-sound g c =
    rw (← c.self.view_is) (told_at_start (migration_of g.O.RouteSource.table g.N.RouteSource.table c.self.inside.subject.mixed.now)
    (state_in c.self.inside.start.items) (state_in c.args.phases.now) c.state_fault-found.result c.state_fault-found.new.room.ring.items
    c.tag_found.new.ring.items c.tag_found.ensures.routers (rw c.as_slice-2.ensures.value at c.tag_found.ensures.tags)
    c.state_fault-found.ensures.sound c.state_fault-found.ensures.fault).0

pub returns-clause-fault : goal.returns-clause-fault
returns-clause-fault g c =
    rw (← c.self.view_is) (told_at_start (migration_of g.O.RouteSource.table g.N.RouteSource.table c.self.inside.subject.mixed.now)
    (state_in c.self.inside.start.items) (state_in c.args.phases.now) c.state_fault-found.result c.state_fault-found.new.room.ring.items
    c.tag_found.new.ring.items c.tag_found.ensures.routers (rw c.as_slice-2.ensures.value at c.tag_found.ensures.tags)
    c.state_fault-found.ensures.sound c.state_fault-found.ensures.fault).1

pub returns-clause-ring : goal.returns-clause-ring
returns-clause-ring g c = grind (arith, common_steps, keeps_twice)
