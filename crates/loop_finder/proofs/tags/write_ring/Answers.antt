use Rattle.std.proofs.lemmas.Grind.{common_steps}
use Rattle.std.proofs.Common.{ℕ, ◌+◌, ◌⊎◌, List, get_or, refl, subst, sym, arith}
use Rattle.igp_theory.specs.declared.phase.Phase.TheVariants.{Old, New}
use Rattle.order_core.specs.declared.turn.Turn.{Turn}
use Rattle.loop_finder.specs.steps.Rings.{next_in}
use Rattle.loop_finder.specs.steps.ClassSteps.{StepsBy, ClassStep, IsTagged, state_over}
use Rattle.loop_finder.proofs.TagSteps.{old_or_new, steps_inside, ring_step, IsPartRing, IsPartRing-more, ring_whole}
use Rattle.loop_finder.proofs.tags.write_ring.Goals as goal

pub tag_of-tag-requires-clause-router : goal.tag_of-tag-requires-clause-router
tag_of-tag-requires-clause-router g c = grind (arith, common_steps, ring_step, steps_inside)

pub tag_of-tag-requires-clause-some : goal.tag_of-tag-requires-clause-some
tag_of-tag-requires-clause-some g c =
    let s = state_over g.O.RouteSource.table g.N.RouteSource.table c.args.steps.now in
    let router : ℕ = get_or c.args.routers.now c.loop-place.place 0 in
    subst (λ (n : ℕ). StepsBy s router Old n ⊎ StepsBy s router New n) (sym c.next_router-next.ensures)
    (old_or_new s router (next_in c.args.routers.now c.loop-place.place)
    (ring_step (ClassStep s) c.args.routers.now c.loop-place.place c.requires.around c.loop-place-test.true))

pub loop-place-preserved : goal.loop-place-preserved
loop-place-preserved g c =
    let s = state_over g.O.RouteSource.table g.N.RouteSource.table c.args.steps.now in
    let turn : Turn = record { router = get_or c.args.routers.now c.loop-place.place 0; tag = c.tag_of-tag.result } in
    let tagged : IsTagged s turn (next_in c.args.routers.now c.loop-place.place) =
    subst (λ (n : ℕ). IsTagged s turn n) c.next_router-next.ensures c.tag_of-tag.ensures in
    record {
      part = subst (λ (ts : List Turn). IsPartRing s c.args.routers.now ts (c.loop-place.place + 1)) (sym c.add_turn.ensures.items)
          (IsPartRing-more s c.args.routers.now c.loop-place.ring.items c.loop-place.place turn c.loop-place-test.true refl tagged
          c.loop-place.invariant.part);
      room = omega (arith, c.loop-place.invariant.room, c.add_turn.ensures.capacity);
      capacity = omega (arith, c.loop-place.invariant.capacity, c.add_turn.ensures.capacity);
    }

pub returns-clause-tags : goal.returns-clause-tags
returns-clause-tags g c = grind (arith, common_steps, ring_whole)
