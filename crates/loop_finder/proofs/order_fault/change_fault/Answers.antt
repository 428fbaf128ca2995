use Rattle.std.proofs.lemmas.Grind.{common_steps}
use Rattle.std.proofs.Common.{◌≡◌, ℕ, ◌+◌, ◌/◌, ◌<◌, List, [], length, get_or, arith, sym, ap, ◌∙◌, subst}
use Rattle.std.proofs.lemmas.List.{get_or_default}
use Rattle.igp_theory.specs.Phases.{state_in}
use Rattle.igp_theory.specs.States.{state_of}
use Rattle.igp_theory.specs.declared.phase.Phase.{Phase}
use Rattle.loop_finder.specs.Mixes.{Mix, mix_of}
use Rattle.loop_finder.specs.Soundness.{Sound}
use Rattle.loop_finder.specs.Watches.{ArePlacesOf}
use Rattle.loop_finder.proofs.OrderStates.{changed_inside, same_state, state_advanced}
use Rattle.loop_finder.proofs.WatchLaws.{after_change}
use Rattle.loop_finder.proofs.order_fault.change_fault.Goals as goal

pub advance-was-requires : goal.advance-was-requires
advance-was-requires g c =
    let below = changed_inside c.args.order.now (length c.args.subject.now.mixed.now.net) (c.args.k / 2) c.requires.routers (omega (arith, c.requires.k)) in
    omega (arith, below, c.requires.work.first, c.args.work.now.first.ok.0)

pub returns-clause-state : goal.returns-clause-state
returns-clause-state g c = grind (arith, common_steps, state_advanced)

pub returns-then-is_known-clause-state : goal.returns-then-is_known-clause-state
returns-then-is_known-clause-state g c = grind (arith, common_steps, state_advanced)

pub turned_fault-requires-clause-places : goal.turned_fault-requires-clause-places
turned_fault-requires-clause-places g c =
    let r : ℕ = get_or c.args.order.now (c.args.k / 2) 0 in
    let inside : r < length c.args.subject.now.mixed.now.net =
    changed_inside c.args.order.now (length c.args.subject.now.mixed.now.net) (c.args.k / 2) c.requires.routers (omega (arith, c.requires.k)) in
    let within : r < length c.args.subject.now.watch.items = omega (arith, c.requires.subject.watch_is.many, inside) in
    subst (λ (xs : List ℕ). ArePlacesOf c.args.subject.now.parts.items r xs) (sym (c.as_slice-places.ensures ∙ c.index.ensures
    ∙ get_or_default c.args.subject.now.watch.items r c.index.result.now [] within)) (c.requires.subject.watch_is.each r inside)

pub returns-clause-sound : goal.returns-clause-sound
returns-clause-sound g c =
    let m : Mix = mix_of g.O.RouteSource.table g.N.RouteSource.table c.args.subject.now.mixed.now in
    let first : List Phase = c.args.work.now.first.items in
    let next : state_in c.as_slice.result.now ≡ state_of c.args.order.now (c.args.k + 1) = ap state_in c.as_slice.ensures.value
    ∙ same_state (state_in c.advance-was.new.phases.items) (state_of c.args.order.now (c.args.k + 1))
    (state_advanced c.args.order.now first c.advance-was.new.phases.items c.args.k c.requires.k c.advance-was.ensures.state c.requires.state) in
    (after_change m _ (state_in first) (state_of c.args.order.now (c.args.k + 1)) c.turned_fault.result c.turned_fault.new.room.ring.items
    (record {
      here = c.advance-was.ensures.was;
      others = λ v within apart. ap (λ (xs : List Phase). state_in xs v) c.as_slice.ensures.value ∙ c.advance-was.ensures.state.others v apart;
    })
    (subst (Sound m) (sym (same_state (state_in first) (state_of c.args.order.now c.args.k) c.requires.state)) c.requires.before)
    next c.turned_fault.ensures.sound c.turned_fault.ensures.fault).0

pub returns-clause-fault : goal.returns-clause-fault
returns-clause-fault g c =
    let m : Mix = mix_of g.O.RouteSource.table g.N.RouteSource.table c.args.subject.now.mixed.now in
    let first : List Phase = c.args.work.now.first.items in
    let next : state_in c.as_slice.result.now ≡ state_of c.args.order.now (c.args.k + 1) = ap state_in c.as_slice.ensures.value
    ∙ same_state (state_in c.advance-was.new.phases.items) (state_of c.args.order.now (c.args.k + 1))
    (state_advanced c.args.order.now first c.advance-was.new.phases.items c.args.k c.requires.k c.advance-was.ensures.state c.requires.state) in
    (after_change m _ (state_in first) (state_of c.args.order.now (c.args.k + 1)) c.turned_fault.result c.turned_fault.new.room.ring.items
    (record {
      here = c.advance-was.ensures.was;
      others = λ v within apart. ap (λ (xs : List Phase). state_in xs v) c.as_slice.ensures.value ∙ c.advance-was.ensures.state.others v apart;
    })
    (subst (Sound m) (sym (same_state (state_in first) (state_of c.args.order.now c.args.k) c.requires.state)) c.requires.before)
    next c.turned_fault.ensures.sound c.turned_fault.ensures.fault).1
