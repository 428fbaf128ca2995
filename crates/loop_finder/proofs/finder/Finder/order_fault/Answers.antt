use Rattle.std.proofs.lemmas.Grind.{common_steps}
use Rattle.std.proofs.Common.{ℕ, ◌↔◌, List, IsNone, length, subst, sym, ap, ◌∙◌, arith}
use Rattle.order_core.specs.Orders.{IsOrder}
use Rattle.order_core.proofs.Orders.{order_length}
use Rattle.igp_theory.specs.Phases.{State}
use Rattle.igp_theory.specs.States.{IsSeamless, state_of}
use Rattle.rib_mix.specs.Mixture.{migration_of}
use Rattle.loop_finder.specs.Faults.{Finding}
use Rattle.loop_finder.specs.Orders.{AreFirstStates}
use Rattle.loop_finder.specs.Soundness.{Sound}
use Rattle.loop_finder.proofs.FaultLaws.{none_seamless}
use Rattle.loop_finder.proofs.OrderStates.{same_state}
use Rattle.loop_finder.proofs.Started.{begun_old}
use Rattle.loop_finder.specs.Mixes.{mix_of}
use Rattle.loop_finder.proofs.finder.Finder.order_fault.Goals as goal

pub returns-clause-seamless : goal.returns-clause-seamless
returns-clause-seamless g c = subst (λ (x : Finding g.row.O.Denot g.row.N.Denot). IsNone c.order_fault-found.result
    ↔ IsSeamless (migration_of g.O.RouteSource.table g.N.RouteSource.table x.mixture) c.args.order.now) c.self.view_is
    (none_seamless (migration_of g.O.RouteSource.table g.N.RouteSource.table c.self.inside.subject.mixed.now)
    c.args.order.now c.order_fault-found.result c.order_fault-found.new.work.room.ring.items
    (subst (λ (x : Finding g.row.O.Denot g.row.N.Denot). IsOrder (length x.mixture.net) c.args.order.now) (sym c.self.view_is) c.requires)
    c.order_fault-found.ensures.sound c.order_fault-found.ensures.within c.order_fault-found.ensures.fault)

pub shared_states-known-requires : goal.shared_states-known-requires
shared_states-known-requires g c =
    let order : IsOrder (length c.self.inside.subject.mixed.now.net) c.args.order.now =
    subst (λ (x : Finding g.row.O.Denot g.row.N.Denot). IsOrder (length x.mixture.net) c.args.order.now) (sym c.self.view_is) c.requires in
    ap length c.as_slice.ensures.value ∙ c.self.invariant.order_many ∙ sym (order_length (length c.self.inside.subject.mixed.now.net) c.args.order.now order)

pub order_fault-found-requires-clause-known : goal.order_fault-found-requires-clause-known
order_fault-found-requires-clause-known g c = λ k less.
    let kept : AreFirstStates (Sound (mix_of g.O.RouteSource.table g.N.RouteSource.table c.self.inside.subject.mixed.now))
    c.as_slice.result.now c.self.inside.sound =
    subst (λ (xs : List ℕ). AreFirstStates (Sound (mix_of g.O.RouteSource.table g.N.RouteSource.table c.self.inside.subject.mixed.now)) xs c.self.inside.sound)
    (sym c.as_slice.ensures.value) c.self.invariant.order_is in
    subst (λ (s : State). Sound (mix_of g.O.RouteSource.table g.N.RouteSource.table c.self.inside.subject.mixed.now) s)
    (same_state (state_of c.as_slice.result.now k) (state_of c.args.order.now k) (λ u. sym (c.shared_states-known.ensures.same k u less)))
    (kept k (omega (arith, less, c.shared_states-known.ensures.within)))

pub copy_from_slice-requires : goal.copy_from_slice-requires
copy_from_slice-requires g c =
    let order : IsOrder (length c.self.inside.subject.mixed.now.net) c.args.order.now =
    subst (λ (x : Finding g.row.O.Denot g.row.N.Denot). IsOrder (length x.mixture.net) c.args.order.now) (sym c.self.view_is) c.requires in
    omega (arith, c.self.inside.order.ok.0, c.self.invariant.order_many, order_length (length c.self.inside.subject.mixed.now.net) c.args.order.now order)

pub order_fault-found-requires-clause-begun : goal.order_fault-found-requires-clause-begun
order_fault-found-requires-clause-begun g c = grind (arith, common_steps, begun_old)
