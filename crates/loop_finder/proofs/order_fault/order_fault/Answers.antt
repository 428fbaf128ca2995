use Rattle.std.proofs.Common.{◌≡◌, ℕ, ◌+◌, List, length, ap, ◌∙◌, subst, arith, below_more}
use Rattle.net_model.specs.Network.{Network}
use Rattle.order_core.proofs.Orders.{order_length}
use Rattle.igp_theory.specs.Phases.{state_in}
use Rattle.igp_theory.specs.States.{state_of}
use Rattle.igp_theory.specs.declared.phase.Phase.{Phase}
use Rattle.loop_finder.specs.Mixes.{mix_of}
use Rattle.loop_finder.specs.Soundness.{Sound}
use Rattle.loop_finder.proofs.order_fault.order_fault.Goals as goal

pub returns-in-Some-clause-fault : goal.returns-in-Some-clause-fault
returns-in-Some-clause-fault g c = record { before = λ j less. absurd (omega (arith, less)); here = c.in-Some.ensures.fault }

pub loop-k-init : goal.loop-k-init
loop-k-init g c = record {
  state = λ u. ap (λ (xs : List Phase). state_in xs u) c.begin_fault.ensures.first ∙ c.begin.ensures.phases u;
  sound = λ j less. subst (λ (k : ℕ). Sound (mix_of g.O.RouteSource.table g.N.RouteSource.table c.args.subject.now.mixed.now)
      (state_of c.args.order.now k)) (let first : 0 ≡ j = omega (arith, less) in first)
      c.in_default.ensures.sound;
  work = c.in_default.ensures.work;
  ring = c.in_default.ensures.ring;
}

pub change_fault-requires-clause-k : goal.change_fault-requires-clause-k
change_fault-requires-clause-k g c = omega (
  arith,
  order_length (length c.args.subject.now.mixed.now.net) c.args.order.now c.requires.order,
  c.loop-k-test.true,
  c.routers-k-end.ensures.count,
  ap (λ (n : Network). length n) c.net.ensures,
)

pub change_fault-requires-clause-routers : goal.change_fault-requires-clause-routers
change_fault-requires-clause-routers g c u among = (c.requires.order.all u).0 among

pub change_fault-requires-clause-before : goal.change_fault-requires-clause-before
change_fault-requires-clause-before g c = c.loop-k.invariant.sound c.loop-k.k (omega arith)

pub returns-in-Some-change_fault-clause-within : goal.returns-in-Some-change_fault-clause-within
returns-in-Some-change_fault-clause-within g c = omega (
  arith,
  order_length (length c.args.subject.now.mixed.now.net) c.args.order.now c.requires.order,
  c.loop-k-test.true,
  c.routers-k-end.ensures.count,
  ap (λ (n : Network). length n) c.net.ensures,
)

pub returns-in-Some-change_fault-clause-fault : goal.returns-in-Some-change_fault-clause-fault
returns-in-Some-change_fault-clause-fault g c = record { before = c.loop-k.invariant.sound; here = c.in-Some-change_fault.ensures.fault }

pub loop-k-preserved : goal.loop-k-preserved
loop-k-preserved g c = record {
  state = c.change_fault.ensures.state;
  sound = below_more (λ (j : ℕ). Sound (mix_of g.O.RouteSource.table g.N.RouteSource.table c.args.subject.now.mixed.now)
      (state_of c.args.order.now j)) (c.loop-k.k + 1) c.loop-k.invariant.sound
      c.in_default-change_fault.ensures.sound;
  work = c.in_default-change_fault.ensures.work;
  ring = c.in_default-change_fault.ensures.ring ∙ c.loop-k.invariant.ring;
}

pub returns-clause-sound : goal.returns-clause-sound
returns-clause-sound g c j below = c.loop-k.invariant.sound j (omega (
  arith,
  order_length (length c.args.subject.now.mixed.now.net) c.args.order.now c.requires.order,
  c.loop-k-test.false,
  c.routers-k-end.ensures.count,
  ap (λ (n : Network). length n) c.net.ensures,
  below,
))
