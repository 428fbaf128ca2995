use Rattle.std.proofs.lemmas.Grind.{common_steps}
use Rattle.std.proofs.Common.{◌≡◌, ℕ, ◌+◌, ◌<◌, List, None, Option, Some, get_or, length, sym, subst, ◌∙◌, arith}
use Rattle.std.proofs.lemmas.List.{get_or_default}
use Rattle.std.proofs.lemmas.List.Elements.{Contains-get_or}
use borrow.Author.Count.{below_more}
use Rattle.walk_core.specs.declared.outlets.Outlet.{Outlet}
use Rattle.walk_core.specs.declared.segment.Port.{Port}
use Rattle.walk_core.specs.Distances.{distance_at}
use Rattle.walk_core.specs.steps.Cheapest.{HasCost}
use Rattle.walk_core.specs.steps.Flooding.{AreAllAtMost, cost_onto, segment_at}
use Rattle.walk_core.specs.steps.SegmentWalks.{IsOutlet}
use Rattle.walk_core.proofs.FloodLaws.{entry_of_outlet, falls_none, falls_on, last_above, tight_over}
use Rattle.walk_core.proofs.RelaxLaws.{sum_fits}
use Rattle.walk_core.proofs.StaleLaws.{lowers_none, lowers_on, settled_on}
use Rattle.walk_core.proofs.flood.spread_from.Invariants.{outlet_at}
use Rattle.walk_core.proofs.flood.spread_from.Goals as goal

-- the distance that was read is that of the vertex
near_at : (ds : List (Option ℕ)) (u near : ℕ) (read got : Option ℕ) → u < length ds → read ≡ get_or ds u read → got ≡ read → got ≡ Some near →
    distance_at ds u ≡ Some near
near_at ds u near read got within is same some = sym (is ∙ get_or_default ds u read None within) ∙ (sym same ∙ some)

pub cross-requires : goal.cross-requires
cross-requires c =
    let segments : List (List Port) = c.args.graph.now.segments in
    let outlets : List Outlet = c.ports-ports.result.now in
    let outlet : Outlet = outlet_at outlets c.loop-outlet.outlet-index in
    let now : List (Option ℕ) = c.loop-outlet.flood.distances.items in
    let near : ℕ = c.in-Some.near in
    let is : IsOutlet segments c.args.u outlet =
    c.ports-ports.ensures.ports.each outlet (Contains-get_or outlets c.loop-outlet.outlet-index (record { place = 0; cost = 0; to = None })
    c.loop-outlet-test.true) in
    let begun : distance_at c.args.flood.now.distances.items c.args.u ≡ Some near =
    near_at c.args.flood.now.distances.items c.args.u near c.index.result.now c.get.result
    (omega (arith, c.requires.vertex, c.requires.flood.long)) c.index.ensures c.get.ensures.value c.in-Some.is in
    let here : distance_at now c.args.u ≡ Some near = c.loop-outlet.invariant.lowers.near c.args.u near begun (omega arith) in
    record {
      place = is.within;
      fits = sum_fits now c.args.u near c.from.result c.loop-outlet.invariant.flood.room here (omega arith);
      flood = c.loop-outlet.invariant.flood;
      entry = subst (λ (n : ℕ). HasCost (cost_onto now) (segment_at segments outlet.place) (near + n)) (sym c.from.ensures)
          (entry_of_outlet segments c.args.u outlet now near is here);
      others = last_above segments c.args.u outlet now near (near + c.from.result) is here (omega arith);
    }

pub loop-outlet-init : goal.loop-outlet-init
loop-outlet-init c = grind (arith, common_steps, falls_none, lowers_none)

pub loop-outlet-preserved : goal.loop-outlet-preserved
loop-outlet-preserved c =
    let segments : List (List Port) = c.args.graph.now.segments in
    let i : ℕ = c.loop-outlet.outlet-index in
    let near : ℕ = c.in-Some.near in
    let before = c.loop-outlet.invariant in
    let step = c.cross.ensures in
    let after : List (Option ℕ) = c.cross.new.flood.distances.items in
    let at = outlet_at c.ports-ports.result.now in
    record {
      flood = step.flood;
      falls = falls_on before.falls step.falls;
      lowers = lowers_on near (near + c.from.result) _ _ _ (omega arith) before.lowers step.lowers;
      reached = below_more (λ j. AreAllAtMost after (segment_at segments (at j).place) (near + (at j).cost)) i
          (λ j below port among. step.falls.lower port.vertex (near + (at j).cost) (before.reached j below port among))
          (subst (λ (n : ℕ). AreAllAtMost after (segment_at segments (at i).place) (near + n)) c.from.ensures step.all);
    }

pub returns-clause-settled : goal.returns-clause-settled
returns-clause-settled c =
    settled_on c.args.graph.now.segments c.in-Some.near _ _ c.requires.settled c.loop-outlet.invariant.lowers c.loop-outlet.invariant.falls.lower
    (omega (arith, c.loop-outlet.invariant.flood.long, c.loop-outlet.invariant.flood.marks))

pub returns-clause-tight : goal.returns-clause-tight
returns-clause-tight c =
    let begun : distance_at c.args.flood.now.distances.items c.args.u ≡ Some c.in-Some.near =
    near_at c.args.flood.now.distances.items c.args.u c.in-Some.near c.index.result.now c.get.result
    (omega (arith, c.requires.vertex, c.requires.flood.long)) c.index.ensures c.get.ensures.value c.in-Some.is in
    tight_over c.args.graph.now.segments c.args.u c.in-Some.near c.loop-outlet.outlet-index c.ports-ports.result.now
    (record { place = 0; cost = 0; to = None })
    c.loop-outlet.flood.distances.items c.loop-outlet-test.false c.ports-ports.ensures.ports
    (c.loop-outlet.invariant.lowers.near c.args.u c.in-Some.near begun (omega arith)) c.loop-outlet.invariant.reached

pub returns-clause-marked : goal.returns-clause-marked
returns-clause-marked c is = c.loop-outlet.invariant.lowers.kept c.args.u is

pub returns-clause-left : goal.returns-clause-left
returns-clause-left c = c.loop-outlet.invariant.lowers.left
