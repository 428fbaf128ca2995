use Rattle.std.proofs.Common.{◌≡◌, ◌<◌, length, arith, get_or, inl, inr}
use Rattle.loop_finder.proofs.Reaching.{never_over, only_first}
use Rattle.loop_finder.proofs.returns.ends_alone.Goals as goal

pub loop-preserved : goal.loop-preserved
loop-preserved g c =
    let few : length c.hops.result.0.now < 2 = omega (arith, c.if-hops-gt1.false) in
    let none : length c.hops.result.1.now ≡ 0 = omega (arith, c.if-others-gt0.false) in
    record {
      within = omega (arith, c.if-hop-size.false, c.size.ensures.count);
      never = λ never. c.loop.invariant.never (never_over (g.G.StepGraph.step c.args.graph.now) c.args.router c.loop.last
          (get_or c.hops.result.0.now 0 0)
          (λ h steps. elim ((c.hops.ensures h).1 steps) [
            | inl among ↦ only_first c.hops.result.0.now h few among
            | inr other ↦ absurd (omega (arith, other.1, none))
          ]) c.if-hop-router.false never);
    }
