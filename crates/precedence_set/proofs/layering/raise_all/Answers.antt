use Rattle.std.proofs.lemmas.Grind.{common_steps}
use Rattle.std.proofs.Common.{ℕ, ◌≡◌, arith, subst, sym, length}
use Rattle.order_core.specs.Rankings.{IsRanking}
use Rattle.precedence_set.proofs.LayerFacts.{layers_rank}
use Rattle.precedence_set.proofs.RaiseFacts.{AreRaised, AreRaised-step, AreLayers-raised}
use Rattle.precedence_set.proofs.layering.raise_all.Goals as goal

pub loop-k-preserved : goal.loop-k-preserved
loop-k-preserved c =
    AreRaised-step (length c.args.layers.now) c.args.graph.now.pairs.now c.args.order.now c.loop-k.layers c.raise_after.new.layers c.loop-k.k c.requires.order
    (omega (arith, c.loop-k-test.true, c.requires.order.whole)) c.loop-k.invariant
    c.raise_after.ensures.no_lower c.raise_after.ensures.above c.raise_after.ensures.from

pub returns-clause-layers : goal.returns-clause-layers
returns-clause-layers c = grind (arith, common_steps, AreLayers-raised)

pub returns-clause-ranking : goal.returns-clause-ranking
returns-clause-ranking c =
    let long : length c.args.layers.now ≡ length c.loop-k.layers = omega (arith, c.loop-k.auto.layers, c.clear_numbers.auto.numbers) in
    let end : c.loop-k.k ≡ length c.args.layers.now = omega (arith, c.loop-k-test.false, c.loop-k.auto.k-end, c.requires.order.whole) in
    let raised = subst (λ (k : ℕ). AreRaised c.args.graph.now.pairs.now c.args.order.now c.loop-k.layers k) end c.loop-k.invariant in
    subst (λ (n : ℕ). IsRanking n c.loop-k.layers) long (layers_rank (length c.args.layers.now) c.args.graph.now.pairs.now
    c.loop-k.layers c.requires.graph.below
    (AreLayers-raised (length c.args.layers.now) c.args.graph.now.pairs.now c.args.order.now c.loop-k.layers
    c.requires.graph.below c.requires.order raised (sym long)))
