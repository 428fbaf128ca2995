-- The pair moves no router, or its second one alone.
use Rattle.std.proofs.lemmas.Grind.{common_steps}
use Rattle.std.proofs.Common.{◌≡◌, ℕ, false, Option, None, length, length-set, arith, subst, sym, ◌+◌, ◌++◌, ◌∷◌, [], set}
use Rattle.std.proofs.Common.{get_or}
use Rattle.std.specs.Option.{is_some}
use Rattle.precedence_set.specs.Layers.{AreLayers}
use Rattle.precedence_set.proofs.LayerSteps.{AreLayers-kept, AreLayers-moved, none_after}
use Rattle.precedence_set.proofs.layering.add_to_layers.Goals as goal

none_from_test : (o : Option ℕ) → false ≡ is_some o → o ≡ None
none_from_test o e = grind (arith, common_steps)

pub returns-then-layers-u-clause-layers : goal.returns-then-layers-u-clause-layers
returns-then-layers-u-clause-layers c pairs fresh successors are =
    AreLayers-kept (length c.args.layers.now) pairs c.args.layers.now c.args.u c.args.v are (omega arith)

pub returns-clause-layers : goal.returns-clause-layers
returns-clause-layers c pairs fresh successors are =
    let layers = c.args.layers.now in
    let rank : ℕ = get_or layers c.args.u 0 + 1 in
    let none = none_from_test c.first.result c.if-is_some.ensures in
    let last = none_after (length layers) pairs c.args.successors.now.lists c.args.v c.first.result successors c.requires.v_in c.first.ensures none in
    let are_now = AreLayers-moved (length layers) pairs layers c.args.u c.args.v are c.requires.v_in c.requires.differ (omega arith) last in
    subst (λ (n : ℕ). AreLayers n (pairs ++ (c.args.u, c.args.v) ∷ []) (set layers c.args.v rank)) (sym (length-set layers c.args.v rank)) are_now
