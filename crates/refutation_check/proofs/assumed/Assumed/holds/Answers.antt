use Rattle.std.proofs.Common.{◌<◌, ◌↔◌, List, Contains, arith, ap, subst}
use Rattle.std.proofs.lemmas.Bool.Decides.{Decides-ltb}
use Rattle.order_core.specs.Pairs.{Pair}
use Rattle.refutation_check.specs.steps.Assumed.{Assumptions}
use Rattle.refutation_check.proofs.PairCounts.{held_at}
use Rattle.refutation_check.proofs.assumed.Assumed.holds.Goals as goal

pub returns : goal.returns
returns c =
    let a = c.self.inside in
    let count = ap (λ (x : Assumptions). x.routers) c.self.view_is in
    let before_in : c.args.before < a.routers = omega (arith, c.requires.before_in, count) in
    let after_in : c.args.after < a.routers = omega (arith, c.requires.after_in, count) in
    let p : Pair = (c.args.before, c.args.after) in
    let held : (0 < c.index.result.now) ↔ Contains c.args.self.now.pairs p =
    subst (λ (l : List Pair). (0 < c.index.result.now) ↔ Contains l p) (ap (λ (x : Assumptions). x.pairs) c.self.view_is)
    (held_at a.routers c.args.before c.args.after c.place_of.result c.index.result.now a.counts.items a.pairs.items before_in after_in
    c.place_of.ensures.value c.index.ensures c.self.invariant.counts) in
    let test = Decides-ltb 0 c.index.result.now in
    (λ is. held.0 (test.0 is), λ has. test.1 (held.1 has))
