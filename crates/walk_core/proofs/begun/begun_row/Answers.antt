use Rattle.std.proofs.Common.{ℕ, subst}
use Rattle.std.proofs.lemmas.Result.{IfOk-weaker}
use Rattle.walk_core.specs.steps.Begun.{IsBegun, IsFarRow}
use Rattle.walk_core.proofs.BegunLaws.{begun_alone}
use Rattle.walk_core.proofs.begun.begun_row.Goals as goal

pub returns-in-None : goal.returns-in-None
returns-in-None c =
    IfOk-weaker c.far_row.result (λ row. IsFarRow c.count.result c.args.root row.items) (λ row. IsBegun c.args.graph.now c.args.root row.items)
    (λ row far. begun_alone c.args.graph.now c.args.root row.items c.requires.root c.count.ensures.few c.count.ensures.joined
    (subst (λ (n : ℕ). IsFarRow n c.args.root row.items) c.count.ensures.value far)) c.far_row.ensures
