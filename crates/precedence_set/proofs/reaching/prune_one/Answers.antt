-- What reaches u isn't the router, since that one is before no marked router.
use Rattle.std.proofs.Common.{arith}
use Rattle.std.proofs.lemmas.Grind.{common_steps}
use Rattle.std.proofs.Common.{◌≡◌, ℕ, false, Option, subst, ◌∙◌}
use Rattle.std.specs.Option.{is_some, IfNone}
use Rattle.std.proofs.lemmas.List.{get_or-set_other}
use Rattle.order_core.specs.Pairs.{Reaches}
use Rattle.precedence_set.proofs.TraceFacts.{first_back}
use Rattle.precedence_set.proofs.reaching.prune_one.Goals as goal

none_from_test : (o : Option ℕ) (P : Type 0) → false ≡ is_some o → IfNone o P → P
none_from_test o P e holds = grind (arith, common_steps)

pub returns : goal.returns
returns c = λ r reaches.
    let x = c.args.x in
    let none = none_from_test c.lowest_marked_after.result _ c.if-is_some.ensures c.lowest_marked_after.ensures.none in
    get_or-set_other c.args.marks.now x r false false (λ same.
    let onward = first_back c.args.graph.now.pairs.now c.args.u x c.if-x-u.false
    (subst (λ (y : ℕ). Reaches c.args.graph.now.pairs.now y c.args.u) same reaches) in
    none onward.0 onward.1 (c.requires.complete onward.0 onward.2)) ∙ c.requires.complete r reaches
