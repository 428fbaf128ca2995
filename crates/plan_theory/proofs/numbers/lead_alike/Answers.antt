use Rattle.std.proofs.Common.{sym, ◌∙◌}
use Rattle.std.proofs.lemmas.Bool.{false≢true}
use Rattle.plan_theory.proofs.numbers.lead_alike.Goals as goal

pub returns-then-has_all : goal.returns-then-has_all
returns-then-has_all c =
    let left = c.hops_of-left.ensures in
    let right = c.hops_of-right.ensures in (
      λ t h. (
        λ one. (right h).0 (c.has_all-then-has_all.ensures.0 t h ((left h).1 one)),
        λ other. (left h).0 (c.has_all.ensures.0 c.if-has_all.true h ((right h).1 other)),
      ),
      λ alike. c.has_all-then-has_all.ensures.1 (λ h inside. (right h).1 ((alike h).0 ((left h).0 inside))),
    )

pub returns-else-has_all : goal.returns-else-has_all
returns-else-has_all c =
    let left = c.hops_of-left.ensures in
    let right = c.hops_of-right.ensures in (
      λ t. absurd (false≢true (sym c.if-has_all.false ∙ t)),
      λ alike. c.has_all.ensures.1 (λ h inside. (left h).1 ((alike h).1 ((right h).0 inside))),
    )
