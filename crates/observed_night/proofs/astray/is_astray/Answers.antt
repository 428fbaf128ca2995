use Rattle.observed_night.proofs.StateFacts.{astray_begun, astray_old}
use Rattle.observed_night.proofs.astray.is_astray.Goals as goal

pub returns-then-has_begun : goal.returns-then-has_begun
returns-then-has_begun c =
    astray_begun c.args.before.now c.args.now.now c.args.ranks.now c.args.router c.in-Some.phase c.follows_undone.result c.requires.router
    c.in-Some.ensures (c.has_begun.ensures.0 c.if-has_begun.true) c.follows_undone.ensures

pub returns-else-has_begun : goal.returns-else-has_begun
returns-else-has_begun c = (
  λ t. let not = c.if-has_begun.false in absurd cc,
  astray_old c.args.before.now c.args.now.now c.args.ranks.now c.args.router c.in-Some.phase c.in-Some.ensures
      (λ some. let yes = c.has_begun.ensures.1 some in let no = c.if-has_begun.false in cc),
)
