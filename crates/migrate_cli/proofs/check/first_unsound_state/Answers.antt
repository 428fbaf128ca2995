use Rattle.std.proofs.Common.{arith}
use Rattle.std.proofs.lemmas.Grind.{common_steps}
use Rattle.std.proofs.Common.{length, subst, sym}
use Rattle.order_core.specs.Orders.{IsOrder}
use Rattle.migrate_cli.proofs.check.first_unsound_state.Goals as goal

pub unsound_state-requires : goal.unsound_state-requires
unsound_state-requires c = subst (λ m. IsOrder (length m.net) c.args.order.now) (sym c.in_ok-finder.ensures.mixture) c.requires

pub returns : goal.returns
returns c = grind (arith, common_steps)
