use Rattle.std.proofs.Common.{arith}
use Rattle.std.proofs.lemmas.Grind.{common_steps}
use Rattle.std.proofs.Common.{◌<◌, length, subst, sym}
use Rattle.net_model.specs.Refusals.{IsNetwork}
use Rattle.migrate_cli.specs.steps.Tables.{NetworkMove}
use Rattle.migrate_cli.proofs.plan.plan_network.Goals as goal

pub plan_move-requires-clause-some : goal.plan_move-requires-clause-some
plan_move-requires-clause-some c = subst (λ (of : NetworkMove). 0 < length of.net) (sym c.to_isis.ensures) c.requires.some

pub returns-clause-network : goal.returns-clause-network
returns-clause-network c = subst (λ (of : NetworkMove). IsNetwork of.net) c.to_isis.ensures c.plan_move.ensures.network

pub returns-clause-planned : goal.returns-clause-planned
returns-clause-planned c = grind (arith, common_steps)
