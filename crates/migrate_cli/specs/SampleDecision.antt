-- What `sample` decides of the network of its text.
use Rattle.std.specs.Prelude.{◌≢◌, ℕ, ◌<◌, List, length}
use Rattle.net_model.specs.Network.{Network}
use Rattle.net_model.specs.Refusals.{IsNetwork}
use Rattle.igp_theory.specs.Migrations.{ospf_to_isis}
use Rattle.order_core.specs.Pairs.{Pair}
use Rattle.order_search.specs.Trees.{branch_count}
use Rattle.order_search.specs.declared.found.Found.TheVariants.{Waves}
use Rattle.order_search.specs.declared.tree.Node.{Node}
use Rattle.plan_theory.specs.Plans.{IsPlanned}
use Rattle.plan_theory.specs.declared.planned.Planned.{Planned}
use Rattle.plan_theory.specs.declared.planned.Planned.TheVariants.{Searched}
use Rattle.migrate_words.specs.declared.command.TheConstants.{USUAL_BUDGET}
use Rattle.migration_report.specs.Outcomes.{plan_status}
use Rattle.migration_report.specs.declared.decision.Decision.{Decision}
use Rattle.migration_report.specs.declared.decision.Decision.TheVariants.{Plan, Summary}
use Rattle.migration_report.specs.declared.status.Status.TheVariants.{Done}
use Rattle.migrate_cli.specs.OriginatedPrefixes.{CountsOriginated}

-- where `plan` with the usual budget finds a wave list, the summary of it: how many routers were asked for, how many distinct
-- prefixes are originated in the network, the branches of the trail that leads to the waves, and these; else what `plan` decides.
-- There is a router at least, and the network keeps what every network keeps
pub data IsSampleDecision (routers : ℕ) (net : Network) : Decision → Type 0 where
  summed_up : (ranks : List ℕ) (pairs : List Pair) (chain : List ℕ) (trail : List Node) (prefixes : ℕ) → 0 < length net →
      IsNetwork net → IsPlanned (ospf_to_isis net) USUAL_BUDGET (Searched (Waves ranks pairs chain trail)) →
      CountsOriginated net prefixes →
      IsSampleDecision routers net (Summary (record { routers = routers; prefixes = prefixes; branches = branch_count trail }) ranks)
  as_planned : (planned : Planned) → plan_status planned ≢ Done → 0 < length net → IsNetwork net →
      IsPlanned (ospf_to_isis net) USUAL_BUDGET planned → IsSampleDecision routers net (Plan planned)
