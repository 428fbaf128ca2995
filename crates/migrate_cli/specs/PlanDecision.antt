-- What `plan` decides of a network that is at its start, with a budget of branches.
use Rattle.std.specs.Prelude.{ℕ, ◌<◌, length}
use Rattle.net_model.specs.Network.{Network}
use Rattle.net_model.specs.Refusals.{IsNetwork}
use Rattle.igp_theory.specs.Migrations.{Migration, ospf_to_isis}
use Rattle.plan_theory.specs.Plans.{IsPlanned}
use Rattle.plan_theory.specs.declared.planned.Planned.{Planned}
use Rattle.migration_report.specs.declared.decision.Decision.{Decision}
use Rattle.migration_report.specs.declared.decision.Decision.TheVariants.{Plan}

-- what is planned of a migration, by its tables: the fault of the first end that isn't sound; or, between sound ends, a
-- seamless wave list with the chain that shows the number of its waves, a closed tree, so that no wave list is seamless, or a
-- tree where the budget of branches was spent. There is a router at least, and the network keeps what every network keeps
pub data IsPlanOver (move : Migration) (budget : ℕ) : Decision → Type 0 where
  plans : (planned : Planned) → 0 < length move.net → IsNetwork move.net → IsPlanned move budget planned →
      IsPlanOver move budget (Plan planned)

-- by the tables of OSPF and of IS-IS
abbrev pub IsPlanDecision : ℕ → Network → Decision → Type 0
IsPlanDecision budget net decision = IsPlanOver (ospf_to_isis net) budget decision
