-- What `twopass` decides of a network that is at its start, with a budget of branches.
use Rattle.std.specs.Prelude.{ℕ, ◌<◌, length}
use Rattle.net_model.specs.Network.{Network}
use Rattle.net_model.specs.Refusals.{IsNetwork}
use Rattle.igp_theory.specs.Migrations.{Migration, ospf_to_isis}
use Rattle.plan_theory.specs.Plans.{IsNightPlanned}
use Rattle.plan_theory.specs.declared.items.Items.TheVariants.{Changes}
use Rattle.plan_theory.specs.declared.planned.Planned.{Planned}
use Rattle.migration_report.specs.declared.decision.Decision.{Decision}
use Rattle.migration_report.specs.declared.decision.Decision.TheVariants.{TwoPass}

-- what is planned of the single changes of a migration, by its tables: the fault of the first end that isn't sound; or, between
-- sound ends, a wave list of changes, each router's first before its second, throughout which the migration is sound, with the chain
-- that shows the number of its waves, a closed tree, so that there is no such list, or a tree where the budget of branches was spent.
-- There is a router at least, and the network keeps what every network keeps
pub data IsTwoPassOver (move : Migration) (budget : ℕ) : Decision → Type 0 where
  plans_changes : (planned : Planned) → 0 < length move.net → IsNetwork move.net → IsNightPlanned Changes move budget planned →
      IsTwoPassOver move budget (TwoPass planned)

-- by the tables of OSPF and of IS-IS
abbrev pub IsTwoPassDecision : ℕ → Network → Decision → Type 0
IsTwoPassDecision budget net decision = IsTwoPassOver (ospf_to_isis net) budget decision
