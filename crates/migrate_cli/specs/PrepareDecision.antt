-- What `prepare` decides of a design, the texts of some configurations and the network that these make.
use Rattle.std.specs.Prelude.{ℕ, List}
use Rattle.net_model.specs.Network.{Network}
use Rattle.design_file.specs.declared.settled.SettledRouter.{SettledRouter}
use Rattle.isis_writer.specs.PreparedConfigurations.{prepared_texts}
use Rattle.migration_report.specs.declared.decision.Decision.{Decision}
use Rattle.migration_report.specs.declared.decision.Decision.TheVariants.{Prepared}
use Rattle.migrate_cli.specs.Reading.{NamedText}
use Rattle.migrate_cli.specs.SettledDesigns.{IsSettledDecision}

-- configurations, and the network that they make
pub record Configured : Type 0 where
  pub configs : List (List ℕ)
  pub net : Network

abbrev pub configured : List (List ℕ) → Network → Configured
configured configs net = record { configs = configs; net = net }

-- what is settled for the routers is written into the texts
abbrev pub with_settled_lines : Configured → List SettledRouter → Decision
with_settled_lines routers settled = Prepared (prepared_texts routers.net settled routers.configs)

-- the design is refused, or the texts are prepared
abbrev pub IsPrepareDecision : NamedText → Configured → Decision → Type 0
IsPrepareDecision design routers decision = IsSettledDecision design routers.net (with_settled_lines routers) decision
