-- What `delta` decides of a design, the texts of some configurations and the network that these make.
use Rattle.std.specs.Prelude.{ℕ, List}
use Rattle.std.specs.List.{flat_map}
use Rattle.net_model.specs.Network.{Network}
use Rattle.design_file.specs.declared.settled.SettledRouter.{SettledRouter}
use Rattle.isis_writer.specs.Deltas.{delta_text}
use Rattle.migration_report.specs.declared.decision.Decision.{Decision}
use Rattle.migration_report.specs.declared.decision.Decision.TheVariants.{Delta}
use Rattle.migrate_cli.specs.PrepareDecision.{Configured}
use Rattle.migrate_cli.specs.Reading.{NamedText}
use Rattle.migrate_cli.specs.SettledDesigns.{IsSettledDecision}

-- the new lines of some texts, one text after the other
abbrev pub delta_texts : Network → List SettledRouter → List (List ℕ) → List ℕ
delta_texts net settled texts = flat_map (λ text. delta_text text net settled) texts

-- what is settled for the routers is written by itself
abbrev pub settled_lines_alone : Configured → List SettledRouter → Decision
settled_lines_alone routers settled = Delta (delta_texts routers.net settled routers.configs)

-- the design is refused, as by `prepare`, or the new lines of the texts are written
abbrev pub IsDeltaDecision : NamedText → Configured → Decision → Type 0
IsDeltaDecision design routers decision = IsSettledDecision design routers.net (settled_lines_alone routers) decision
