-- `design` decides one text of a network.
use Rattle.std.proofs.Common.{◌≡◌, ap}
use Rattle.net_model.specs.Network.{Network}
use Rattle.design_writer.proofs.OneText.{one_text}
use Rattle.migrate_words.specs.Schemes.{AskedScheme}
use Rattle.migration_report.specs.Outcomes.{IsTellable, decision_status}
use Rattle.migration_report.specs.declared.decision.Decision.{Decision}
use Rattle.migration_report.specs.declared.decision.Decision.TheVariants.{Designed}
use Rattle.migrate_cli.specs.Completeness.{Writes}
use Rattle.migrate_cli.specs.Completeness.Writes.{written}
use Rattle.migrate_cli.specs.DesignDecision.{IsDesignDecision}
use Rattle.migrate_cli.specs.DesignDecision.IsDesignDecision.{designed}

pub one_design_decision : {scheme : AskedScheme} {net : Network} {d e : Decision} → IsDesignDecision scheme net d → IsDesignDecision scheme net e →
    d ≡ e
one_design_decision {scheme} {net} (designed text is) (designed other its) = ap Designed (one_text scheme.area scheme.levels net text other is its)

-- it has a text
pub design_tellable : {scheme : AskedScheme} {net : Network} {d : Decision} → IsDesignDecision scheme net d → IsTellable net d
design_tellable (designed _ _) = tt

-- and is written
pub design_is_written : {scheme : AskedScheme} {net : Network} {d : Decision} → IsDesignDecision scheme net d → Writes (decision_status d)
design_is_written (designed _ _) = written
