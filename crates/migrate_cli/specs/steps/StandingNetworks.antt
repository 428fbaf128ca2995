-- What `failures` comes to on the network of its configurations.
use Rattle.std.specs.Prelude.{ℕ, List}
use Rattle.net_model.specs.Configuration.{Configuration}
use Rattle.net_model.specs.Network.{HasConfiguration, Network}
use Rattle.net_model.specs.OffStarts.{IsLowestOffStart}
use Rattle.net_model.specs.Refusals.{IsNetwork}
use Rattle.step_scripts.specs.declared.version.Version.{Version}
use Rattle.failure_texts.specs.declared.verdict.FailedLink.{FailedLink}
use Rattle.migration_report.specs.declared.decision.Decision.{Decision}
use Rattle.migration_report.specs.declared.outcome.Outcome.{Outcome}
use Rattle.migration_report.specs.declared.outcome.Outcome.TheVariants.{Decided, Refused}
use Rattle.migration_report.specs.declared.refusal.Refusal.TheVariants.{OffStart}
use Rattle.migrate_cli.specs.Configurations.{IsAtStart}
use Rattle.migrate_cli.specs.FailuresDecision.{AreFailedLinks, IsFailuresDecision, IsToldFailures}
use Rattle.migrate_cli.specs.Reading.{NamedText}

-- a router of it isn't where a migration starts; or it decides of the order file
pub data IsStandingOutcome (order : NamedText) (net : Network) : Outcome → Type 0 where
  astray : (router : ℕ) (config : Configuration) → IsLowestOffStart net router → HasConfiguration net router config →
      IsStandingOutcome order net (Refused (OffStart config.name))
  decides : (decision : Decision) → IsAtStart net → IsFailuresDecision order net decision → IsStandingOutcome order net (Decided net decision)

-- of each link it is told what a list comes to without it
pub record IsLinksDecision (net : Network) (version : Version) (ranks : List ℕ) (checked : Decision) (decision : Decision) : Type 0 where
  pub network : IsNetwork net
  pub failed : List FailedLink
  pub are : AreFailedLinks net version ranks failed
  pub told : IsToldFailures net checked failed decision
