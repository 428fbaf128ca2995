-- What `scripts` decides of an order file and a network that is at its start.
use Rattle.std.specs.Prelude.{ℕ, List}
use Rattle.net_model.specs.Network.{Network}
use Rattle.step_scripts.specs.FaultyLines.{IsLeastFaultyLine}
use Rattle.step_scripts.specs.WaveFiles.{NamesWaves}
use Rattle.step_scripts.specs.declared.kind.OrderKind.{OrderKind}
use Rattle.step_scripts.specs.declared.version.Version.{Version}
use Rattle.migration_report.specs.declared.decision.Decision.{Decision}
use Rattle.migration_report.specs.declared.decision.Decision.TheVariants.{Script, BadOrder}
use Rattle.migrate_cli.specs.Reading.{NamedText}

-- the order file has a faulty line, or names a wave list of the routers: then its script, in the version of the file
pub data IsScriptsDecision (order : NamedText) (net : Network) : Decision → Type 0 where
  faulty_waves : (number : ℕ) (kind : OrderKind) → IsLeastFaultyLine net order.text number kind →
      IsScriptsDecision order net (BadOrder order.file number kind)
  of_waves : (version : Version) (ranks : List ℕ) → NamesWaves net order.text version ranks →
      IsScriptsDecision order net (Script version ranks)
