-- What `rollback` decides of an order file, a journal and a network that is at its start.
use Rattle.std.specs.Prelude.{ℕ, List}
use Rattle.live_replan.specs.BackTexts.{back_text}
use Rattle.state_replay.specs.Journals.{HasReached, IsPlace, progress}
use Rattle.state_replay.specs.declared.place.Place.TheVariants as place
use Rattle.step_scripts.specs.FaultyLines.{IsLeastFaultyLine}
use Rattle.step_scripts.specs.WaveFiles.{NamesWaves}
use Rattle.step_scripts.specs.declared.kind.OrderKind.{OrderKind}
use Rattle.step_scripts.specs.declared.version.Version.{Version}
use Rattle.migration_report.specs.declared.decision.Decision.{Decision}
use Rattle.migration_report.specs.declared.decision.Decision.TheVariants.{WayBack, Departs, BadOrder}
use Rattle.migrate_cli.specs.Reading.{NamedText}
use Rattle.migrate_cli.specs.ReplayDecision.{Journal}

-- what is decided of a journal of a wave list: the lines that undo its changes, from the last to the first, where these are the first
-- ones of some run; else its first line that fits no run
pub data IsWayBack (journal : Journal) (ranks : List ℕ) : Decision → Type 0 where
  taken_back : (made : ℕ) (done : List ℕ) (reached : HasReached (progress journal.net ranks done) journal.text made) →
      IsWayBack journal ranks (WayBack (back_text journal.net reached.changes))
  departs : (line : ℕ) (done : List ℕ) → IsPlace (progress journal.net ranks done) journal.text (place.Departs line) →
      IsWayBack journal ranks (Departs line)

-- the order file has a faulty line, or names a wave list of the routers
pub data IsRollbackDecision (order : NamedText) (journal : Journal) : Decision → Type 0 where
  faulty_waves : (number : ℕ) (kind : OrderKind) → IsLeastFaultyLine journal.net order.text number kind →
      IsRollbackDecision order journal (BadOrder order.file number kind)
  of_waves : (version : Version) (ranks : List ℕ) (decision : Decision) → NamesWaves journal.net order.text version ranks →
      IsWayBack journal ranks decision → IsRollbackDecision order journal decision
