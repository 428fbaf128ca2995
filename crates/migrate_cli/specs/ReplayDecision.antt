-- What `replay` decides of an order file, a journal and a network that is at its start.
use Rattle.std.specs.Prelude.{◌≡◌, ℕ, ◌<◌, List, length, slice_index_or, Option, None}
use Rattle.net_model.specs.Network.{Network}
use Rattle.state_replay.specs.Journals.{IsNextOn, IsPlace, progress}
use Rattle.state_replay.specs.declared.half.Half.{Half}
use Rattle.state_replay.specs.declared.place.Place.TheVariants as place
use Rattle.step_scripts.specs.FaultyLines.{IsLeastFaultyLine}
use Rattle.step_scripts.specs.WaveFiles.{NamesWaves}
use Rattle.step_scripts.specs.declared.kind.OrderKind.{OrderKind}
use Rattle.step_scripts.specs.declared.version.Version.{Version}
use Rattle.migration_report.specs.declared.decision.Decision.{Decision}
use Rattle.migration_report.specs.declared.decision.Decision.TheVariants.{Reached, Departs, BadOrder}
use Rattle.migrate_cli.specs.Reading.{NamedText}

-- of each of the first routers the change that may come next, where so many changes are made on each router
pub record AreNext (ranks done : List ℕ) (routers : ℕ) (nexts : List (Option Half)) : Type 0 where
  pub each : length nexts ≡ routers
  pub next : (u : ℕ) → u < routers → IsNextOn ranks done u (slice_index_or nexts u None)

-- a journal of a migration of a network
pub record Journal : Type 0 where
  pub text : List ℕ
  pub net : Network

abbrev pub journal_of : List ℕ → Network → Journal
journal_of text net = record { text = text; net = net }

-- what is decided of a journal of a wave list: how many changes it has reached and which may come next, where its
-- changes are the first ones of some run; else its first line that fits no run
pub data IsJournalDecision (journal : Journal) (ranks : List ℕ) : Decision → Type 0 where
  reached : (made : ℕ) (done : List ℕ) (nexts : List (Option Half)) →
      IsPlace (progress journal.net ranks done) journal.text (place.Reached made) → AreNext ranks done (length journal.net) nexts →
      IsJournalDecision journal ranks (Reached made nexts)
  departs : (line : ℕ) (done : List ℕ) → IsPlace (progress journal.net ranks done) journal.text (place.Departs line) →
      IsJournalDecision journal ranks (Departs line)

-- the order file has a faulty line, or names a wave list of the routers
pub data IsReplayDecision (order : NamedText) (journal : Journal) : Decision → Type 0 where
  faulty_waves : (number : ℕ) (kind : OrderKind) → IsLeastFaultyLine journal.net order.text number kind →
      IsReplayDecision order journal (BadOrder order.file number kind)
  of_waves : (version : Version) (ranks : List ℕ) (decision : Decision) → NamesWaves journal.net order.text version ranks →
      IsJournalDecision journal ranks decision → IsReplayDecision order journal decision
