-- What is said of calls that take an order file and a journal.
use Rattle.std.specs.Prelude.{◌≡◌, ℕ, List, [], ◌∷◌}
use Rattle.net_model.specs.Network.{Network}
use Rattle.state_replay.specs.Journals.{IsPlace, progress}
use Rattle.state_replay.specs.declared.place.Place.TheVariants as place
use Rattle.step_scripts.specs.WaveFiles.{NamesWaves}
use Rattle.step_scripts.specs.declared.version.Version.{Version}
use Rattle.store_edge.specs.Sink.{AddsBytes}
use Rattle.migrate_words.specs.declared.command.Command.{Command}
use Rattle.migration_report.specs.JournalTexts.{departs_text}
use Rattle.migrate_cli.specs.Calls.{Call, Course}
use Rattle.migrate_cli.specs.CommandFiles.{config_texts, files_of, own_texts}
use Rattle.migrate_cli.specs.Completeness.{IsAccepted}
use Rattle.migrate_cli.specs.Configurations.{GiveNetwork, IsAtStart}
use Rattle.migrate_cli.specs.Reading.{AreRead, AreWithin}

-- what a command read that takes an order file and a journal: its texts are within the limits, so they are all that its files hold; they
-- give this network, every router of which is where a migration starts; and the order file names a wave list of its routers
pub record HasJournal (call : Call) (command : Command) : Type 0 where
  pub texts : List (List ℕ)
  pub read : AreRead call.content (files_of command) texts
  pub within : AreWithin (files_of command) texts
  pub net : Network
  pub gives : GiveNetwork (config_texts command texts) net
  pub start : IsAtStart net
  pub order : List ℕ
  pub journal : List ℕ
  pub own : own_texts command texts ≡ order ∷ journal ∷ []
  pub version : Version
  pub ranks : List ℕ
  pub names : NamesWaves net order version ranks

-- the journal has a first line that fits no run, and the line that tells it was written
pub record TellsDeparture (call : Call) (command : Command) (outside : Course) (it : HasJournal call command) : Type 0 where
  pub line : ℕ
  pub done : List ℕ
  pub departs : IsPlace (progress it.net it.ranks done) it.journal (place.Departs line)
  pub written : AddsBytes outside.before.written outside.after.written (departs_text line)

-- a command of these words, of which nothing is refused, and whose order file names a wave list of the routers, in either version
pub record AcceptsJournal (call : Call) (command : Command) : Type 0 where
  pub texts : List (List ℕ)
  pub net : Network
  pub accepted : IsAccepted call command texts net []
  pub order : List ℕ
  pub journal : List ℕ
  pub own : own_texts command texts ≡ order ∷ journal ∷ []
  pub version : Version
  pub ranks : List ℕ
  pub names : NamesWaves net order version ranks
