-- What a call of `picture` promises: it says what `check` says, and it writes the picture of that.
use Rattle.std.specs.Prelude.{◌≡◌, ℕ, List, [], ◌∷◌}
use Rattle.net_model.specs.Network.{Network}
use Rattle.step_scripts.specs.WaveFiles.{NamesWaves}
use Rattle.step_scripts.specs.declared.version.Version.{Version}
use Rattle.store_edge.specs.Sink.{AddsBytes}
use Rattle.migrate_words.specs.Asked.{Asks}
use Rattle.migrate_words.specs.declared.command.Command.{Command}
use Rattle.migrate_words.specs.declared.command.CommandKind.TheVariants.{Picture}
use Rattle.migration_report.specs.Outcomes.{decision_status}
use Rattle.migration_report.specs.declared.decision.Decision.{Decision}
use Rattle.migration_report.specs.declared.status.Status.{Status}
use Rattle.migrate_cli.specs.Calls.{Call, Outside, course, Course}
use Rattle.migrate_cli.specs.CheckDecision.{IsCheckDecision}
use Rattle.migrate_cli.specs.CommandFiles.{command_of, config_texts, files_of, own_texts}
use Rattle.migrate_cli.specs.Completeness.{Decides, IsAccepted, IsYesOrNo, NoFaultRose}
use Rattle.migrate_cli.specs.Configurations.{GiveNetwork, IsAtStart}
use Rattle.migrate_cli.specs.PictureDecision.{Draws}
use Rattle.migrate_cli.specs.Reading.{AreRead, AreWithin, named_text}

-- `picture` of these files
abbrev pub picture_of : List ℕ → List (List ℕ) → Command
picture_of file configs = command_of Picture (file ∷ []) configs 0

-- `picture` of these files has drawn: its texts were read within the limits; the first one names a wave list of the network of the
-- others, in version 1 one router a wave; it ends as `check` of that text does; and the bytes written are the picture of the network and
-- the list, with the line of `check` above and the fault that it tells
pub record HasDrawn (call : Call) (file : List ℕ) (configs : List (List ℕ)) (outside : Course) (status : Status) : Type 0 where
  pub texts : List (List ℕ)
  pub read : AreRead call.content (files_of (picture_of file configs)) texts
  pub within : AreWithin (files_of (picture_of file configs)) texts
  pub net : Network
  pub gives : GiveNetwork (config_texts (picture_of file configs) texts) net
  pub start : IsAtStart net
  pub text : List ℕ
  pub text_is : own_texts (picture_of file configs) texts ≡ text ∷ []
  pub version : Version
  pub ranks : List ℕ
  pub names : NamesWaves net text version ranks
  pub checked : Decision
  pub checks : (name : List ℕ) → IsCheckDecision (named_text name text) net checked
  pub status_is : status ≡ decision_status checked
  pub written : List ℕ
  pub adds : AddsBytes outside.before.written outside.after.written written
  pub draws : Draws net ranks checked written

-- `picture` of these files, whose order file names a wave list of the routers, in either version
pub record AcceptsPicture (call : Call) : Type 0 where
  pub file : List ℕ
  pub configs : List (List ℕ)
  pub texts : List (List ℕ)
  pub net : Network
  pub accepted : IsAccepted call (picture_of file configs) texts net []
  pub text : List ℕ
  pub text_is : own_texts (picture_of file configs) texts ≡ text ∷ []
  pub version : Version
  pub ranks : List ℕ
  pub names : NamesWaves net text version ranks

-- where a call asks for `picture` and ends with yes or no, it has drawn; and where nothing of its input is refused and no fault rises,
-- it ends so, or for want of memory
pub record PicturePromise (call : Call) (before after : Outside) (status : Status) : Type 0 where
  pub means :
      (file : List ℕ) (configs : List (List ℕ)) → Asks call.words (picture_of file configs) → IsYesOrNo status →
      HasDrawn call file configs (course before after) status
  pub decides : AcceptsPicture call → NoFaultRose before after → Decides status
