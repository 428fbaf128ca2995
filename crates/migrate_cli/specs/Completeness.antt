-- Where nothing of the input is refused, a command answers.
use Rattle.std.specs.Prelude.{◌≡◌, ℕ, List, [], ◌∷◌, All}
use Rattle.net_model.specs.Network.{Network}
use Rattle.migrate_words.specs.declared.command.Command.{Command}
use Rattle.migrate_words.specs.declared.command.CommandKind.TheVariants.{Check, Refute, Scripts, Replay}
use Rattle.refutation_check.specs.Verdicts.{IsClosedText}
use Rattle.igp_theory.specs.Migrations.{Migration}
use Rattle.igp_theory.specs.Waves.{HasNoneSeamless}
use Rattle.step_scripts.specs.WaveFiles.{NamesWaves}
use Rattle.step_scripts.specs.declared.version.Version.{Version}
use Rattle.store_edge.specs.Faults.{Rose}
use Rattle.migration_report.specs.declared.status.Status.{Status}
use Rattle.migration_report.specs.declared.status.Status.TheVariants.{Done, Negative, Memory}
use Rattle.migrate_cli.specs.AnswerLaws.{IsFileTold}
use Rattle.migrate_cli.specs.Answers.{AsksForFew}
use Rattle.migrate_cli.specs.Calls.{Call, Outside}
use Rattle.migrate_cli.specs.CommandFiles.{NeedsStart, command_of, config_texts, files_of, groups_of, own_texts}
use Rattle.migrate_cli.specs.Configurations.{GiveNetworks, IsAtStart}
use Rattle.migrate_cli.specs.Reading.{AreRead, AreWithin, file_names}

-- the statuses with which a call has answered yes or no
abbrev pub IsYesOrNo : Status → Type 0
IsYesOrNo Done = Unit {0}
IsYesOrNo Negative = Unit {0}
IsYesOrNo _ = ⊥

-- the words ask for this, what the files hold is told and within the limits, and the configurations make this network, which
-- is at its start where that is needed, and these others
pub record IsAccepted (call : Call) (command : Command) (texts : List (List ℕ)) (net : Network) (others : List Network) : Type 0 where
  pub asked : AsksForFew call.words command
  pub told : All (IsFileTold call.content) (file_names (files_of command))
  pub read : AreRead call.content (files_of command) texts
  pub within : AreWithin (files_of command) texts
  pub gives : GiveNetworks (groups_of command.kind (config_texts command texts)) (net ∷ others)
  pub start : NeedsStart command.kind → IsAtStart net

-- no read fails in a call, and no fault of the sink rises
pub record NoFaultRose (before after : Outside) : Type 0 where
  pub files : after.reads.faults ≡ before.reads.faults
  pub sink : Rose before.sink_faults after.sink_faults → ⊥

-- `check` of these files, whose order file names a wave list of the routers, in either version
pub record AcceptsCheck (call : Call) : Type 0 where
  pub file : List ℕ
  pub configs : List (List ℕ)
  pub texts : List (List ℕ)
  pub net : Network
  pub accepted : IsAccepted call (command_of Check (file ∷ []) configs 0) texts net []
  pub text : List ℕ
  pub text_is : own_texts (command_of Check (file ∷ []) configs 0) texts ≡ text ∷ []
  pub version : Version
  pub ranks : List ℕ
  pub names : NamesWaves net text version ranks

-- `scripts` of these files, whose order file names a wave list of the routers, in either version
pub record AcceptsScripts (call : Call) : Type 0 where
  pub file : List ℕ
  pub configs : List (List ℕ)
  pub texts : List (List ℕ)
  pub net : Network
  pub accepted : IsAccepted call (command_of Scripts (file ∷ []) configs 0) texts net []
  pub text : List ℕ
  pub text_is : own_texts (command_of Scripts (file ∷ []) configs 0) texts ≡ text ∷ []
  pub version : Version
  pub ranks : List ℕ
  pub names : NamesWaves net text version ranks

-- `replay` of these files, whose order file names a wave list of the routers, in either version
pub record AcceptsReplay (call : Call) : Type 0 where
  pub file : List ℕ
  pub journal_file : List ℕ
  pub configs : List (List ℕ)
  pub texts : List (List ℕ)
  pub net : Network
  pub accepted : IsAccepted call (command_of Replay (file ∷ journal_file ∷ []) configs 0) texts net []
  pub text : List ℕ
  pub journal : List ℕ
  pub texts_are : own_texts (command_of Replay (file ∷ journal_file ∷ []) configs 0) texts ≡ text ∷ journal ∷ []
  pub version : Version
  pub ranks : List ℕ
  pub names : NamesWaves net text version ranks

-- `refute` of these files
pub record AcceptsRefute (call : Call) : Type 0 where
  pub file : List ℕ
  pub configs : List (List ℕ)
  pub texts : List (List ℕ)
  pub net : Network
  pub accepted : IsAccepted call (command_of Refute (file ∷ []) configs 0) texts net []
  pub tree : List ℕ
  pub tree_is : own_texts (command_of Refute (file ∷ []) configs 0) texts ≡ tree ∷ []

-- a command that decides ends with yes, with no, or for want of memory
pub data Decides : Status → Type 0 where
  yes : Decides Done
  no : Decides Negative
  memory : Decides Memory

-- a command that writes ends with what it was asked for, or for want of memory
pub data Writes : Status → Type 0 where
  written : Writes Done
  unwritten : Writes Memory

-- a command that decides on a tree ends with yes where the tree is closed, and then no wave list and no order of the migration
-- is seamless; with no where the text is no closed tree; or for want of memory
pub data DecidesTree (move : Migration) (tree : List ℕ) : Status → Type 0 where
  closed_tree : (branches leaves : ℕ) → IsClosedText move tree branches leaves →
      HasNoneSeamless move → DecidesTree move tree Done
  no_closed_tree : ((branches leaves : ℕ) → ¬ IsClosedText move tree branches leaves) → DecidesTree move tree Negative
  no_memory : DecidesTree move tree Memory

-- where nothing of the input of `check` is refused and no fault rises, it decides
abbrev pub CheckDecides : Call → Outside → Outside → Status → Type 0
CheckDecides call before after result = AcceptsCheck call → NoFaultRose before after → Decides result

-- and so does `replay`
abbrev pub ReplayDecides : Call → Outside → Outside → Status → Type 0
ReplayDecides call before after result = AcceptsReplay call → NoFaultRose before after → Decides result

-- and `scripts` writes
abbrev pub ScriptsWrites : Call → Outside → Outside → Status → Type 0
ScriptsWrites call before after result = AcceptsScripts call → NoFaultRose before after → Writes result
