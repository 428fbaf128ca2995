-- What a call of `rollback` promises: the lines that it writes take the network back, state by state.
use Rattle.std.specs.Prelude.{ℕ, List, [], ◌∷◌, length}
use Rattle.igp_theory.specs.Changes.{Change}
use Rattle.igp_theory.specs.Migrations.{ospf_to_isis}
use Rattle.igp_theory.specs.States.{IsSound}
use Rattle.igp_theory.specs.Waves.{AreSeamlessWaves}
use Rattle.live_replan.specs.BackTexts.{TellsChanges, back_text}
use Rattle.state_replay.specs.Journals.{BeginRun}
use Rattle.store_edge.specs.Sink.{AddsBytes}
use Rattle.undone_changes.specs.UndoneTexts.{ReadBackward, state_kept}
use Rattle.migrate_words.specs.Asked.{Asks}
use Rattle.migrate_words.specs.declared.command.Command.{Command}
use Rattle.migrate_words.specs.declared.command.CommandKind.TheVariants.{Rollback}
use Rattle.migration_report.specs.declared.status.Status.{Status}
use Rattle.migration_report.specs.declared.status.Status.TheVariants.{Done, Negative}
use Rattle.migrate_cli.specs.Calls.{Call, Outside, course, Course}
use Rattle.migrate_cli.specs.CommandFiles.{command_of, config_texts}
use Rattle.migrate_cli.specs.Completeness.{Decides, IsYesOrNo, NoFaultRose}
use Rattle.migrate_cli.specs.JournalPromise.{AcceptsJournal, HasJournal, TellsDeparture}

-- `rollback` of an order file, a journal and these configurations
abbrev pub rollback_of : List ℕ → List ℕ → List (List ℕ) → Command
rollback_of file journal_file configs = command_of Rollback (file ∷ journal_file ∷ []) configs 0

-- the journal tells these changes, the first ones of some run; what was written takes them back, from the last to the first: however
-- many are kept, the configurations with the lines of all changes and behind them with the lines that undo those that aren't kept read
-- as the network in the state in which the others are made; and where the wave list is seamless each of these states is sound
pub record RollsBack (call : Call) (command : Command) (outside : Course) (it : HasJournal call command) : Type 0 where
  pub changes : List Change
  pub tells : TellsChanges it.net it.journal changes
  pub begin : BeginRun (length it.net) it.ranks changes
  pub written : AddsBytes outside.before.written outside.after.written (back_text it.net changes)
  pub back : (kept : ℕ) → ReadBackward it.net (config_texts command it.texts) changes kept
  pub sound : AreSeamlessWaves (ospf_to_isis it.net) it.ranks → (kept : ℕ) → IsSound (ospf_to_isis it.net) (state_kept changes kept)

-- what was written, by the status: with 0 the way back, with 1 where the journal departs
pub data WritesBack (call : Call) (command : Command) (outside : Course) (it : HasJournal call command) : Status → Type 0 where
  takes_back : RollsBack call command outside it → WritesBack call command outside it Done
  tells_departure : TellsDeparture call command outside it → WritesBack call command outside it Negative

pub record HasRolledBack (call : Call) (command : Command) (outside : Course) (status : Status) : Type 0 where
  pub it : HasJournal call command
  pub writes : WritesBack call command outside it status

-- where the words ask for `rollback` and it ends with yes or no, it has done so; and where nothing of its input is refused and no fault
-- rises, it ends so, or for want of memory
pub record RollbackPromise (call : Call) (before after : Outside) (status : Status) : Type 0 where
  pub means : (file journal_file : List ℕ) (configs : List (List ℕ)) → Asks call.words (rollback_of file journal_file configs) →
      IsYesOrNo status → HasRolledBack call (rollback_of file journal_file configs) (course before after) status
  pub decides : (file journal_file : List ℕ) (configs : List (List ℕ)) → AcceptsJournal call (rollback_of file journal_file configs) →
      NoFaultRose before after → Decides status
