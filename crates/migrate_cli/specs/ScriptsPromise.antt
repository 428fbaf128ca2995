-- What a call of `scripts` promises: where nothing of its input is refused it writes, and what is typed is what was proved.
use Rattle.std.specs.Prelude.{[], ◌∷◌}
use Rattle.igp_theory.specs.Phases.{State}
use Rattle.typed_distances.specs.TypedTexts.{ReadForward}
use Rattle.migrate_words.specs.declared.command.CommandKind.TheVariants.{Scripts}
use Rattle.migration_report.specs.declared.status.Status.{Status}
use Rattle.migrate_cli.specs.Calls.{Call, Outside}
use Rattle.migrate_cli.specs.CommandFiles.{command_of, config_texts}
use Rattle.migrate_cli.specs.Completeness.{AcceptsScripts, ScriptsWrites}

-- it writes; and in each state, so after the first k changes of its order and after those of each interleaving within its waves, the
-- configurations of its files, with the lines of the changes made by then, read as a network that is the same but for distances, each
-- of whose routers uses, by its distances alone, what the definition of forwarding says of it in this state
pub record ScriptsPromise (call : Call) (before after : Outside) (status : Status) : Type 0 where
  pub writes : ScriptsWrites call before after status
  pub typed : (accepts : AcceptsScripts call) (state : State) →
      ReadForward accepts.net (config_texts (command_of Scripts (accepts.file ∷ []) accepts.configs 0) accepts.texts) state
