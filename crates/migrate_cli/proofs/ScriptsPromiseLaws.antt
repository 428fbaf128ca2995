-- The configurations with the lines that `scripts` prints read as the states that were proved.
use Rattle.std.proofs.Common.{[], ◌∷◌}
use Rattle.igp_theory.specs.Phases.{State}
use Rattle.typed_distances.specs.TypedTexts.{ReadForward}
use Rattle.typed_distances.proofs.TypedTexts.{texts_forward}
use Rattle.migrate_words.specs.declared.command.CommandKind.TheVariants.{Scripts}
use Rattle.migrate_cli.specs.Calls.{Call}
use Rattle.migrate_cli.specs.CommandFiles.{command_of, config_texts}
use Rattle.migrate_cli.specs.Completeness.{AcceptsScripts}

pub typed_forward : (call : Call) (it : AcceptsScripts call) (state : State) →
    ReadForward it.net (config_texts (command_of Scripts (it.file ∷ []) it.configs 0) it.texts) state
typed_forward call it state =
    let gives = it.accepted.gives.0 in
    texts_forward (config_texts (command_of Scripts (it.file ∷ []) it.configs 0) it.texts) gives.configs it.net gives.read gives.make.network
    (it.accepted.start tt) state
