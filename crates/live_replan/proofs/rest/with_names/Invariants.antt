use Rattle.std.proofs.Common.{◌≡◌, ◌++◌, take}
use Rattle.net_model.specs.RouterNames.{names_of}
use Rattle.printed_lines.specs.Words.{spaced}
use Rattle.step_scripts.specs.WavesTexts.{names_at}
use Rattle.live_replan.proofs.rest.with_names.Given as goal

abbrev pub invariant-loop-router : goal.invariant-loop-router
invariant-loop-router l = l.line ≡ l.initial.line ++ spaced (names_at (names_of l.net) (take l.router-index l.routers))
