use Rattle.std.proofs.Common.{◌≡◌, ◌++◌, take}
use Rattle.printed_lines.specs.Words.{spaced}
use Rattle.net_model.specs.RouterNames.{names_of}
use Rattle.step_scripts.specs.WavesTexts.{names_at}
use Rattle.step_scripts.proofs.waves_writing.named_line.Given as goal

abbrev pub invariant-loop-router : goal.invariant-loop-router
invariant-loop-router l = l.line ≡ l.word ++ spaced (names_at (names_of l.net) (take l.router-index l.routers))
