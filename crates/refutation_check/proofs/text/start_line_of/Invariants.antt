use Rattle.std.proofs.Common.{◌≡◌, ◌++◌, codes, take}
use Rattle.net_model.specs.RouterNames.{names_of}
use Rattle.printed_lines.specs.Words.{spaced}
use Rattle.refutation_check.specs.StartLines.{done_words}
use Rattle.refutation_check.proofs.text.start_line_of.Given as goal

abbrev pub invariant-loop-router : goal.invariant-loop-router
invariant-loop-router l = l.line ≡ codes "start" ++ spaced (done_words (names_of l.net) (take l.router l.start))
