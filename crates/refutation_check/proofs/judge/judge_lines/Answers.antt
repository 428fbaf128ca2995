use Rattle.std.proofs.lemmas.Grind.{common_steps}
use Rattle.std.proofs.Common.{arith}
use Rattle.std.proofs.lemmas.List.{length-map}
use Rattle.std.proofs.lemmas.Result.{MatchResult-at_ok, MatchResult-at_err}
use Rattle.refutation_check.proofs.ReadingFacts.{end_is, read_none, wrong_from}
use Rattle.refutation_check.proofs.judge.judge_lines.Goals as goal

pub read_lines-requires-clause-start : goal.read_lines-requires-clause-start
read_lines-requires-clause-start g c = grind (arith, common_steps, read_none)

pub returns-in-Ok : goal.returns-in-Ok
returns-in-Ok g c = grind (arith, common_steps, MatchResult-at_ok, end_is, length-map)

pub returns-in-Err : goal.returns-in-Err
returns-in-Err g c = grind (arith, common_steps, MatchResult-at_err, wrong_from)
