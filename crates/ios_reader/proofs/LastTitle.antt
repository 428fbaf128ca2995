-- The title of the last `net` line, one more line at a time.
use Rattle.std.proofs.lemmas.Grind.{common_steps}
use Rattle.std.proofs.Common.{◌≡◌, List, [], ◌∷◌, ◌++◌, Option, arith}
use Rattle.ios_lines.specs.declared.isis_line.IsisStatement.{IsisStatement}
use Rattle.ios_lines.specs.Lookups.{later}
use Rattle.ios_reader.specs.Routers.{title_said}
use Rattle.ios_reader.specs.Configurations.{title_given, title_by}
use Rattle.ios_reader.specs.steps.ProcessFacts.{title_after}
use Rattle.ios_lines.specs.declared.title.Title.{Title}
use Rattle.ios_lines.specs.declared.isis_line.IsisLine.{IsisLine}
use Rattle.ios_lines.proofs.LineLookups.{last_of-push}

title_cases : (before : Option (Option Title)) (says : IsisLine) → title_given (later before (title_said says)) ≡ title_after (title_given before) says
title_cases before says = grind arith

-- the title of the last `net` line, with one more line
pub title_push : (xs : List IsisStatement) (x : IsisStatement) → title_by (xs ++ x ∷ []) ≡ title_after (title_by xs) x.says
title_push xs x = grind (arith, common_steps, last_of-push, title_cases)
