use Rattle.std.proofs.Common.{arith}
use Rattle.std.proofs.lemmas.Grind.{common_steps}
use Rattle.refutation_check.proofs.EntryFacts.{entries_few, entries_inside, stand_behind}
use Rattle.refutation_check.proofs.judge.entries_of.Goals as goal

pub returns-then-is_text-clause-behind : goal.returns-then-is_text-clause-behind
returns-then-is_text-clause-behind c = grind (arith, common_steps, stand_behind)

pub returns-then-is_text-clause-inside : goal.returns-then-is_text-clause-inside
returns-then-is_text-clause-inside c =
    entries_inside c.args.text.now c.args.lines.now c.in_ok-first.entries.now c.in_ok-first.first.now c.requires.inside c.in_ok-first.ensures.cases.0

pub returns-then-is_text-clause-few : goal.returns-then-is_text-clause-few
returns-then-is_text-clause-few c =
    entries_few c.args.text.now c.args.lines.now c.in_ok-first.entries.now c.in_ok-first.first.now c.requires.short c.requires.exact
    c.in_ok-first.ensures.cases.0
