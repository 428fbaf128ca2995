use Rattle.std.proofs.Common.{sym, ◌∙◌}
use Rattle.step_scripts.proofs.Reading.{entries_from}
use Rattle.step_scripts.proofs.waves_reading.entries_of.Goals as goal

pub returns-clause-some : goal.returns-clause-some
returns-clause-some c =
    entries_from c.args.text.now c.in_ok-version.version c.args.lines.now c.in_ok-first.entries.now c.in_ok-first.first.now c.requires.exact
    c.requires.inside c.requires.texts
    c.in_ok-first.ensures.cases.0 (sym c.bytes_at.ensures ∙ c.in_ok-version.ensures)
