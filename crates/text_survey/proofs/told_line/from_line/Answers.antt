use Rattle.std.proofs.Common.{◌-◌, ℕ, length, take, drop, ap, ◌∙◌}
use Rattle.std.proofs.lemmas.List.{take_rest}
use Rattle.text_survey.proofs.ToldFacts.{from_count}
use Rattle.text_survey.proofs.told_line.from_line.Goals as goal

pub returns : goal.returns
returns c =
    ap (λ (n : ℕ). take (length c.args.lines.now - n) (drop n c.args.lines.now)) c.lower_count.ensures.value
    ∙ take_rest c.args.lines.now _ ∙ from_count c.args.lines.now c.args.number
