use Rattle.std.proofs.Common.{◌-◌, ℕ, length, take, drop, ap, ◌∙◌}
use Rattle.std.proofs.lemmas.List.{take_rest}
use Rattle.text_survey.proofs.oddities.behind_blanks.Goals as goal

pub returns : goal.returns
returns c =
    ap (λ (n : ℕ). take (length c.args.bytes.now - n) (drop n c.args.bytes.now)) c.blank_count.ensures.value
    ∙ take_rest c.args.bytes.now _
