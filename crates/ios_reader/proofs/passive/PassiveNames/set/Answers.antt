use Rattle.std.proofs.Common.{Bool, List, map, ap, ◌∙◌}
use Rattle.ios_lines.specs.Words.{Word}
use Rattle.ios_reader.specs.steps.Passives.{with_said}
use Rattle.ios_reader.proofs.PassiveFacts.{table_insert}
use Rattle.ios_reader.proofs.passive.PassiveNames.set.Goals as goal

pub returns : goal.returns
returns c =
    ap (map (λ e. (e.0.now, e.1))) c.in_ok-insert.ensures.entries
    ∙ table_insert (λ k. k.now) c.self.inside.by_name.entries c.args.name c.args.passive
    ∙ ap (λ (w : List (Word × Bool)). with_said w c.args.name.now c.args.passive) c.self.view_is
