use Rattle.std.proofs.Common.{Bool, List, ap, ◌∙◌}
use Rattle.ios_lines.specs.Words.{Word}
use Rattle.ios_reader.specs.steps.Passives.{said_of}
use Rattle.ios_reader.proofs.PassiveFacts.{table_lookup}
use Rattle.ios_reader.proofs.passive.PassiveNames.get.Goals as goal

pub returns-in-Some : goal.returns-in-Some
returns-in-Some c =
    c.in-Some.ensures.value
    ∙ table_lookup (λ k. k.now) c.self.inside.by_name.entries c.args.name.now
    ∙ ap (λ (w : List (Word × Bool)). said_of w c.args.name.now) c.self.view_is

pub returns-in-None : goal.returns-in-None
returns-in-None c =
    c.in-None.ensures.value
    ∙ table_lookup (λ k. k.now) c.self.inside.by_name.entries c.args.name.now
    ∙ ap (λ (w : List (Word × Bool)). said_of w c.args.name.now) c.self.view_is
