use Rattle.std.proofs.Common.{◌<◌, [], ◌++◌, List, Option, length, take, sym, ap, ◌∙◌, append_assoc}
use Rattle.std.specs.Prelude.{filter_map}
use Rattle.std.specs.List.{cons_option}
use Rattle.ios_sections.specs.Processes.{mention_said}
use Rattle.ios_lines.specs.declared.interface_line.InterfaceStatement.{InterfaceStatement}
use Rattle.ios_sections.specs.declared.process.Mention.{Mention}
use Rattle.ios_lines.proofs.LineLookups.{filter_more}
use Rattle.ios_sections.proofs.process.add_mentions.Goals as goal

abbrev said : InterfaceStatement → Option Mention
said t = mention_said t.line t.says

pub loop-statement-preserved : goal.loop-statement-preserved
loop-statement-preserved c =
    let within : c.loop-statement.statement-index < length c.counting-statement-items.result.now = c.loop-statement-test.true in
    c.in_ok-push_mention.ensures
    ∙ ap (λ (w : List Mention). w ++ cons_option c.mention_said.result []) c.loop-statement.invariant
    ∙ append_assoc c.args.mentions.now.items (filter_map said (take c.loop-statement.statement-index c.counting-statement-items.result.now))
    (cons_option c.mention_said.result [])
    ∙ ap (λ (o : Option Mention). c.args.mentions.now.items ++ (filter_map said (take c.loop-statement.statement-index c.counting-statement-items.result.now)
    ++ cons_option o [])) c.mention_said.ensures
    ∙ ap (λ (w : List Mention). c.args.mentions.now.items ++ w) (sym (filter_more said c.counting-statement-items.result.now c.loop-statement.statement-index
    c.statement-item.result within c.statement-item.is))
