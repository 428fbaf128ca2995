use Rattle.std.proofs.Common.{◌≡◌, ◌++◌, take}
use Rattle.std.specs.Prelude.{filter_map}
use Rattle.ios_sections.specs.Processes.{mention_said}
use Rattle.ios_lines.specs.declared.interface_line.InterfaceStatement.{InterfaceStatement}
use Rattle.ios_sections.proofs.process.add_mentions.Given as goal

abbrev pub invariant-loop-statement : goal.invariant-loop-statement
invariant-loop-statement l =
    l.mentions.items ≡ l.initial.mentions.items ++ filter_map (λ (t : InterfaceStatement). mention_said t.line t.says)
    (take l.statement-index l.statement-items)
