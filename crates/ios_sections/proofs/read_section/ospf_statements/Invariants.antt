use Rattle.std.proofs.Common.{◌≡◌, take, map, nat_eq, filter}
use Rattle.ios_sections.specs.Sections.{counted_from, ospf_statements}
use Rattle.ios_sections.proofs.read_section.ospf_statements.Given as goal

abbrev pub invariant-loop-line : goal.invariant-loop-line
invariant-loop-line l =
    l.statements.items
    ≡ ospf_statements (map (counted_from l.first) (filter (λ line. nat_eq line.indent l.indent) (take l.line-index l.lines)))
