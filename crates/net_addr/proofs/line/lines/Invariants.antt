use Rattle.std.proofs.Common.{◌≡◌, ◌+◌, ◌-◌, ◌≤◌, ◌++◌, length, drop}
use Rattle.net_addr.specs.Lines.{line_pieces, lines_of, text_lines}
use Rattle.net_addr.proofs.line.lines.Given as goal

abbrev pub invariant-loop-start : goal.invariant-loop-start
invariant-loop-start l = record {
  read : l.all.items ++ lines_of l.number l.start (line_pieces (drop l.start l.text)) ≡ text_lines l.text;
  counted : l.number ≤ l.start + 1;
}

abbrev pub decreases-loop-start : goal.decreases-loop-start
decreases-loop-start l = length l.text - l.start
