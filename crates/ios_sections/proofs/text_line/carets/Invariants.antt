use Rattle.std.proofs.Common.{◌≡◌, ◌+◌, ◌≤◌, drop}
use Rattle.ios_sections.specs.TextLines.{carets}
use Rattle.ios_sections.proofs.text_line.carets.Given as goal

abbrev pub invariant-loop-i : goal.invariant-loop-i
invariant-loop-i l = record {
  counted : l.count + carets (drop l.i l.bytes) ≡ carets l.bytes;
  within : l.count ≤ l.i;
}
