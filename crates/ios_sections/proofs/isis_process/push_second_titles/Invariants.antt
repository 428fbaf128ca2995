use Rattle.std.proofs.Common.{◌≡◌, ◌++◌, take}
use Rattle.std.specs.List.{list_any}
use Rattle.ios_sections.specs.ProcessFaults.{is_net, second_titles}
use Rattle.ios_sections.proofs.isis_process.push_second_titles.Given as goal

abbrev pub invariant-loop-statement : goal.invariant-loop-statement
invariant-loop-statement l = record {
  faults : l.faults.items ≡ l.initial.faults.items ++ second_titles (take l.statement-index l.lines);
  titled : l.titled ≡ list_any is_net (take l.statement-index l.lines);
}
