use Rattle.std.proofs.Common.{◌≡◌, take}
use Rattle.ios_reader.specs.Routers.{stub_lines_in}
use Rattle.ios_reader.specs.steps.Tables.{values_in, AreKeyed, stub_key}
use Rattle.ios_reader.proofs.areas.stub_table.Given as goal

abbrev pub invariant-loop-statement : goal.invariant-loop-statement
invariant-loop-statement l = record {
  keyed : AreKeyed stub_key l.stubs.entries;
  values : values_in l.stubs.entries ≡ stub_lines_in (take l.statement-index l.lines);
}
