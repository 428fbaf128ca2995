use Rattle.std.proofs.Common.{◌≡◌, take}
use Rattle.ios_reader.specs.Routers.{ranges_in}
use Rattle.ios_reader.specs.steps.Tables.{values_in, AreKeyed, range_key}
use Rattle.ios_reader.proofs.areas.range_table.Given as goal

abbrev pub invariant-loop-statement : goal.invariant-loop-statement
invariant-loop-statement l = record {
  keyed : AreKeyed range_key l.ranges.entries;
  values : values_in l.ranges.entries ≡ ranges_in (take l.statement-index l.lines);
}
