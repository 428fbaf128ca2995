use Rattle.std.proofs.Common.{take}
use Rattle.isis_writer.specs.ReadTexts.{ReadsTexts}
use Rattle.migrate_cli.proofs.configurations.read_all.Given as goal

-- the configurations of the first texts
abbrev pub invariant-loop-i : goal.invariant-loop-i
invariant-loop-i l = ReadsTexts (take l.i l.texts) l.all.items
