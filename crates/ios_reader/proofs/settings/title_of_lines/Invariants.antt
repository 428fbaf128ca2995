use Rattle.std.proofs.Common.{◌≡◌}
use Rattle.ios_reader.specs.Configurations.{title_by}
use Rattle.ios_reader.proofs.settings.title_of_lines.Given as goal

abbrev pub invariant-loop-statement : goal.invariant-loop-statement
invariant-loop-statement l = l.title ≡ title_by l.yielded
