use Rattle.std.proofs.Common.{◌≡◌, drop}
use Rattle.std.specs.Prelude.{find}
use Rattle.ios_reader.specs.steps.Networks.{takes}
use Rattle.ios_reader.proofs.networks.first_of_lines.Given as goal

abbrev pub invariant-loop-line : goal.invariant-loop-line
invariant-loop-line l = find (takes l.address) (drop l.line-index l.lines) ≡ find (takes l.address) l.lines
