use Rattle.std.proofs.Common.{◌≡◌, take}
use Rattle.ios_reader.specs.InterfaceFacts.{facts_of}
use Rattle.ios_reader.proofs.facts.facts_of.Given as goal

abbrev pub invariant-loop-statement : goal.invariant-loop-statement
invariant-loop-statement l = l.facts ≡ facts_of (take l.statement-index l.lines)
