use Rattle.std.proofs.Common.{◌≡◌, take}
use Rattle.ios_reader.specs.steps.ProcessFacts.{isis_facts_of}
use Rattle.ios_reader.proofs.router.isis_facts_of.Given as goal

abbrev pub invariant-loop-statement : goal.invariant-loop-statement
invariant-loop-statement l = l.facts ≡ isis_facts_of (take l.statement-index l.lines)
