use Rattle.std.proofs.Common.{◌≡◌, take}
use Rattle.ios_reader.specs.steps.ProcessFacts.{ospf_facts_of}
use Rattle.ios_reader.proofs.router.ospf_facts_of.Given as goal

abbrev pub invariant-loop-statement : goal.invariant-loop-statement
invariant-loop-statement l = l.facts ≡ ospf_facts_of (take l.statement-index l.lines)
