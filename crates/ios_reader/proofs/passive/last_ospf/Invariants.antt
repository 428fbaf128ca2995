use Rattle.std.proofs.Common.{◌≡◌, take}
use Rattle.ios_lines.specs.Lookups.{last_of}
use Rattle.ios_reader.specs.Routers.{ospf_passive_said}
use Rattle.ios_lines.specs.declared.ospf_line.OspfStatement.{OspfStatement}
use Rattle.ios_reader.proofs.passive.last_ospf.Given as goal

abbrev pub invariant-loop-statement : goal.invariant-loop-statement
invariant-loop-statement l = l.last ≡ last_of (λ (s : OspfStatement). ospf_passive_said l.name s.says) (take l.statement-index l.lines)
