use Rattle.std.proofs.Common.{◌≡◌, ℕ, nat_eq, take}
use Rattle.indexmap.specs.IndexMap.{get}
use Rattle.ios_lines.specs.Lookups.{last_of}
use Rattle.ios_reader.specs.Routers.{default_cost_said}
use Rattle.ios_lines.specs.declared.ospf_line.OspfStatement.{OspfStatement}
use Rattle.ios_reader.proofs.areas.default_costs.Given as goal

abbrev pub invariant-loop-statement : goal.invariant-loop-statement
invariant-loop-statement l = (area : ℕ) → get nat_eq l.costs area
    ≡ last_of (λ (s : OspfStatement). default_cost_said area s.says) (take l.statement-index l.lines)
