use Rattle.ospf_routes.proofs.AreaFacts.{HaveNumbers}
use Rattle.ospf_routes.proofs.areas.area_numbers.Given as goal

abbrev pub invariant-loop-u : goal.invariant-loop-u
invariant-loop-u l = HaveNumbers l.net l.u l.numbers.items
