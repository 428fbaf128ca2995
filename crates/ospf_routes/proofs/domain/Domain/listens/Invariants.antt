use Rattle.ospf_routes.specs.steps.Areas.{AreListeners}
use Rattle.ospf_routes.proofs.domain.Domain.listens.Given as goal

abbrev pub invariant-loop-u : goal.invariant-loop-u
invariant-loop-u l = AreListeners l.self.net l.self.areas l.u l.listens.items
