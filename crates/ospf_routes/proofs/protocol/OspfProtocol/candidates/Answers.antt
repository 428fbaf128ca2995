use Rattle.std.proofs.Common.{ℕ, ◌<◌, length, Contains, subst}
use Rattle.net_addr.specs.Addresses.{Block}
use Rattle.route_core.specs.declared.entry.Entry.{Entry}
use Rattle.igp_theory.specs.Ospf.{OspfEntry}
use Rattle.ospf_routes.specs.steps.Destinations.{ospf_prefixes}
use Rattle.ospf_routes.specs.steps.Networks.{OspfNetwork}
use Rattle.ospf_routes.proofs.EntryFacts.{entry_is_candidate}
use Rattle.ospf_routes.proofs.protocol.OspfProtocol.candidates.Goals as goal

pub returns-clause-every : goal.returns-clause-every
returns-clause-every c =
    subst (λ (ospf : OspfNetwork). (u : ℕ) (p : Block) (e : Entry) → u < length ospf.domain.net → OspfEntry ospf.domain.net u p e →
    Contains (ospf_prefixes ospf.destinations) p) c.self.view_is
    (λ u p e below is. c.self.invariant.destinations.every p (entry_is_candidate c.self.inside.domain.net u p e is))
