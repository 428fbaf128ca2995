use Rattle.std.proofs.Common.{subst, sym}
use Rattle.std.proofs.lemmas.Bool.{false≢true}
use Rattle.net_addr.specs.Addresses.{Block}
use Rattle.ospf_routes.specs.declared.areas.TheConstants.{BACKBONE}
use Rattle.ospf_routes.specs.steps.Heard.{AreHeardAt}
use Rattle.ospf_routes.specs.steps.Networks.{OspfNetwork}
use Rattle.ospf_routes.proofs.protocol.Ospf.border_decision.Goals as goal

pub listened_decision-requires-clause-heard : goal.listened_decision-requires-clause-heard
listened_decision-requires-clause-heard c =
    let p : Block = c.destination-destination.result.now.dest in
    subst (λ (ospf : OspfNetwork). AreHeardAt ospf.domain p BACKBONE c.heard.result.now) (sym c.self.view_is)
    (subst (λ (q : Block). AreHeardAt c.args.self.now.domain q BACKBONE c.heard.result.now)
    (sym c.destination-destination.ensures.dest) c.heard.ensures)

pub listened_decision-requires-clause-no_range : goal.listened_decision-requires-clause-no_range
listened_decision-requires-clause-no_range c = λ u active.
    false≢true (c.if-has.ensures.1 (c.self.invariant.ranged c.destination-destination.result.now.dest u active))
