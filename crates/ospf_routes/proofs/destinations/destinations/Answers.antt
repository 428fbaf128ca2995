use Rattle.std.proofs.Common.{◌≡◌, ◌∙◌, All, Contains, subst, sym}
use Rattle.net_addr.specs.Addresses.{Block}
use Rattle.net_model.specs.Network.{Network}
use Rattle.ospf_routes.specs.Lists.{Exactly}
use Rattle.ospf_routes.specs.steps.Candidates.{IsOspfCandidate}
use Rattle.ospf_routes.specs.steps.Destinations.{IsDestinationIn, AreOspfDestinations, ospf_prefixes}
use Rattle.ospf_routes.specs.steps.Subnets.{IsUpSubnet}
use Rattle.route_tables.proofs.DestinationLists.{if_ok_both}
use Rattle.ospf_routes.proofs.DestinationFacts.{are_destinations}
use Rattle.ospf_routes.proofs.destinations.destinations.Goals as goal

pub candidates_of-requires : goal.candidates_of-requires
candidates_of-requires c =
    subst (λ (n : Network). Exactly (IsUpSubnet n) c.in_ok-subnets.subnets) (c.net.ensures.is ∙ sym c.net-2.ensures.is) c.in_ok-subnets.ensures

pub each_destination-requires : goal.each_destination-requires
each_destination-requires c =
    record {
      areas = c.net.ensures.known;
      subnets = subst (λ (n : Network). Exactly (IsUpSubnet n) c.in_ok-subnets.subnets) c.net.ensures.is c.in_ok-subnets.ensures;
    }

pub returns : goal.returns
returns c =
    let domain = c.args.domain.now in
    if_ok_both c.each_destination.result
    (λ all. ospf_prefixes all.items ≡ c.as_slice.result.now)
    (λ all. All (IsDestinationIn domain) all.items)
    (λ all. AreOspfDestinations domain all.items)
    (λ all same each. are_destinations domain all.items c.in_ok-dests.dests (same ∙ c.as_slice.ensures.value) each c.as_slice.ensures.distinct
    c.as_slice.ensures.ordered
    (subst (λ (n : Network). (p : Block) → IsOspfCandidate n p → Contains c.in_ok-dests.dests p) c.net-2.ensures.is c.in_ok-dests.ensures))
    c.each_destination.ensures.dests c.each_destination.ensures.each
