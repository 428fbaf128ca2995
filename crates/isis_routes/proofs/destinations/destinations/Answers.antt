use Rattle.std.proofs.Common.{◌≡◌, ◌∙◌, ℕ, List, All, length, sym, subst}
use Rattle.isis_routes.specs.steps.Destinations.{HasAnnouncements, AreIsisDestinations, isis_prefixes}
use Rattle.net_addr.specs.Addresses.{Block}
use Rattle.net_model.specs.Network.{Network}
use Rattle.std.specs.List.{Contains}
use Rattle.isis_routes.specs.steps.Candidates.{IsIsisCandidate}
use Rattle.isis_routes.specs.steps.Homes.{AreHomes}
use Rattle.isis_routes.specs.steps.Near.{AreAllNear}
use Rattle.route_tables.proofs.DestinationLists.{if_ok_both}
use Rattle.isis_routes.proofs.DestinationFacts.{are_destinations}
use Rattle.isis_routes.proofs.destinations.destinations.Goals as goal

pub each_destination-requires-clause-homes : goal.each_destination-requires-clause-homes
each_destination-requires-clause-homes c = subst (AreHomes c.args.domain.now.net) (sym c.as_slice-2.ensures.value) (subst (λ (net : Network). AreHomes
    net c.in_ok-homes.homes.items) c.net-network.ensures.is c.in_ok-homes.ensures.exact)

pub each_destination-requires-clause-near : goal.each_destination-requires-clause-near
each_destination-requires-clause-near c =
    let net = c.args.domain.now.net in
    subst (λ (l : List (List ℕ)). AreAllNear net (length net) l) (sym c.as_slice.ensures.value) c.in_ok-near.ensures

pub returns : goal.returns
returns c =
    let net = c.args.domain.now.net in
    if_ok_both c.each_destination.result
    (λ all. isis_prefixes all.items ≡ c.as_slice-3.result.now) (λ all. All (HasAnnouncements net) all.items) (λ all. AreIsisDestinations net all.items)
    (λ all same announced. are_destinations net all.items c.in_ok-dests.dests (same ∙ c.as_slice-3.ensures.value)
    announced c.as_slice-3.ensures.distinct
    (subst (λ (of : Network). (p : Block) → IsIsisCandidate of p → Contains c.in_ok-dests.dests p) c.net-network.ensures.is c.in_ok-dests.ensures))
    c.each_destination.ensures.dests c.each_destination.ensures.announced
