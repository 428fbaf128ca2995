use Rattle.std.proofs.Common.{◌<◌, ℕ, List, Option, length, subst, sym, arith}
use Rattle.net_addr.specs.Addresses.{Block}
use Rattle.net_model.specs.Network.{Network}
use Rattle.igp_theory.specs.Ospf.{OspfEntry}
use Rattle.route_tables.specs.Entries.{AreAlikeFor, AreAlikePrefixes}
use Rattle.ospf_routes.specs.steps.Destinations.{ospf_prefixes}
use Rattle.ospf_routes.specs.steps.Lanes.{IsOfOspfLane, LaneOf}
use Rattle.ospf_routes.specs.steps.Networks.{AreEarlierIn, OspfNetwork}
use Rattle.ospf_routes.specs.steps.Twins.{AreEarlierBy, AreTwins}
use Rattle.ospf_routes.proofs.LaneTwinFacts.{earlier_then, lane_earlier}
use Rattle.ospf_routes.proofs.protocol.Ospf.earlier.Goals as goal

pub returns-then-lane-zones : goal.returns-then-lane-zones
returns-then-lane-zones c =
    let own = c.self.inside in
    let lane : ℕ = c.args.lane in
    let dests : List Block = ospf_prefixes own.destinations.items in
    let l : LaneOf = record { domain = own.domain; listens = own.listens.items; zone = lane } in
    let within : lane < length own.domain.areas = omega (arith, c.zones.ensures.count) in
    subst (λ (ospf : OspfNetwork). AreEarlierIn ospf lane c.as_slice.result.now) c.self.view_is
    (subst (AreEarlierBy (AreAlikeFor (IsOfOspfLane l) (OspfEntry own.domain.net)) dests (length dests)) (sym c.as_slice.ensures)
    (lane_earlier own.domain own.destinations.items own.listens.items own.lane_twins.items lane c.index.result.now c.self.invariant.lane_twins within
    c.index.ensures))

pub returns : goal.returns
returns c =
    let own = c.self.inside in
    let net : Network = own.domain.net in
    let dests : List Block = ospf_prefixes own.destinations.items in
    let l : LaneOf = record { domain = own.domain; listens = own.listens.items; zone = c.args.lane } in
    subst (λ (ospf : OspfNetwork). AreEarlierIn ospf c.args.lane c.as_slice-2.result.now) c.self.view_is
    (earlier_then (AreAlikePrefixes (length net) (OspfEntry net)) (AreAlikeFor (IsOfOspfLane l) (OspfEntry net)) dests (length dests)
    c.as_slice-2.result.now (λ p q same u e is. same u e is.below)
    (subst (λ (l : List (Option ℕ)). AreTwins net dests l) (sym c.as_slice-2.ensures.value) c.self.invariant.twins))
