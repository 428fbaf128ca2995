use Rattle.std.proofs.Common.{◌+◌, ℕ, List, Option, length, subst, sym}
use Rattle.net_addr.specs.Addresses.{Block}
use Rattle.igp_theory.specs.Ospf.{OspfEntry}
use Rattle.route_tables.specs.Entries.{AreAlikePrefixes}
use Rattle.ospf_routes.specs.steps.Destinations.{ospf_prefixes}
use Rattle.ospf_routes.specs.steps.Twins.{AreEarlierBy}
use Rattle.ospf_routes.specs.declared.intra_area.Destination.{Destination}
use Rattle.ospf_routes.proofs.TwinFacts.{earlier_more, twin_found}
use Rattle.ospf_routes.proofs.twins.all_twins.Goals as goal

pub loop-place-preserved : goal.loop-place-preserved
loop-place-preserved c =
    let net = c.args.domain.now.net in
    let ds : List Destination = c.args.destinations.now in
    let place : ℕ = c.loop-place.place in
    let alike : Block → Block → Type 0 = AreAlikePrefixes (length net) (OspfEntry net) in
    record {
      twins = subst (λ (l : List (Option ℕ)). AreEarlierBy alike (ospf_prefixes ds) (place + 1) l) (sym {A = List (Option ℕ)} c.in_ok-push.ensures.items)
          (earlier_more alike (ospf_prefixes ds) place c.loop-place.twins.items c.twin_of.result c.loop-place.invariant.twins
          (twin_found c.args.domain.now ds c.args.ranged.now c.args.summaries.now place c.twin_of.result c.routers.ensures.known c.requires.destinations
          c.requires.ranged c.requires.summaries c.loop-place-test.true c.twin_of.ensures.below c.twin_of.ensures.twins));
      latest = c.twin_of.ensures.latest;
    }
