use Rattle.std.proofs.Common.{◌<◌, ℕ, List, length, get_or, ap, subst, sym, arith}
use Rattle.walk_core.specs.Reach.{Reach}
use Rattle.net_addr.specs.Addresses.{Block}
use Rattle.route_tables.specs.Lanes.{DecidesAt, DecidesBeyond}
use Rattle.route_tables.specs.Protocols.{ProtocolRoutes}
use Rattle.route_tables.specs.declared.lane.Behind.{Behind}
use Rattle.route_tables.specs.declared.lane.Decision.{Decision}
use Rattle.route_tables.specs.declared.lane.Decision.TheVariants.{Unknown}
use Rattle.route_tables.specs.steps.Kinds.{first_prefix_of, open_behind}
use Rattle.route_tables.proofs.sharing.router_lane.Goals as goal

pub returns-clause-lane : goal.returns-clause-lane
returns-clause-lane g c =
    let routes : ProtocolRoutes = g.P.Protocol.routes c.args.protocol.now in
    let dests : List Block = g.P.Protocol.candidates c.args.protocol.now in
    let own = c.args.own.now in
    let zone : ℕ = routes.lane_zone c.args.lane in
    let firsts = c.as_slice-3.ensures.value in
    let behind = c.requires.behind in
    record {
      router = c.requires.router;
      count = c.routers.ensures.count;
      zone = zone;
      walks = c.zone_walks.ensures zone c.zone_of_lane.ensures.is;
      long = let one = ap length c.as_slice.ensures.value in
          let other = ap length firsts in
          omega (arith, one, other, c.requires.told.count);
      decides = λ kind below.
          let within : kind < length own.firsts.items = subst (λ (l : List ℕ). kind < length l) firsts below in
          subst (λ (l : List Decision). DecidesAt routes zone c.args.router (first_prefix_of dests c.as_slice-3.result.now kind) (get_or l kind Unknown))
          (sym c.as_slice.ensures.value)
          (subst (λ (l : List ℕ). DecidesAt routes zone c.args.router (first_prefix_of dests l kind) (get_or own.decisions.items kind Unknown)) (sym firsts)
          (c.requires.told.each kind within c.args.router c.requires.in_lane));
      zone_behind = c.requires.behind.zone;
      walks_behind = c.zone_walks-2.ensures behind.zone behind.zone_is;
      behind = λ kind below.
          let within : kind < length own.behind.decisions.items =
          subst (λ (l : List Behind). kind < length l) c.as_slice-2.ensures.value below in
          let reach : Reach = routes.reach c.args.router zone in
          subst (λ (l : List Behind). DecidesBeyond routes reach behind.zone c.args.router (first_prefix_of dests c.as_slice-3.result.now kind)
          (get_or l kind open_behind)) (sym c.as_slice-2.ensures.value)
          (subst (λ (l : List ℕ). DecidesBeyond routes reach behind.zone c.args.router (first_prefix_of dests l kind)
          (get_or own.behind.decisions.items kind open_behind)) (sym firsts)
          (behind.decided.each kind within c.args.router c.requires.in_lane));
    }
