use Rattle.std.proofs.Common.{◌+◌, ◌<◌, ℕ, List, ap, get_or, length, subst, sym, arith}
use Rattle.std.proofs.lemmas.List.{get_or_default, length_push}
use Rattle.net_addr.specs.Addresses.{Block}
use Rattle.route_tables.specs.Lanes.{DecidesBehind}
use Rattle.route_tables.specs.Prefixes.{prefix_at}
use Rattle.route_tables.specs.Protocols.{ProtocolRoutes}
use Rattle.route_tables.specs.declared.lane.Behind.{Behind}
use Rattle.route_tables.specs.steps.Kinds.{first_prefix_of, open_behind}
use Rattle.route_tables.proofs.ListFacts.{each_more}
use Rattle.route_tables.proofs.kinds.behind_at.Goals as goal

pub loop-place-preserved : goal.loop-place-preserved
loop-place-preserved g c =
    let routes : ProtocolRoutes = g.P.Protocol.routes c.args.protocol.now in
    let dests : List Block = g.P.Protocol.candidates c.args.protocol.now in
    let places : List ℕ = c.args.places.now in
    let i : ℕ = c.loop-place.place-index in
    let before : List Behind = c.loop-place.decisions.items in
    let next : Behind = c.behind.result in
    let decides : Block → Behind → Type 0 = DecidesBehind routes c.args.lane c.args.zone in
    let within : i < length places = c.loop-place-test.true in
    record {
      count = let grown = ap length c.in_ok-push.ensures.items in
          let long = length_push before next in
          omega (arith, grown, long, c.loop-place.invariant.count);
      each = subst (λ (l : List Behind). (kind : ℕ) → kind < i + 1 → decides (first_prefix_of dests places kind) (get_or l kind open_behind))
          (sym c.in_ok-push.ensures.items)
          (each_more (λ (kind : ℕ). decides (first_prefix_of dests places kind)) before i next open_behind c.loop-place.invariant.count
          c.loop-place.invariant.each
          (subst (λ (place : ℕ). decides (prefix_at dests place) next) (get_or_default places i _ 0 within) c.behind.ensures));
    }
