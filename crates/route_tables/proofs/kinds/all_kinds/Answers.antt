use Rattle.std.proofs.Common.{ℕ, List, ap, get_or, length, subst, sym, arith}
use Rattle.std.proofs.lemmas.List.{length_push}
use Rattle.net_addr.specs.Addresses.{Block}
use Rattle.route_tables.specs.Protocols.{ProtocolRoutes}
use Rattle.route_tables.specs.declared.kinds.LaneKinds.{LaneKinds}
use Rattle.route_tables.specs.steps.Kinds.{IsLane}
use Rattle.route_tables.proofs.ListFacts.{each_more}
use Rattle.route_tables.proofs.kinds.all_kinds.Goals as goal

pub loop-lane-preserved : goal.loop-lane-preserved
loop-lane-preserved g c =
    let routes : ProtocolRoutes = g.P.Protocol.routes c.args.protocol.now in
    let dests : List Block = g.P.Protocol.candidates c.args.protocol.now in
    let before : List LaneKinds = c.loop-lane.all.items in
    let next : LaneKinds = c.in_ok-kinds_in.field-0 in
    let is = c.loop-lane.invariant in
    record {
      count = let grown = ap length c.in_ok-push.ensures.items in
          let long = length_push before next in
          omega (arith, grown, long, is.count);
      each = λ lane own below. subst (λ (l : List LaneKinds). IsLane routes lane dests (get_or l lane own)) (sym c.in_ok-push.ensures.items)
          (each_more (λ (i : ℕ). IsLane routes i dests) before c.loop-lane.lane next own is.count (λ i within. is.each i own within)
          c.in_ok-kinds_in.ensures lane below);
    }
