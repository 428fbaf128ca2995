use Rattle.std.proofs.Common.{◌≡◌, ◌+◌, ℕ, List, All, take, sym, subst}
use Rattle.std.proofs.lemmas.List.Elements.{All-push}
use Rattle.net_addr.specs.Addresses.{Block}
use Rattle.ospf_routes.specs.steps.Destinations.{IsDestinationIn, ospf_prefixes}
use Rattle.ospf_routes.specs.declared.intra_area.Destination.{Destination}
use Rattle.route_tables.proofs.DestinationLists.{one_more_prefix}
use Rattle.ospf_routes.proofs.destinations.each_destination.Goals as goal

pub loop-dest-preserved : goal.loop-dest-preserved
loop-dest-preserved c =
    let d : Destination = c.in_ok-build.field-0 in
    let k : ℕ = c.loop-dest.dest-index in
    let dests : List Block = c.args.dests.now in
    let all : List Destination = c.loop-dest.all.items in
    let Is : Destination → Type 0 = IsDestinationIn c.args.domain.now in
    record {
      dests = subst (λ (l : List Destination). ospf_prefixes l ≡ take (k + 1) dests) (sym c.in_ok-push.ensures.items)
          (one_more_prefix (λ (x : Destination). x.dest) dests k all d c.dest-item.result c.loop-dest-test.true c.dest-item.is c.loop-dest.invariant.dests
          c.in_ok-build.ensures.dest);
      each = subst (λ (l : List Destination). All Is l) (sym c.in_ok-push.ensures.items)
          (All-push Is all d c.loop-dest.invariant.each c.in_ok-build.ensures.is);
    }
