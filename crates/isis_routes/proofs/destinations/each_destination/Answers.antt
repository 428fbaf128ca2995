use Rattle.std.proofs.Common.{◌≡◌, ◌+◌, ℕ, List, All, take, refl, sym, subst}
use Rattle.std.proofs.lemmas.List.Elements.{All-push}
use Rattle.net_addr.specs.Addresses.{Block}
use Rattle.isis_routes.specs.steps.Destinations.{HasAnnouncements, isis_prefixes}
use Rattle.isis_routes.proofs.HomeFacts.{routers_are}
use Rattle.isis_routes.specs.declared.destinations.Destination.{Destination}
use Rattle.route_tables.proofs.DestinationLists.{one_more_prefix}
use Rattle.isis_routes.proofs.destinations.each_destination.Goals as goal

pub build-requires-clause-homes : goal.build-requires-clause-homes
build-requires-clause-homes c =
    routers_are c.args.domain.now.net c.dest-item.result c.args.homes.now c.args.homes.now c.in_ok-routers.routers.items c.requires.homes refl
    c.in_ok-routers.ensures

pub loop-dest-preserved : goal.loop-dest-preserved
loop-dest-preserved c =
    let net = c.args.domain.now.net in
    let d : Destination = c.in_ok-build.field-0 in
    let k : ℕ = c.loop-dest.dest-index in
    let dests : List Block = c.args.dests.now in
    let all : List Destination = c.loop-dest.all.items in
    record {
      dests = subst (λ (l : List Destination). isis_prefixes l ≡ take (k + 1) dests) (sym {A = List Destination} c.in_ok-push.ensures.items)
          (one_more_prefix (λ (x : Destination). x.one.dest)
          dests k all d c.dest-item.result c.loop-dest-test.true c.dest-item.is c.loop-dest.invariant.dests c.in_ok-build.ensures.dest);
      announced = subst (λ (l : List Destination). All (HasAnnouncements net) l) (sym {A = List Destination} c.in_ok-push.ensures.items)
          (All-push (HasAnnouncements net) all d c.loop-dest.invariant.announced c.in_ok-build.ensures.announced);
    }
