use Rattle.std.proofs.Common.{◌≡◌, ◌<◌, [], ℕ, Some, length, refl, sym, ap, subst}
use Rattle.std.proofs.lemmas.Bool.{false≢true}
use Rattle.std.proofs.lemmas.Option.{same_Some}
use Rattle.igp_theory.specs.Ospf.{BorderCost}
use Rattle.walk_core.specs.declared.offers.Offer.{Offer}
use Rattle.ospf_routes.specs.steps.Summarized.{IsPassedOn}
use Rattle.ospf_routes.specs.steps.Ranges.{AreActiveRanges}
use Rattle.ospf_routes.proofs.PlaceFacts.{place_read}
use Rattle.ospf_routes.proofs.backbone_routes.reached_offer.Goals as goal

pub bounds-ranges-b : goal.bounds-ranges-b
bounds-ranges-b c = subst (λ (n : ℕ). c.args.b < n) (sym c.requires.ranges.count) c.requires.router

pub border_cost-requires-clause-ranges : goal.border_cost-requires-clause-ranges
border_cost-requires-clause-ranges c =
    let net = c.args.boundary.domain.now.net in
    place_read (AreActiveRanges net) [] (length net) c.args.boundary.ranges.now c.args.b c.index-ranges-b.result c.requires.ranges
    c.requires.router c.index-ranges-b.is

pub returns : goal.returns
returns c o =
    let net = c.args.boundary.domain.now.net in
    let p = c.args.leaving.destination.now.dest in
    let one : Offer = record { at = c.args.b; asks = c.in_ok-asks.asks } in (
      λ same. subst (λ (x : Offer). (x.at ≡ c.args.b) × IsPassedOn net c.args.area p x) (same_Some one o same) (
        refl,
        record {
          inside = c.requires.border.inside;
          allowed = λ stubby. false≢true (c.if-is_totally_stubby.ensures.1 stubby);
          costs = (c.in_ok-asks.ensures c.in_ok-asks.asks).0 refl;
        },
      ),
      λ both.
          let costs = subst (λ (b : ℕ). BorderCost net p b o.asks) both.0 both.1.costs in
          let asks = same_Some c.in_ok-asks.asks o.asks ((c.in_ok-asks.ensures o.asks).1 costs) in
          ap Some (λ i. record { at = (sym both.0) i; asks = asks i }),
    )
