use Rattle.std.proofs.Common.{◌+◌, ◌∷◌, ◌++◌, [], ℕ, List, All, get_or, sym, subst, take}
use Rattle.std.proofs.lemmas.List.{take_all, take_more}
use Rattle.std.proofs.lemmas.List.Elements.{All-contains, All-push, All-weaker, Contains-push}
use Rattle.net_model.specs.declared.zone.Zone.{Zone}
use Rattle.net_model.specs.declared.zone.Zone.TheVariants.{Area}
use Rattle.zone_graph.specs.KnownWalks.{IsKnownZone, KnowsZone}
use Rattle.zone_graph.specs.declared.known_walks.KnownZone.{KnownZone}
use Rattle.zone_graph.proofs.KnownFacts.{knows_more}
use Rattle.zone_graph.proofs.known_walks.KnownWalks.of_zones.Goals as goal

pub loop-zone-preserved : goal.loop-zone-preserved
loop-zone-preserved c =
    let net = c.args.net.now in
    let zones : List Zone = c.args.zones.now in
    let i : ℕ = c.loop-zone.zone-index in
    let known : List KnownZone = c.loop-zone.known.items in
    let kept : KnownZone = c.in_ok-known_zone.field-0 in
    let zone : Zone = get_or zones i (Area 0) in
    subst (λ (l : List KnownZone). All IsKnownZone l × All (KnowsZone net l) (take (i + 1) zones)) (sym c.in_ok-push.ensures.items) (
      All-push IsKnownZone known kept c.loop-zone.invariant.0 c.in_ok-known_zone.ensures.known,
      subst (λ (l : List Zone). All (KnowsZone net (known ++ kept ∷ [])) l) (sym (take_more zones i (Area 0) c.loop-zone-test.true))
          (All-push (KnowsZone net (known ++ kept ∷ [])) (take i zones) zone
          (All-weaker (KnowsZone net known) (KnowsZone net (known ++ kept ∷ []))
          (λ other knows. knows_more net known kept other knows) (take i zones) c.loop-zone.invariant.1)
          (record { kept = kept; among = Contains-push known kept; segments = c.in_ok-known_zone.ensures.segments })),
    )

pub returns : goal.returns
returns c =
    λ zone among.
    let net = c.args.net.now in
    let known : List KnownZone = c.loop-zone.known.items in
    All-contains (KnowsZone net known) c.args.zones.now zone
    (subst (λ (l : List Zone). All (KnowsZone net known) l)
    (take_all c.loop-zone.zone-index c.args.zones.now c.loop-zone-test.false) c.loop-zone.invariant.1) among
