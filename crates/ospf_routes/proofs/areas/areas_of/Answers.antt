use Rattle.std.proofs.Common.{◌+◌, ◌∷◌, ◌++◌, [], subst, List, sym, ℕ, take}
use Rattle.std.proofs.lemmas.List.{take_more}
use Rattle.net_model.specs.declared.zone.Zone.TheVariants.{Area}
use Rattle.walk_core.specs.declared.segment.Port.{Port}
use Rattle.zone_graph.specs.Segments.{AreZoneSegments}
use Rattle.ospf_routes.specs.steps.Areas.{AreJoinedAreas}
use Rattle.ospf_routes.specs.declared.areas.AreaWalks.{AreaWalks}
use Rattle.ospf_routes.proofs.AreaFacts.{areas_more}
use Rattle.ospf_routes.proofs.areas.areas_of.Goals as goal

pub loop-number-preserved : goal.loop-number-preserved
loop-number-preserved c =
    let net = c.args.net.now in
    let n : ℕ = c.loop-number.number-index in
    let numbers : List ℕ = c.args.numbers.now in
    let areas : List AreaWalks = c.loop-number.areas.items in
    let a : AreaWalks = c.in_ok-area_over.field-0 in
    let own : List (List Port) = c.in_ok-own.own.items in
    let all : List (List Port) = c.loop-number.segments.items ++ own in
    subst (AreJoinedAreas net (take (n + 1) numbers) c.push.new.self.items) (sym c.in_ok-append.ensures.items)
    (subst (λ (l : List AreaWalks). AreJoinedAreas net (take (n + 1) numbers) l all) (sym c.in_ok-push.ensures.items)
    (subst (λ (l : List ℕ). AreJoinedAreas net l (areas ++ a ∷ []) all) (sym (take_more numbers n 0 c.loop-number-test.true))
    (subst (λ (k : ℕ). AreJoinedAreas net (take n numbers ++ k ∷ []) (areas ++ a ∷ []) all) c.in_ok-area_over.ensures.number
    (areas_more net (take n numbers) areas a c.loop-number.segments.items own c.loop-number.invariant c.in_ok-area_over.ensures.area
    (subst (λ (k : ℕ). AreZoneSegments net (Area k) own) (sym c.in_ok-area_over.ensures.number) c.in_ok-own.ensures)))))
