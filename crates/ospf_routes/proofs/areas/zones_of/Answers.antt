use Rattle.std.proofs.Common.{◌≡◌, ℕ, List, get_or, subst, sym}
use Rattle.std.proofs.lemmas.List.{get_or_default}
use Rattle.net_model.specs.declared.zone.Zone.{Zone}
use Rattle.net_model.specs.declared.zone.Zone.TheVariants.{Area}
use Rattle.ospf_routes.specs.Lists.{Adds}
use Rattle.route_tables.proofs.ListFacts.{adds_end, adds_more, adds_one, exactly_added}
use Rattle.ospf_routes.proofs.areas.zones_of.Goals as goal

pub loop-number-preserved : goal.loop-number-preserved
loop-number-preserved c =
    let numbers : List ℕ = c.args.numbers.now in
    let i : ℕ = c.loop-number.number-index in
    let n : ℕ = get_or numbers i 0 in
    let zones : List Zone = c.loop-number.zones.items in
    adds_more (λ (z : Zone) (k : ℕ). Area k ≡ z) c.new-zones.result.items zones c.push.new.self.items numbers i n c.loop-number-test.true
    (get_or_default numbers i 0 n c.loop-number-test.true) c.loop-number.invariant
    (subst (λ (l : List Zone). Adds zones l (λ (z : Zone). Area n ≡ z)) (sym c.in_ok-push.ensures.items) (adds_one zones (Area n)))

pub returns : goal.returns
returns c =
    exactly_added c.new-zones.result.items c.loop-number.zones.items _ c.new-zones.ensures.items
    (adds_end (λ (z : Zone) (k : ℕ). Area k ≡ z) c.new-zones.result.items c.loop-number.zones.items c.args.numbers.now c.loop-number.number-index
    c.loop-number-test.false c.loop-number.invariant)
