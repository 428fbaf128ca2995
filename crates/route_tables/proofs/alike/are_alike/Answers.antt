use Rattle.std.proofs.lemmas.Grind.{common_steps}
use Rattle.std.proofs.Common.{◌≡◌, ℕ, ◌+◌, ◌-◌, ◌≤◌, ◌↔◌, List, [], ◌∷◌, map, inl, inr, refl, sym, ap, subst, ◌∙◌, arith}
use Rattle.walk_core.specs.declared.offers.Offer.{Offer}
use Rattle.route_tables.specs.AlikeOffers.{AreAlikeOffers, AreDearerBy, dearer_by}
use Rattle.route_tables.specs.steps.Alike.{first_asks}
use Rattle.route_tables.proofs.AlikeRoutes.{dearer_by_nothing}
use Rattle.route_tables.proofs.ListFacts.{iff_then}
use Rattle.route_tables.proofs.alike.are_alike.Goals as goal

-- the second list is dearer by what its first offer asks more
dearer_by_first : (more : ℕ) (one other : List Offer) → AreDearerBy more one other → AreDearerBy (first_asks other - first_asks one) one other
dearer_by_first more one other up = grind (arith, common_steps)

-- and where the first list is the dearer one, though its first offer asks no more, both are the same
no_dearer : (more : ℕ) (one other : List Offer) → AreDearerBy more other one → first_asks one ≤ first_asks other →
    AreDearerBy (first_asks other - first_asks one) one other
no_dearer more one [] down low = subst (λ (l : List Offer). AreDearerBy (0 - first_asks l) l []) (sym down) refl
no_dearer more one (o ∷ other) down low =
    let first : first_asks one ≡ o.asks + more = ap first_asks down in
    let none : more ≡ 0 = omega arith in
    let nothing : 0 ≡ o.asks - first_asks one = omega arith in
    let same : one ≡ o ∷ other = down ∙ ap (λ (m : ℕ). map (dearer_by m) (o ∷ other)) none ∙ dearer_by_nothing (o ∷ other) in
    subst (λ (m : ℕ). AreDearerBy m one (o ∷ other)) nothing (sym same ∙ sym (dearer_by_nothing one))

dearer_where_alike : (one other : List Offer) → AreAlikeOffers one other → first_asks one ≤ first_asks other →
    AreDearerBy (first_asks other - first_asks one) one other
dearer_where_alike one other alike low = grind (arith, common_steps, dearer_by_first, no_dearer)

dearer_or_not : (one other : List Offer) (low high : ℕ) → low ≡ first_asks one → high ≡ first_asks other → low ≤ high →
    AreDearerBy (high - low) one other ↔ AreAlikeOffers one other
dearer_or_not one other low high low_is high_is below = grind (arith, common_steps, dearer_where_alike)

turned : {one other : List Offer} → AreAlikeOffers one other → AreAlikeOffers other one
turned alike = record { more = alike.more; dearer = elim alike.dearer [ inl up ↦ inr up | inr down ↦ inl down ] }

pub returns-then-low-high : goal.returns-then-low-high
returns-then-low-high c =
    iff_then c.are_dearer_by.ensures
    (dearer_or_not c.args.one.now c.args.other.now c.first_asks-low.result c.first_asks-high.result c.first_asks-low.ensures c.first_asks-high.ensures
    c.if-low-high.true)

pub returns-else-low-high : goal.returns-else-low-high
returns-else-low-high c = grind (arith, common_steps, dearer_or_not, iff_then, turned)
