use Rattle.std.proofs.lemmas.Grind.{common_steps}
use Rattle.std.proofs.Common.{ap, ◌<◌, IfSome, List, None, Option, arith, get_or, length, subst, sym, ℕ}
use Rattle.prefix_atoms.proofs.Pushed.{at_place}
use Rattle.rib_mix.specs.steps.Features.{AreLanesOf, HaveSameFeatures}
use Rattle.rib_mix.specs.declared.features.Features.{Features}
use Rattle.rib_mix.specs.steps.Likeness.{AreLike}
use Rattle.rib_mix.specs.steps.Sorts.{AreSorts}
use Rattle.rib_mix.proofs.FeatureLaws.{features_alike}
use Rattle.rib_mix.proofs.SortLaws.{sorts_along}
use Rattle.rib_mix.proofs.UpLaws.{parent_of}
use Rattle.rib_mix.proofs.mixed.sorts_of.Goals as goal

pub of_features-requires-clause-features : goal.of_features-requires-clause-features
of_features-requires-clause-features c = grind (arith, common_steps)

pub of_features-requires-clause-parents : goal.of_features-requires-clause-parents
of_features-requires-clause-parents c = λ i below.
    let p = at_place c.args.atoms.now.prefixes i
    (omega (arith, below, ap length c.parents.ensures.parents, c.parents.ensures.classing.nested.count)) in
    subst (λ (ps : List (Option ℕ)). IfSome (get_or ps i None) (λ j. j < i)) (sym c.parents.ensures.parents)
    (parent_of c.args.atoms.now i p.0 c.parents.ensures.classing p.1).before

pub returns-clause-homes : goal.returns-clause-homes
returns-clause-homes c = grind (arith, common_steps)

pub returns-clause-sorts : goal.returns-clause-sorts
returns-clause-sorts c =
    let features : Features = c.in_ok-features.features in
    let parents : List (Option ℕ) = c.args.atoms.now.parents in
    let like : List (List ℕ) → ℕ → ℕ → Type 0 =
    λ homes. AreLike (record { spots = c.args.spots.now; homes = homes }) c.args.tables.now in
    let lanes : AreLanesOf c.args.tables.now (length c.args.tables.now) features.lanes.now =
    subst (AreLanesOf c.args.tables.now (length c.args.tables.now)) (sym c.in_ok-features.ensures.lanes)
    c.in_ok-lanes.ensures in
    subst (λ (homes : List (List ℕ)). AreSorts (like homes) parents (length parents) c.in_ok-sorts.sorts) (sym c.into_homes.ensures)
    (subst (λ (ps : List (Option ℕ)). AreSorts (like features.homes.items) ps (length ps) c.in_ok-sorts.sorts)
    c.parents.ensures.parents
    (sorts_along (HaveSameFeatures features) (like features.homes.items) c.parents.result.now (length c.parents.result.now)
    c.in_ok-sorts.sorts
    (λ i j. features_alike c.args.tables.now features c.args.spots.now i j lanes c.in_ok-features.ensures.spots)
    c.in_ok-sorts.ensures))
