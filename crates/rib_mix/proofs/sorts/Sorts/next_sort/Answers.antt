use Rattle.std.proofs.lemmas.Grind.{common_steps}
use Rattle.std.proofs.Common.{◌≡◌, ℕ, List, Option, None, get_or, length, arith, subst, sym}
use Rattle.rib_mix.specs.declared.sorts.Sorts.{Sorts}
use Rattle.rib_mix.specs.steps.Features.{HaveSameFeatures}
use Rattle.rib_mix.specs.steps.Sorts.{IsOfSort, sort_at}
use Rattle.rib_mix.proofs.FeatureLaws.{features_itself}
use Rattle.rib_mix.proofs.SortSteps.{sort_added}
use Rattle.rib_mix.proofs.sorts.Sorts.next_sort.Goals as goal

pub sort_at-parent-requires : goal.sort_at-parent-requires
sort_at-parent-requires c = grind (arith, common_steps)

-- the sort of the parent that was read is that of the parent at the place that comes next
parent_read : (of_places shown : List ℕ) (parents : List (Option ℕ)) (place : ℕ) (parent : Option ℕ) → shown ≡ of_places
    → length shown ≡ place
    → parent ≡ sort_at shown (get_or parents place None) → parent ≡ sort_at of_places (get_or parents (length of_places) None)
parent_read of_places shown parents place parent same long is = grind (arith, common_steps)

pub returns-in-Some : goal.returns-in-Some
returns-in-Some c = grind (arith, common_steps, parent_read)

pub returns-in_ok-add_sort-in-None : goal.returns-in_ok-add_sort-in-None
returns-in_ok-add_sort-in-None c =
    let sorts : Sorts = c.args.self.now in
    let long : length c.as_slice.result.now ≡ c.len-place.result = omega (arith, c.as_slice.ensures.len, c.len-place.ensures) in
    let added = sort_added (HaveSameFeatures c.args.features.now) c.args.parents.now sorts c.add_sort.new.self
    c.sort_at-parent.result
    (features_itself c.args.features.now) c.requires.next c.requires.parents c.requires.sorts
    (parent_read sorts.of_places.items c.as_slice.result.now c.args.parents.now c.len-place.result c.sort_at-parent.result
    c.as_slice.ensures.value long
    c.sort_at-parent.ensures) c.in_ok-add_sort-in-None.ensures.of_places c.in_ok-add_sort-in-None.ensures.firsts
    c.in_ok-add_sort-in-None.ensures.parents in
    record {
      is = subst (IsOfSort (HaveSameFeatures c.args.features.now) c.args.parents.now c.add_sort.new.self
          (length sorts.of_places.items))
          (sym c.in_ok-add_sort-in-None.ensures.sort) added.is;
      sorts = added.sorts;
    }
