-- Vertices that are stale, since their distance fell after their arcs were relaxed.
use Rattle.std.proofs.lemmas.Grind.{common_steps}
use Rattle.std.proofs.Common.{◌≡◌, ◌≢◌, ℕ, ◌+◌, ◌<◌, ◌≤◌, zero, suc, Bool, true, false, cond, IsTrue, ◌↔◌, List, [], ◌∷◌, Option, Some, None, length}
use Rattle.std.proofs.Common.{length-set, get_or, set, get_or-set_same, get_or-set_other, refl, sym, subst, ◌∙◌, arith, inl, inr}
use Rattle.std.proofs.lemmas.Bool.{cases_eq}
use Rattle.walk_core.specs.declared.segment.Port.{Port}
use Rattle.walk_core.specs.Distances.{distance_at}
use Rattle.walk_core.specs.steps.Flooding.{segment_at, AreAllAtMost, AreEntered, AreSettled, Lowers, Marked, stale_count}
use Rattle.walk_core.specs.steps.Relaxing.{IsAtMost, IsTightFrom, weight_of}
use Rattle.walk_core.specs.Segments.{Sends}
use Rattle.walk_core.proofs.RelaxLaws.{total_weight_falls}

-- a mark more
one_mark_more : (stale : List Bool) (v : ℕ) → stale_count (set stale v true) ≤ 1 + stale_count stale
one_mark_more [] v = omega arith
one_mark_more (true ∷ stale) zero = omega arith
one_mark_more (false ∷ stale) zero = omega arith
one_mark_more (true ∷ stale) (suc v) = omega (arith, one_mark_more stale v)
one_mark_more (false ∷ stale) (suc v) = one_mark_more stale v

-- a mark less
pub one_mark_less : (stale : List Bool) (v : ℕ) → get_or stale v false ≡ true → stale_count (set stale v false) + 1 ≡ stale_count stale
one_mark_less [] v is = absurd (let k : false ≡ true = is in cc)
one_mark_less (true ∷ stale) zero is = omega arith
one_mark_less (false ∷ stale) zero is = absurd (let k : false ≡ true = is in cc)
one_mark_less (true ∷ stale) (suc v) is = omega (arith, one_mark_less stale v is)
one_mark_less (false ∷ stale) (suc v) is = one_mark_less stale v is

-- marks stay when another comes
mark_kept : (stale : List Bool) (v w : ℕ) → get_or stale w false ≡ true → get_or (set stale v true) w false ≡ true
mark_kept [] v w is = is
mark_kept (b ∷ stale) zero zero is = refl
mark_kept (b ∷ stale) zero (suc w) is = is
mark_kept (b ∷ stale) (suc v) zero is = is
mark_kept (b ∷ stale) (suc v) (suc w) is = mark_kept stale v w is

-- what doesn't lower any distance
pub lowers_none : (found : ℕ) (here : Marked) → Lowers found here here
lowers_none found here = record { near = λ v d is below. is; marks = λ v unmarked. (unmarked, refl); kept = λ v is. is; left = omega arith }

-- lowering goes on, to no less
pub lowers_on : (near found : ℕ) (before now after : Marked) → near ≤ found → Lowers near before now → Lowers found now after → Lowers near before after
lowers_on near found before now after less one other = record {
  near = λ v d is below. other.near v d (one.near v d is below) (omega (arith, below, less));
  marks = λ v unmarked.
      let later = other.marks v unmarked in
      let earlier = one.marks v later.0 in (earlier.0, later.1 ∙ earlier.1);
  kept = λ v is. other.kept v (one.kept v is);
  left = omega (arith, one.left, other.left);
}

-- one vertex is lowered, and marked
pub lowers_one : (found v : ℕ) (ds after : List (Option ℕ)) (stale new : List Bool) (fell : Bool) → v < length ds → v < length stale →
    (IsTrue fell ↔ (found < weight_of (distance_at ds v))) → after ≡ cond fell (set ds v (Some found)) ds → new ≡ cond fell (set stale v true) stale →
    Lowers found (record { distances = ds; stale = stale }) (record { distances = after; stale = new })
lowers_one found v ds after stale new false in_range marked falls after_is new_is =
    subst (λ (l : List (Option ℕ)). Lowers found (record { distances = ds; stale = stale }) (record { distances = l; stale = new })) (sym after_is)
    (subst (λ (l : List Bool). Lowers found (record { distances = ds; stale = stale }) (record { distances = ds; stale = l })) (sym new_is)
    (lowers_none found (record { distances = ds; stale = stale })))
lowers_one found v ds after stale new true in_range marked falls after_is new_is =
    let lower : found < weight_of (distance_at ds v) = falls.0 refl in
    subst (λ (l : List (Option ℕ)). Lowers found (record { distances = ds; stale = stale }) (record { distances = l; stale = new })) (sym after_is)
    (subst (λ (l : List Bool). Lowers found (record { distances = ds; stale = stale }) (record { distances = set ds v (Some found); stale = l })) (sym new_is)
    (record {
      near = λ w d is below.
          let apart : w ≢ v = λ same.
          let at_v : distance_at ds v ≡ Some d = rw same at is in
          let less : found < d = rw at_v at lower in
          omega (arith, less, below) in
          get_or-set_other ds v w (Some found) None apart ∙ is;
      marks = λ w unmarked.
          let apart : w ≢ v = λ same.
          let no : get_or (set stale v true) v true ≡ false = rw same at unmarked in
          let yes : get_or (set stale v true) v true ≡ true = get_or-set_same stale v true true marked in
          let k : true ≡ false = sym yes ∙ no in
          cc in
          (sym (get_or-set_other stale v w true true apart) ∙ unmarked, get_or-set_other ds v w (Some found) None apart);
      kept = λ w is. mark_kept stale v w is;
      left = omega (arith, one_mark_more stale v, total_weight_falls ds v found in_range lower);
    }))

-- a vertex that isn't marked is as settled as it was
pub settled_on : (segments : List (List Port)) (found : ℕ) (before after : Marked) → AreSettled segments before.distances before.stale →
    Lowers found before after → ((v most : ℕ) → IsAtMost (distance_at before.distances v) most → IsAtMost (distance_at after.distances v) most) →
    length after.stale ≡ length after.distances → AreSettled segments after.distances after.stale
settled_on segments found before after settled lowers lower long = grind (arith, common_steps)

-- distances that fell are no more than what segments were entered at
pub entered_on : (segments : List (List Port)) (before after entries : List (Option ℕ)) → AreEntered segments before entries →
    ((v most : ℕ) → IsAtMost (distance_at before v) most → IsAtMost (distance_at after v) most) → AreEntered segments after entries
entered_on segments before after entries entered lower = grind (arith, common_steps)

-- a segment is entered
pub entered_at : (segments : List (List Port)) (place found : ℕ) (before after entries : List (Option ℕ)) → place < length segments →
    AreEntered segments before entries → ((v most : ℕ) → IsAtMost (distance_at before v) most → IsAtMost (distance_at after v) most) →
    AreAllAtMost after (segment_at segments place) found → AreEntered segments after (set entries place (Some found))
entered_at segments place found before after entries within entered lower all = record {
  long = length-set entries place (Some found) ∙ entered.long;
  each = λ i most is. elim (cases_eq i place) [
    | inl same ↦
        let now : distance_at (set entries place (Some found)) i ≡ Some found =
        rw same (get_or-set_same entries place (Some found) None (omega (arith, within, entered.long))) in
        let k : Some found ≡ Some most = sym now ∙ is in
        let most_is : found ≡ most = cc in
        subst (λ (n : ℕ). AreAllAtMost after (segment_at segments i) n) most_is (rw same all)
    | inr other ↦ (entered_on segments before after entries entered lower).each i most (sym (get_or-set_other entries place i (Some found) None other) ∙ is)
  ];
}

-- a vertex whose arcs were relaxed needs no mark
pub settled_there : (segments : List (List Port)) (u : ℕ) (distances : List (Option ℕ)) (stale : List Bool) → AreSettled segments distances stale →
    IsTightFrom (Sends segments) u distances → AreSettled segments distances (set stale u false)
settled_there segments u distances stale settled here = grind (arith, common_steps, cases_eq)

-- where no arc from another vertex undercuts a distance, the root's mark is enough
pub settled_begun : (segments : List (List Port)) (root : ℕ) (distances : List (Option ℕ)) (stale : List Bool) → root < length stale →
    length stale ≡ length distances → ((u : ℕ) → u ≢ root → IsTightFrom (Sends segments) u distances) →
    AreSettled segments distances (set stale root true)
settled_begun segments root distances stale below long tight = record {
  long = length-set stale root true ∙ long;
  tight = λ u unmarked. tight u (λ same.
      let no : get_or (set stale root true) root true ≡ false = rw same at unmarked in
      let k : true ≡ false = sym (get_or-set_same stale root true true below) ∙ no in
      cc);
}
