-- Segments that went from a list, found in one run through it.
use Rattle.std.proofs.Common.{◌≡◌, ◌≢◌, ℕ, ◌+◌, ◌-◌, ◌<◌, ◌≤◌, ◌⊎◌, List, [], ◌∷◌, ◌++◌, length, drop, get_or, Contains, ap, refl, sym, subst}
use Rattle.std.proofs.Common.{◌∙◌, arith, inl, inr}
use Rattle.std.proofs.lemmas.List.Elements.{Contains-append_left, Contains-push, Contains-push_cases}
use Rattle.std.proofs.lemmas.List.{drop_all, drop_more, get_or_default, length-drop}
use borrow.Author.Count.{below_more}
use Rattle.walk_core.specs.declared.segment.Port.{Port}
use Rattle.walk_core.specs.steps.Flooding.{segment_at}
use Rattle.walk_core.specs.Segments.{IsLeftOf, goes, nothing, stays}
use Rattle.walk_core.specs.steps.Kept.{HasRun, LosesSegments}
use Rattle.walk_core.proofs.FloodLaws.{segment_among}

-- the segment at a place is one of the first n
abbrev IsBefore : List (List Port) → ℕ → List Port → Type 0
IsBefore before n segment = (i : ℕ) × (i < n) × (segment_at before i ≡ segment)

-- one more is one of the first n + 1
before_more : (before : List (List Port)) (n : ℕ) (segment : List Port) → IsBefore before n segment → IsBefore before (n + 1) segment
before_more before n segment is = (is.0, let less : is.0 < n = is.1 in omega (arith, less), is.2)

-- what is left of some segments where one of it goes too
left_less : (segment : List Port) (after before : List (List Port)) → IsLeftOf (segment ∷ after) before → IsLeftOf after before
left_less _ _ _ (stays segment after before left) = goes segment after before left
left_less segment after _ (goes other _ before left) = goes other after before (left_less segment after before left)

-- what is left behind a segment with which both begin
left_behind : (one other : List Port) (after before : List (List Port)) → one ≡ other → IsLeftOf (one ∷ after) (other ∷ before) →
    IsLeftOf after before
left_behind _ _ _ _ same (stays _ after before left) = left
left_behind one _ after _ same (goes _ _ before left) = left_less one after before left

-- what doesn't begin with the first of some segments is left of the others
left_past : (segment : List Port) (after before : List (List Port)) → ((rest : List (List Port)) → after ≢ segment ∷ rest) →
    IsLeftOf after (segment ∷ before) → IsLeftOf after before
left_past _ _ _ other (stays segment after before left) = absurd (other after refl)
left_past _ _ _ other (goes _ _ _ left) = left

-- of none nothing is left
left_of_none : (after : List (List Port)) → IsLeftOf after [] → after ≡ []
left_of_none _ nothing = refl

-- how the segments behind a place go on
behind_at : (segments : List (List Port)) (i : ℕ) → i < length segments → drop i segments ≡ segment_at segments i ∷ drop (i + 1) segments
behind_at segments i within = drop_more segments i [] within

-- the next one of the others is met
pub run_met : (n : ℕ) (before after : List (List Port)) (met : ℕ) (lost : List ℕ) → HasRun n before after met lost → n < length before →
    met < length after → segment_at after met ≡ segment_at before n → HasRun (n + 1) before after (met + 1) lost
run_met n before after met lost run place within same = record {
  within = omega (arith, within);
  places = λ i among. let less : i < n = run.places i among in omega (arith, less);
  every = below_more (λ i. Contains after (segment_at before i) ⊎ Contains lost i) n run.every
      (inl (subst (λ (s : List Port). Contains after s) same (segment_among after met within)));
  among = below_more (λ j. IsBefore before (n + 1) (segment_at after j)) met
      (λ j below. before_more before n (segment_at after j) (run.among j below)) (n, omega arith, sym same);
  left = λ whole. left_behind (segment_at after met) (segment_at before n) (drop (met + 1) after) (drop (n + 1) before) same
      (subst (λ (l : List (List Port)). IsLeftOf l (segment_at before n ∷ drop (n + 1) before)) (behind_at after met within)
      (subst (IsLeftOf (drop met after)) (behind_at before n place) (run.left whole)));
}

-- the next one of the others isn't the segment at this place
abbrev pub IsNextOther : List (List Port) → ℕ → List Port → Type 0
IsNextOther after met segment = ((met < length after) × (segment_at after met ≡ segment)) → ⊥

-- what is still to be met doesn't begin with it
begins_otherwise : (after : List (List Port)) (met : ℕ) (segment : List Port) → IsNextOther after met segment →
    (rest : List (List Port)) → drop met after ≢ segment ∷ rest
begins_otherwise after met segment other rest begins =
    let long : length (drop met after) ≡ length after - met = length-drop met after in
    let within : met < length after = omega (arith, long, ap (λ (l : List (List Port)). length l) begins) in
    other (within, ap (λ (l : List (List Port)). get_or l 0 []) (sym (behind_at after met within) ∙ begins))

-- a place is lost
pub run_lost : (n : ℕ) (before after : List (List Port)) (met : ℕ) (lost : List ℕ) → HasRun n before after met lost → n < length before →
    IsNextOther after met (segment_at before n) → HasRun (n + 1) before after met (lost ++ n ∷ [])
run_lost n before after met lost run place other = record {
  within = run.within;
  places = λ i among. elim (Contains-push_cases lost n i among) [
    | inl earlier ↦ let less : i < n = run.places i earlier in omega (arith, less)
    | inr here ↦ omega (arith, here)
  ];
  every = below_more (λ i. Contains after (segment_at before i) ⊎ Contains (lost ++ n ∷ []) i) n
      (λ i below. elim (run.every i below) [
        | inl there ↦ inl there
        | inr gone ↦ inr (Contains-append_left lost (n ∷ []) i gone)
      ]) (inr (Contains-push lost n));
  among = λ j below. before_more before n (segment_at after j) (run.among j below);
  left = λ whole. left_past (segment_at before n) (drop met after) (drop (n + 1) before)
      (begins_otherwise after met (segment_at before n) other) (subst (IsLeftOf (drop met after)) (behind_at before n place) (run.left whole));
}

-- at the end all of the others are met
pub run_ends : (before after : List (List Port)) (met : ℕ) (lost : List ℕ) → HasRun (length before) before after met lost → length after ≤ met →
    LosesSegments before after lost
run_ends before after met lost run all = record {
  places = run.places;
  every = run.every;
  among = λ segment there.
      let k : ℕ = there.0 in
      let below : k < length after = there.1 in
      let is : IsBefore before (length before) (segment_at after k) = run.among k (omega (arith, all, below)) in
      let at_k : segment_at after k ≡ segment = get_or_default after k [] segment below ∙ there.2 in
      let less : is.0 < length before = is.1 in
      subst (λ (s : List Port). Contains before s) (is.2 ∙ at_k) (segment_among before is.0 less);
}

-- where not all of the others are met at the end they aren't left of the list
pub run_misses : (before after : List (List Port)) (met : ℕ) (lost : List ℕ) → HasRun (length before) before after met lost → met < length after →
    IsLeftOf after before → ⊥
run_misses before after met lost run more whole =
    let none : drop (length before) before ≡ [] = drop_all (length before) before (omega arith) in
    let over : drop met after ≡ [] = left_of_none (drop met after) (subst (IsLeftOf (drop met after)) none (run.left whole)) in
    let long : length (drop met after) ≡ length after - met = length-drop met after in
    omega (arith, long, more, ap (λ (l : List (List Port)). length l) over)
