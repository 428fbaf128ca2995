-- Which change may come next is told by the counts of the changes made.
use Rattle.std.proofs.lemmas.Grind.{common_steps}
use Rattle.std.proofs.Common.{◌≡◌, ◌≢◌, ℕ, ◌+◌, ◌<◌, inl, inr, List, [], ◌∷◌, ◌++◌, length, map, get_or, set, Option, Some}
use Rattle.std.proofs.Common.{None, Contains, AllPairs, refl, sym, ap, subst, ◌∙◌, arith}
use Rattle.std.specs.Option.{MatchOption}
use Rattle.std.proofs.lemmas.Bool.{cases_eq}
use Rattle.std.proofs.lemmas.List.{map-append, length-set, get_or-set_same, get_or-set_other}
use Rattle.std.proofs.lemmas.List.Elements.{Contains-append_left, Contains-append_right, Contains-append_cases}
use Rattle.net_model.proofs.Members.{Contains-first}
use Rattle.order_core.specs.Rankings.{IsRanking, rank_of, flat_of}
use Rattle.igp_theory.specs.States.{changes_on}
use Rattle.igp_theory.specs.Changes.{Change, first, second, changed}
use Rattle.igp_theory.specs.Phases.{all_old}
use Rattle.igp_theory.specs.Timetables.{Timetable, MayPrecede, router_times}
use Rattle.igp_theory.specs.Waves.{run_along}
use Rattle.igp_theory.proofs.FlatOrders.{flat_is_run}
use Rattle.igp_theory.proofs.OrderedLists.{contains_one, pairs_none, pairs_more, pairs_append, pairs_across}
use Rattle.igp_theory.proofs.ChangeCounts.{count_other, count_own, count_append}
use Rattle.state_replay.specs.Halves.{half_number, change_of}
use Rattle.state_replay.specs.Journals.{BeginRun, MayComeNext, AreChangeCounts, IsNextOn}
use Rattle.state_replay.specs.steps.Fitting.{FitsCounts}
use Rattle.state_replay.specs.declared.half.Half.{Half}
use Rattle.state_replay.specs.declared.half.Half.TheVariants.{First, Second}
use Rattle.state_replay.proofs.Fronts.{AreInFront, front_of_run, precede, run_of_front}
use Rattle.state_replay.proofs.Lines.{changed_is}
use Rattle.state_replay.proofs.Counting.{none_made, first_made, second_open, both_made, is_none, is_one, is_both}

-- one change more
one_more : (time : Timetable) (changes : List Change) (d : Change) → AllPairs (MayPrecede time) changes →
    ((c : Change) → Contains changes c → MayPrecede time c d) → AllPairs (MayPrecede time) (changes ++ d ∷ [])
one_more time changes d pairs each =
    pairs_append (MayPrecede time) changes (d ∷ []) pairs (pairs_more (MayPrecede time) d [] (λ c inside. absurd (omega (arith, inside.1)))
    (pairs_none (MayPrecede time)))
    (λ c e here there. subst (λ (x : Change). MayPrecede time c x) (contains_one d e there) (each c here))

among_more : (changes : List Change) (d c : Change) → Contains (changes ++ d ∷ []) c → d ≢ c → Contains changes c
among_more changes d c inside apart = grind (arith, common_steps, Contains-append_cases, contains_one)

not_yet : (time : Timetable) (changes : List Change) (d : Change) → AllPairs (MayPrecede time) (changes ++ d ∷ []) → Contains changes d → ⊥
not_yet time changes d pairs here = (pairs_across (MayPrecede time) changes (d ∷ []) pairs d d here (Contains-first d [])).other refl

module _ (n : ℕ) (ranks : List ℕ) (changes : List Change) (front : AreInFront n ranks changes) where
  -- a change that isn't made, where those before it are
  one_fits : (d : Change) → changed d < n → (Contains changes d → ⊥) →
      ((c : Change) → changed c < n → rank_of ranks (changed c) < rank_of ranks (changed d) → Contains changes c) →
      ((u : ℕ) → d ≡ second u → Contains changes (first u)) → AreInFront n ranks (changes ++ d ∷ [])
  one_fits d below absent done begun = record {
    in_turn = one_more (router_times all_old ranks) changes d front.in_turn (λ c here. precede front c d here absent below);
    below = λ c inside. elim (Contains-append_cases changes (d ∷ []) c inside) [
      | inl here ↦ front.below c here
      | inr there ↦ subst (λ (e : Change). changed e < n) (contains_one d c there) below
    ];
    earlier = λ c e inside within lower. Contains-append_left changes (d ∷ []) e (elim (Contains-append_cases changes (d ∷ []) c inside) [
      | inl here ↦ front.earlier c e here within lower
      | inr there ↦ done e within
          (subst (λ (x : Change). rank_of ranks (changed e) < rank_of ranks (changed x)) (sym (contains_one d c there)) lower)
    ]);
    halves = λ v inside. Contains-append_left changes (d ∷ []) (first v) (elim (Contains-append_cases changes (d ∷ []) (second v) inside) [
      | inl here ↦ front.halves v here
      | inr there ↦ begun v (contains_one d (second v) there)
    ]);
  }

  both_of : (d : Change) → Contains changes (first (changed d)) × Contains changes (second (changed d)) → Contains changes d
  both_of d both = grind (arith, common_steps)

  fits_is_next : (done : List ℕ) (u : ℕ) (half : Half) → IsRanking n ranks → AreChangeCounts n changes done → u < n →
      FitsCounts ranks done u half →
      MayComeNext n ranks changes (change_of u half)
  fits_is_next done u First ranking counts below fits =
      run_of_front n ranks (changes ++ first u ∷ []) ranking
      (one_fits (first u) below (none_made n ranks changes u front (sym (counts.count u below) ∙ fits.none))
      (λ c within lower. both_of c (both_made n ranks changes (changed c) front (sym (counts.count (changed c) within)
      ∙ fits.earlier (changed c) (let long = ranking.each in omega (arith, within, long)) lower)))
      (λ v e. cc))
  fits_is_next done u Second ranking counts below fits =
      let one = sym (counts.count u below) ∙ fits in
      let begun = first_made n ranks changes u front one in
      run_of_front n ranks (changes ++ second u ∷ []) ranking
      (one_fits (second u) below (second_open n ranks changes u front one) (λ c within lower. front.earlier (first u) c begun within lower)
      (λ v e. subst (λ (w : ℕ). Contains changes (first w)) (ap changed e) begun))

  pub next_fits : (done : List ℕ) (u : ℕ) (half : Half) → IsRanking n ranks → AreChangeCounts n changes done → u < n →
      MayComeNext n ranks changes (change_of u half) → FitsCounts ranks done u half
  next_fits done u First ranking counts below next =
      let more : AreInFront n ranks (changes ++ first u ∷ []) = front_of_run n ranks (changes ++ first u ∷ []) next in
      let here : Contains (changes ++ first u ∷ []) (first u) = Contains-append_right changes (first u ∷ []) (first u) (Contains-first (first u) []) in
      record {
        none = counts.count u below ∙ is_none n ranks changes u front (not_yet (router_times all_old ranks) changes (first u) more.in_turn);
        earlier = λ v within lower.
            let inside : v < n = let long = ranking.each in omega (arith, within, long) in
            let apart : first u ≢ first v = λ e. let same : rank_of ranks u ≡ rank_of ranks v = ap (λ (x : Change). rank_of ranks (changed x)) e in
            omega (arith, lower, same) in
            counts.count v inside
            ∙ is_both n ranks changes v front
            (among_more changes (first u) (first v) (more.earlier (first u) (first v) here inside lower) apart)
            (among_more changes (first u) (second v) (more.earlier (first u) (second v) here inside lower) (λ e. cc));
      }
  next_fits done u Second ranking counts below next =
      let more : AreInFront n ranks (changes ++ second u ∷ []) = front_of_run n ranks (changes ++ second u ∷ []) next in
      let here : Contains (changes ++ second u ∷ []) (second u) =
      Contains-append_right changes (second u ∷ []) (second u) (Contains-first (second u) []) in
      counts.count u below
      ∙ is_one n ranks changes u front (among_more changes (second u) (first u) (more.halves u here) (λ e. cc))
      (not_yet (router_times all_old ranks) changes (second u) more.in_turn)

-- the two changes of a router don't fit together
fit_alone : (ranks done : List ℕ) (u : ℕ) (half next : Half) → FitsCounts ranks done u half → FitsCounts ranks done u next → half ≡ next
fit_alone ranks done u half next one other = grind arith

-- what fits is what may come next
pub fitting : (ranks done : List ℕ) (u : ℕ) (next : Option Half) → IsRanking (length ranks) ranks → u < length ranks →
    MatchOption next ((half : Half) → FitsCounts ranks done u half → ⊥) (FitsCounts ranks done u) → IsNextOn ranks done u next
fitting ranks done u None ranking below none = λ changes begin counts half next.
    none half (next_fits (length ranks) ranks changes (front_of_run (length ranks) ranks changes begin) done u half ranking counts below next)
fitting ranks done u (Some half) ranking below fits = λ changes begin counts its.
    let n : ℕ = length ranks in
    let front : AreInFront n ranks changes = front_of_run n ranks changes begin in (
      λ next. fit_alone ranks done u its half (next_fits n ranks changes front done u its ranking counts below next) fits,
      λ same. fits_is_next n ranks changes front done u its ranking counts below (subst (λ (h : Half). FitsCounts ranks done u h) (sym same) fits),
    )

-- ---- the counts with one change more ----

on_more : (changes : List Change) (c : Change) (v : ℕ) →
    changes_on v (map changed (changes ++ c ∷ [])) ≡ changes_on v (map changed changes) + changes_on v (map changed (c ∷ []))
on_more changes c v = ap (changes_on v) (map-append changed changes (c ∷ [])) ∙ count_append v (map changed changes) (map changed (c ∷ []))

before_fit : (ranks done : List ℕ) (u : ℕ) (half : Half) → FitsCounts ranks done u half → get_or done u 0 + 1 ≡ half_number half
before_fit ranks done u half fits = grind (arith, common_steps)

pub counts_more : (n : ℕ) (ranks : List ℕ) (changes : List Change) (done : List ℕ) (u : ℕ) (half : Half) →
    AreChangeCounts n changes done → u < n →
    FitsCounts ranks done u half → AreChangeCounts n (changes ++ change_of u half ∷ []) (set done u (half_number half))
counts_more n ranks changes done u half counts below fits = record {
  each = length-set done u (half_number half) ∙ counts.each;
  count = λ v within. elim (cases_eq v u) [
    | inl same ↦
        let long = counts.each in
        let own = count_own v (change_of u half) [] (changed_is u half ∙ sym same) in
        let more = on_more changes (change_of u half) v in
        let before = counts.count v within in
        let now : get_or done v 0 ≡ get_or done u 0 = ap (λ w. get_or done w 0) same in
        let step = before_fit ranks done u half fits in
        ap (λ w. get_or (set done u (half_number half)) w 0) same ∙ get_or-set_same done u (half_number half) 0 (omega (arith, below, long))
        ∙ let total : half_number half ≡ changes_on v (map changed (changes ++ change_of u half ∷ [])) =
        omega (arith, own, more, before, now, step) in total
    | inr apart ↦
        let other = count_other v (change_of u half) [] (λ e. apart (sym e ∙ changed_is u half)) in
        let more = on_more changes (change_of u half) v in
        let before = counts.count v within in
        get_or-set_other done u v (half_number half) 0 apart
        ∙ let total : get_or done v 0 ≡ changes_on v (map changed (changes ++ change_of u half ∷ [])) = omega (arith, other, more, before) in total
  ];
}

-- no change begins a run
pub begin_none : (n : ℕ) (ranks : List ℕ) → IsRanking n ranks → BeginRun n ranks []
begin_none n ranks ranking = record { rest = run_along (flat_of ranks); is_run = flat_is_run n all_old ranks ranking }
