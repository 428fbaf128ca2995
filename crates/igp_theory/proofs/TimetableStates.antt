-- The states of a timetable are those of its waves.
use Rattle.std.proofs.Common.{◌≡◌, ◌≢◌, ℕ, ◌+◌, ◌-◌, ◌<◌, ◌≤◌, ◌⊎◌, ◌↔◌, inl, inr, Bool, true, false, not, ◌&&◌, ltb, min}
use Rattle.std.proofs.Common.{List, [], ◌∷◌, ◌++◌, length, map, take, drop, Contains, arith, refl, sym, ap, ◌∙◌, subst}
use Rattle.std.specs.List.{AllPairs}
use Rattle.std.proofs.lemmas.Bool.{cases_lt, lt-ltb, ltb-true, false≢true, not-true, and_parts, and_from}
use Rattle.std.proofs.lemmas.List.{take-append-drop, take_at}
use Rattle.std.proofs.lemmas.List.Elements.{Contains-append_left, Contains-append_right, Contains-append_cases}
use Rattle.igp_theory.specs.Phases.{State, made_in}
use Rattle.igp_theory.specs.States.{changes_on, phase_after}
use Rattle.igp_theory.specs.Timetables.{Timetable, IsTimetable, MayPrecede, IsLeft, IsRun, IsStateOf, IsStateOfWave, is_made, state_after}
use Rattle.igp_theory.specs.TimetableLaws.{IsStateOfSomeWave}
use Rattle.igp_theory.specs.Changes.{Change, first, second, changed}
use Rattle.net_model.proofs.Members.{Contains-none, Contains-first, Contains-rest, Contains-cases}
use Rattle.igp_theory.proofs.ChangeCounts.{StandsOnce, Counted, counted}
use Rattle.igp_theory.proofs.OrderedLists.{pairs_append, pairs_across, pairs_weaker, pairs_front}
use Rattle.igp_theory.proofs.Phases.{tally, made_after, made_one_by_one, made_in_few, phases_same, second_after_first}
use Rattle.igp_theory.proofs.SortedChanges.{Listed, Passes, listed_passing}
use Rattle.igp_theory.proofs.Timetables.{made_at_start, made_before, made_upto, left_from}

-- A state of a run is one of a wave

-- the last wave that some changes are of, wave 1 where there is none
record LastWave (time : Timetable) (changes : List Change) : Type 0 where
  wave : ℕ
  from_one : 1 ≤ wave
  none_later : (c : Change) → Contains changes c → time c ≤ wave
  of_one : (wave ≡ 1) ⊎ ((c : Change) × Contains changes c × (time c ≡ wave))

last_wave : (time : Timetable) (changes : List Change) → LastWave time changes
last_wave time [] =
    record { wave = 1; from_one = omega arith; none_later = λ c inside. absurd (Contains-none c inside); of_one = inl refl }
last_wave time (c ∷ changes) =
    let rest : LastWave time changes = last_wave time changes in
    let from = rest.from_one in
    elim (cases_lt rest.wave (time c)) [
      | inl later ↦ record {
        wave = time c;
        from_one = omega (arith, from, later);
        none_later = λ d inside. elim (Contains-cases c changes d inside) [
          | inl same ↦ subst (λ e. time e ≤ time c) same (omega arith)
          | inr among ↦ let k = rest.none_later d among in omega (arith, k, later)
        ];
        of_one = inr (c, Contains-first c changes, refl);
      }
      | inr earlier ↦ record {
        wave = rest.wave;
        from_one = rest.from_one;
        none_later = λ d inside. elim (Contains-cases c changes d inside) [
          | inl same ↦ subst (λ e. time e ≤ rest.wave) same earlier
          | inr among ↦ rest.none_later d among
        ];
        of_one = elim rest.of_one [
          | inl none ↦ inl none
          | inr one ↦ inr (one.0, Contains-rest c changes one.0 one.1, one.2)
        ];
      }
    ]

module _ {n : ℕ} {start : State} {time : Timetable} (table : IsTimetable n start time) where
  module _ {run : List Change} (k : ℕ) (is_run : IsRun n time run) (last : LastWave time (take k run)) where
    whole : AllPairs (MayPrecede time) (take k run ++ drop k run)
    whole = subst (AllPairs (MayPrecede time)) (sym (take-append-drop k run)) is_run.in_turn

    -- a change that is made is of a wave up to the last one, a change that is left of one from there on
    made_early : (c : Change) → Contains (take k run) c → (0 < time c) × (time c ≤ last.wave)
    made_early c inside = (
      ((is_run.all c).0 (subst (λ l. Contains l c) (take-append-drop k run) (Contains-append_left (take k run) (drop k run) c inside))).1,
      last.none_later c inside,
    )

    left_late : (c : Change) → changed c < n → 0 < time c → (Contains (take k run) c → ⊥) → last.wave ≤ time c
    left_late c below left absent =
        elim (Contains-append_cases (take k run) (drop k run) c
        (subst (λ l. Contains l c) (sym (take-append-drop k run)) ((is_run.all c).1 (below, left)))) [
          | inl inside ↦ absurd (absent inside)
          | inr after ↦ elim last.of_one [
            | inl none ↦ omega (arith, none, left)
            | inr one ↦
                let wave = (pairs_across (MayPrecede time) (take k run) (drop k run) whole one.0 c one.1 after).wave in
                let is = one.2 in
                omega (arith, wave, is)
          ]
        ]

    -- so a change is made when the last wave begins, or by the run, and then it is when that wave ends
    made_between : (c : Change) (times : ℕ) → changed c < n → StandsOnce (take k run) c times →
        (min 1 (last.wave - time c) ≤ min 1 (1 - time c) + times) × (min 1 (1 - time c) + times ≤ min 1 (last.wave + 1 - time c))
    made_between c times below stands = elim stands.either [
      | inl there ↦
          let one = there.0 in
          let early = made_early c there.1 in
          let some = early.0 in
          let upto = early.1 in
          (omega (arith, one), omega (arith, one, some, upto))
      | inr none ↦
          let zero_times = none.0 in
          let from = last.from_one in
          elim (cases_lt 0 (time c)) [
            | inl left ↦ let late = left_late c below left none.1 in (omega (arith, zero_times, late), omega (arith, zero_times, from))
            | inr before ↦ (omega (arith, zero_times, before), omega (arith, zero_times, from))
          ]
    ]

    distinct : AllPairs (λ c d. c ≢ d) (take k run)
    distinct = pairs_weaker (MayPrecede time) (λ c d. c ≢ d) (λ c d may. may.other) (take k run)
        (pairs_front (MayPrecede time) (take k run) (drop k run) whole)

  pub state_of_wave : (state : State) → IsStateOf n start time state → IsStateOfSomeWave n time state
  state_of_wave state is =
      let last : LastWave time (take is.k is.run) = last_wave time (take is.k is.run) in
      record {
        wave = last.wave;
        from_one = last.from_one;
        of_wave = λ u below.
            let count : Counted u (take is.k is.run) = counted u (take is.k is.run) (distinct is.k is.is_run last) in
            let one = made_between is.k is.is_run last (first u) count.one below count.has_one in
            let two = made_between is.k is.is_run last (second u) count.two below count.has_two in
            let low_one = one.0 in
            let low_two = two.0 in
            let high_one = one.1 in
            let high_two = two.1 in
            let made : made_in (state u) ≡ min 2 (made_in (start u) + (count.one + count.two)) =
            ap made_in (is.after u below ∙ ap (λ m. phase_after (made_in (start u) + m)) count.is) ∙ made_after (made_in (start u) + (count.one + count.two)) in
            let at_start = made_at_start table u below in
            let begins = made_before time last.wave u (table.in_order u) in
            let ends = made_before time (last.wave + 1) u (table.in_order u) in
            record {
              from = omega (arith, made, at_start, begins, low_one, low_two);
              upto = omega (arith, made, at_start, ends, high_one, high_two);
            };
      }

  -- A state of a wave is one of a run

  module _ (w : ℕ) (state : State) (from_one : 1 ≤ w) (of_wave : IsStateOfWave n time w state) where
    abbrev is_left : Change → Bool
    is_left c = ltb 0 (time c)

    abbrev in_state : Change → Bool
    in_state c = is_made (state (changed c)) c

    -- the changes that are left at the start, and made in the state or not
    made_list : Listed time (Passes n (λ c. is_left c && in_state c))
    made_list = listed_passing time n (λ c. is_left c && in_state c) table.in_order

    left_list : Listed time (Passes n (λ c. is_left c && not (in_state c)))
    left_list = listed_passing time n (λ c. is_left c && not (in_state c)) table.in_order

    abbrev through : List Change
    through = made_list.list ++ left_list.list

    -- those may precede these
    across : (c d : Change) → Contains made_list.list c → Contains left_list.list d → MayPrecede time c d
    across c d one other =
        let made = (made_list.contains c).0 one in
        let left = (left_list.contains d).0 other in
        let is : in_state c ≡ true = (and_parts (is_left c) (in_state c) made.1).1 in
        let isnt : in_state d ≡ false = not-true (in_state d) (and_parts (is_left d) (not (in_state d)) left.1).1 in
        let early = made_upto table w (state (changed c)) c (of_wave (changed c) made.0) is in
        let late = left_from table w (state (changed d)) d (of_wave (changed d) left.0) isnt in
        record {
          other = λ same. false≢true (sym isnt ∙ ap in_state (sym same) ∙ is);
          wave = omega (arith, early, late);
          half = λ u is_second is_first. false≢true (sym isnt ∙ ap in_state is_first
              ∙ second_after_first (state u) u (ap in_state (sym is_second) ∙ is));
        }

    -- each change that is left stands in one of both
    all : (c : Change) → Contains through c ↔ IsLeft n time c
    all c = (
      λ inside. elim (Contains-append_cases made_list.list left_list.list c inside) [
        | inl made ↦ let passes = (made_list.contains c).0 made in (passes.0, ltb-true 0 (time c) (and_parts (is_left c) (in_state c) passes.1).0)
        | inr left ↦
            let passes = (left_list.contains c).0 left in
            (passes.0, ltb-true 0 (time c) (and_parts (is_left c) (not (in_state c)) passes.1).0)
      ],
      λ left. by left (in_state c) refl,
    )
      where
        by : IsLeft n time c → (b : Bool) → in_state c ≡ b → Contains through c
        by left true is = Contains-append_left made_list.list left_list.list c
            ((made_list.contains c).1 (left.0, and_from (is_left c) (in_state c) (lt-ltb 0 (time c) left.1) is))
        by left false isnt = Contains-append_right made_list.list left_list.list c
            ((left_list.contains c).1 (left.0, and_from (is_left c) (not (in_state c)) (lt-ltb 0 (time c) left.1) (ap not isnt)))

    is_run_through : IsRun n time through
    is_run_through = record {
      all = all;
      in_turn = pairs_append (MayPrecede time) made_list.list left_list.list made_list.in_turn left_list.in_turn across;
    }

    -- a change is made at the start or in the list where it is made in the state
    made_there : (c : Change) (times : ℕ) → changed c < n → StandsOnce made_list.list c times → min 1 (1 - time c) + times ≡ tally (in_state c)
    made_there c times below stands = by (in_state c) refl stands.either
      where
        by : (b : Bool) → in_state c ≡ b → ((times ≡ 1) × Contains made_list.list c) ⊎ ((times ≡ 0) × (Contains made_list.list c → ⊥)) →
            min 1 (1 - time c) + times ≡ tally (in_state c)
        by b is (inl there) =
            let passes = (made_list.contains c).0 there.1 in
            let parts = and_parts (is_left c) (in_state c) passes.1 in
            let left = ltb-true 0 (time c) parts.0 in
            let one = ap tally parts.1 in
            let once = there.0 in
            omega (arith, left, one, once)
        by false isnt (inr none) =
            let late = left_from table w (state (changed c)) c (of_wave (changed c) below) isnt in
            let zero_made = ap tally isnt in
            let never = none.0 in
            omega (arith, late, from_one, zero_made, never)
        by true is (inr none) = elim (cases_lt 0 (time c)) [
          | inl left ↦ absurd (none.1 ((made_list.contains c).1 (below, and_from (is_left c) (in_state c) (lt-ltb 0 (time c) left) is)))
          | inr before ↦ let one = ap tally is in let never = none.0 in omega (arith, before, one, never)
        ]

    reached : (u : ℕ) → u < n → state u ≡ state_after start (take (length made_list.list) through) u
    reached u below =
        let front : take (length made_list.list) through ≡ made_list.list = take_at made_list.list left_list.list (length made_list.list) refl in
        let count : Counted u made_list.list = counted u made_list.list
        (pairs_weaker (MayPrecede time) (λ c d. c ≢ d) (λ c d may. may.other) made_list.list made_list.in_turn) in
        let is = count.is in
        let one = made_there (first u) count.one below count.has_one in
        let two = made_there (second u) count.two below count.has_two in
        let at_start = made_at_start table u below in
        let there = made_one_by_one (state u) u in
        let few = made_in_few (state u) in
        phases_same (state u) (state_after start made_list.list u)
        (let after = made_after (made_in (start u) + changes_on u (map changed made_list.list)) in omega (arith, is, one, two, at_start, there, few, after))
        ∙ ap (λ l. state_after start l u) (sym front)

  pub wave_is_reached : (state : State) → IsStateOfSomeWave n time state → IsStateOf n start time state
  wave_is_reached state some = record {
    run = through some.wave state some.from_one some.of_wave;
    is_run = is_run_through some.wave state some.from_one some.of_wave;
    k = length (made_list some.wave state some.from_one some.of_wave).list;
    after = reached some.wave state some.from_one some.of_wave;
  }
