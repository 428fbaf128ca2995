-- The timetable of ranked changes, router by router.
use Rattle.std.proofs.Common.{◌≡◌, ◌∙◌, ℕ, ◌+◌, ◌*◌, ◌<◌, inl, inr, List, below_more, length, set, ap, arith, sym}
use Rattle.std.proofs.lemmas.Bool.{cases_lt}
use Rattle.std.proofs.lemmas.List.{get_or-set_other, get_or-set_same, get_or_past}
use Rattle.order_core.specs.Rankings.{rank_of}
use Rattle.igp_theory.specs.Changes.{Change, first, second}
use Rattle.igp_theory.specs.Timetables.{change_times}
use Rattle.loop_finder.specs.Times.{times_in, waves_of}
use Rattle.loop_finder.specs.declared.times.ChangeWaves.{ChangeWaves}

-- the two changes of a router, each in the wave of its rank
abbrev pub both_waves : List ℕ → ℕ → ChangeWaves
both_waves ranks u = record { first = rank_of ranks (u + u) + 1; second = rank_of ranks (u + u + 1) + 1 }

abbrev in_first : ChangeWaves
in_first = record { first = 1; second = 1 }

-- where each router has them so, the timetable is that of the ranks
pub changes_times : (times : List ChangeWaves) (ranks : List ℕ) → 2 * length times ≡ length ranks →
    ((u : ℕ) → u < length times → waves_of times u ≡ both_waves ranks u) → times_in times ≡ change_times ranks
changes_times times ranks many each = λ i c. same c i
  where
    waves : (u : ℕ) → waves_of times u ≡ both_waves ranks u
    waves u = elim (cases_lt u (length times)) [
      | inl within ↦ each u within
      | inr past ↦
          let one : rank_of ranks (u + u) ≡ 0 = get_or_past ranks (u + u) 0 (omega (arith, many, past)) in
          let two : rank_of ranks (u + u + 1) ≡ 0 = get_or_past ranks (u + u + 1) 0 (omega (arith, many, past)) in
          get_or_past times u in_first past
          ∙ sym (ap (λ (k : ℕ). record { first = k + 1; second = rank_of ranks (u + u + 1) + 1 }) one
          ∙ ap (λ (k : ℕ). record { first = 1; second = k + 1 }) two)
    ]

    same : (c : Change) → times_in times c ≡ change_times ranks c
    same (first u) = ap (λ (w : ChangeWaves). w.first) (waves u)
    same (second u) = ap (λ (w : ChangeWaves). w.second) (waves u)

-- a router more has them
pub changes_more : (times : List ChangeWaves) (ranks : List ℕ) (n : ℕ) (here : ChangeWaves) → n < length times → here ≡ both_waves ranks n →
    ((u : ℕ) → u < n → waves_of times u ≡ both_waves ranks u) →
    (u : ℕ) → u < n + 1 → waves_of (set times n here) u ≡ both_waves ranks u
changes_more times ranks n here within is before =
    below_more (λ (u : ℕ). waves_of (set times n here) u ≡ both_waves ranks u) n
    (λ u below. get_or-set_other times n u here in_first (λ same. omega (arith, same, below)) ∙ before u below)
    (get_or-set_same times n here in_first within ∙ is)

-- two waves are those of a router
pub two_waves : (ranks : List ℕ) (u one other : ℕ) → one ≡ rank_of ranks (u + u) + 1 → other ≡ rank_of ranks (u + u + 1) + 1 →
    record { first = one; second = other } ≡ both_waves ranks u
two_waves ranks u one other is its =
    ap (λ (k : ℕ). record { first = k; second = other }) is
    ∙ ap (λ (k : ℕ). record { first = rank_of ranks (u + u) + 1; second = k }) its
