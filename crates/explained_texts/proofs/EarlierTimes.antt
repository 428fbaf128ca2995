-- The timetable of ranked routers, router by router.
use Rattle.std.proofs.Common.{◌≡◌, ◌∙◌, ℕ, ◌+◌, ◌<◌, inl, inr, List, below_more, length, set, ap, arith, sym}
use Rattle.std.proofs.lemmas.Bool.{cases_lt}
use Rattle.std.proofs.lemmas.List.{get_or-set_other, get_or-set_same, get_or_past}
use Rattle.order_core.specs.Rankings.{rank_of}
use Rattle.igp_theory.specs.Changes.{Change, first, second}
use Rattle.igp_theory.specs.Phases.{all_old}
use Rattle.igp_theory.specs.Timetables.{router_times}
use Rattle.loop_finder.specs.Times.{times_in, waves_of}
use Rattle.loop_finder.specs.declared.times.ChangeWaves.{ChangeWaves}

-- both changes of a router in the wave of its rank
abbrev pub in_wave : List ℕ → ℕ → ChangeWaves
in_wave ranks u = record { first = rank_of ranks u + 1; second = rank_of ranks u + 1 }

abbrev none : ChangeWaves
none = record { first = 1; second = 1 }

-- where each router has them so, the timetable is that of the ranks
pub ranked_times : (times : List ChangeWaves) (ranks : List ℕ) → length times ≡ length ranks →
    ((u : ℕ) → u < length ranks → waves_of times u ≡ in_wave ranks u) → times_in times ≡ router_times all_old ranks
ranked_times times ranks many each = λ i c. same c i
  where
    waves : (u : ℕ) → waves_of times u ≡ in_wave ranks u
    waves u = elim (cases_lt u (length ranks)) [
      | inl within ↦ each u within
      | inr past ↦
          let zero_rank : rank_of ranks u ≡ 0 = get_or_past ranks u 0 past in
          get_or_past times u none (omega (arith, past, many))
          ∙ ap (λ (w : ℕ). record { first = w + 1; second = w + 1 }) (sym zero_rank)
    ]

    same : (c : Change) → times_in times c ≡ router_times all_old ranks c
    same (first u) = ap (λ (w : ChangeWaves). w.first) (waves u)
    same (second u) = ap (λ (w : ChangeWaves). w.second) (waves u)

-- a router more has them
pub ranked_more : (times : List ChangeWaves) (ranks : List ℕ) (n wave : ℕ) → n < length times → wave ≡ rank_of ranks n + 1 →
    ((u : ℕ) → u < n → waves_of times u ≡ in_wave ranks u) →
    (u : ℕ) → u < n + 1 → waves_of (set times n (record { first = wave; second = wave })) u ≡ in_wave ranks u
ranked_more times ranks n wave within is before =
    let here : ChangeWaves = record { first = wave; second = wave } in
    below_more (λ (u : ℕ). waves_of (set times n here) u ≡ in_wave ranks u) n
    (λ u below. get_or-set_other times n u here none (λ same. omega (arith, same, below)) ∙ before u below)
    (get_or-set_same times n here none within ∙ ap (λ (w : ℕ). record { first = w; second = w }) is)
