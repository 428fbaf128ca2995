-- The timetable that a ranking makes, router by router.
use Rattle.std.proofs.Common.{◌≡◌, ℕ, ◌+◌, ◌<◌, ◌≤◌, inl, inr, if◌then◌else◌, List, length, set, below_more, sym, ap, ◌∙◌, arith}
use Rattle.std.proofs.lemmas.Bool.{cases_lt}
use Rattle.std.proofs.lemmas.List.{get_or_past, get_or-set_other, get_or-set_same}
use Rattle.order_core.specs.Rankings.{rank_of}
use Rattle.igp_theory.specs.Changes.{Change, first, second}
use Rattle.igp_theory.specs.Phases.{State, state_in}
use Rattle.igp_theory.specs.Timetables.{Timetable, is_made}
use Rattle.igp_theory.specs.declared.phase.Phase.{Phase}
use Rattle.igp_theory.specs.declared.phase.Phase.TheVariants.{Old}
use Rattle.loop_finder.specs.Times.{times_in, waves_of}
use Rattle.loop_finder.specs.declared.times.ChangeWaves.{ChangeWaves}
use Rattle.plan_theory.specs.Ranked.{size_of}
use Rattle.plan_theory.specs.declared.items.Items.{Items}
use Rattle.plan_theory.specs.declared.items.Items.TheVariants.{Routers, Changes}
use Rattle.wave_oracle.specs.steps.RankedTimes.{times_from, waves_by}

-- the waves of a ranked router that starts in a phase
abbrev waves_in : ℕ → ℕ → Phase → ChangeWaves
waves_in u wave phase = record { first = if is_made phase (first u) then 0 else wave; second = if is_made phase (second u) then 0 else wave }

pub router_waves_are : (phase : Phase) (state : State) (ranks : List ℕ) (u : ℕ) (waves : ChangeWaves) → state u ≡ phase →
    waves ≡ waves_in u (rank_of ranks u + 1) phase → waves ≡ waves_by (times_from Routers state ranks) u
router_waves_are phase state ranks u waves is same = same ∙ ap (waves_in u (rank_of ranks u + 1)) (sym is)

-- numbers of routers are within a ranking
pub router_within : (items : Items) (u long : ℕ) → items ≡ Routers → size_of items (u + 1) ≤ long → u < long
router_within Routers u long is within = omega (arith, within)
router_within Changes u long is within = cc

pub change_within : (items : Items) (u long : ℕ) → items ≡ Changes → size_of items (u + 1) ≤ long → u + u + 1 < long
change_within Routers u long is within = cc
change_within Changes u long is within = omega (arith, within)

pub router_times_of : (items : Items) (state : State) (ranks : List ℕ) (u : ℕ) (waves : ChangeWaves) → items ≡ Routers →
    waves ≡ waves_by (times_from Routers state ranks) u → waves ≡ waves_by (times_from items state ranks) u
router_times_of Routers state ranks u waves is same = same
router_times_of Changes state ranks u waves is same = cc

pub change_times_of : (items : Items) (state : State) (ranks : List ℕ) (u : ℕ) (waves : ChangeWaves) → items ≡ Changes →
    waves ≡ waves_by (times_from Changes state ranks) u → waves ≡ waves_by (times_from items state ranks) u
change_times_of Routers state ranks u waves is same = cc
change_times_of Changes state ranks u waves is same = same

-- a router below the count is within a ranking
pub place_within : (items : Items) (u n : ℕ) → u < n → size_of items (u + 1) ≤ size_of items n
place_within Routers u n below = omega (arith, below)
place_within Changes u n below = omega (arith, below)

-- past the routers all is in the first wave
past_waves : (items : Items) (start : List Phase) (ranks : List ℕ) (u : ℕ) → length ranks ≡ size_of items (length start) → length start ≤ u →
    waves_by (times_from items (state_in start) ranks) u ≡ record { first = 1; second = 1 }
past_waves Routers start ranks u many past =
    let none : rank_of ranks u ≡ 0 = get_or_past ranks u 0 (omega (arith, many, past)) in
    let phase : state_in start u ≡ Old = get_or_past start u Old past in
    ap (waves_in u (rank_of ranks u + 1)) phase ∙ ap (λ (k : ℕ). record { first = k + 1; second = k + 1 }) none
past_waves Changes start ranks u many past =
    let one : rank_of ranks (u + u) ≡ 0 = get_or_past ranks (u + u) 0 (omega (arith, many, past)) in
    let two : rank_of ranks (u + u + 1) ≡ 0 = get_or_past ranks (u + u + 1) 0 (omega (arith, many, past)) in
    ap (λ (k : ℕ). record { first = k + 1; second = rank_of ranks (u + u + 1) + 1 }) one
    ∙ ap (λ (k : ℕ). record { first = 1; second = k + 1 }) two

-- where each router has its waves, the timetable is that of the ranking
pub times_filled : (items : Items) (start : List Phase) (ranks : List ℕ) (times : List ChangeWaves) → length times ≡ length start →
    length ranks ≡ size_of items (length start) →
    ((u : ℕ) → u < length start → waves_of times u ≡ waves_by (times_from items (state_in start) ranks) u) →
    times_in times ≡ times_from items (state_in start) ranks
times_filled items start ranks times many each filled = λ i c. same c i
  where
    waves : (u : ℕ) → waves_of times u ≡ waves_by (times_from items (state_in start) ranks) u
    waves u = elim (cases_lt u (length start)) [
      | inl within ↦ filled u within
      | inr past ↦
          let none : waves_of times u ≡ record { first = 1; second = 1 } =
          get_or_past times u (record { first = 1; second = 1 }) (omega (arith, past, many)) in
          none ∙ sym (past_waves items start ranks u each past)
    ]

    same : (c : Change) → times_in times c ≡ times_from items (state_in start) ranks c
    same (first u) = ap (λ (w : ChangeWaves). w.first) (waves u)
    same (second u) = ap (λ (w : ChangeWaves). w.second) (waves u)

-- a router more has its waves
pub waves_more : (time : Timetable) (times : List ChangeWaves) (n : ℕ) (here : ChangeWaves) → n < length times → here ≡ waves_by time n →
    ((u : ℕ) → u < n → waves_of times u ≡ waves_by time u) → (u : ℕ) → u < n + 1 → waves_of (set times n here) u ≡ waves_by time u
waves_more time times n here within is before =
    let none : ChangeWaves = record { first = 1; second = 1 } in
    below_more (λ (u : ℕ). waves_of (set times n here) u ≡ waves_by time u) n
    (λ u below. get_or-set_other times n u here none (λ same. omega (arith, same, below)) ∙ before u below)
    (get_or-set_same times n here none within ∙ is)
