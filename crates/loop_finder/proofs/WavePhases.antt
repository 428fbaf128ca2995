-- The phases by the waves of a router's changes, and lists of them.
use Rattle.std.proofs.lemmas.Grind.{common_steps}
use Rattle.std.proofs.Common.{◌≡◌, ℕ, zero, suc, ◌+◌, ◌^◌, ◌<◌, ◌≤◌, ◌⊎◌, Bool, ltb, List, [], ◌∷◌, length, get_or, inl, inr, refl, arith}
use Rattle.std.proofs.Common.{◌↔◌, ◌++◌, take, drop, set, Contains, sym, ap, ◌∙◌, subst}
use Rattle.std.proofs.lemmas.Bool.{lt-ltb, le-ltb, false≢true}
use Rattle.std.proofs.Common.{true, false, ◌==◌, ◌&&◌, eqb-true}
use Rattle.net_model.proofs.Members.{Contains-none}
use Rattle.order_core.specs.Rankings.{IsRanking, rank_of}
use Rattle.order_core.proofs.WaveLists.{rank_below_count, count_le_length}
use Rattle.std.proofs.lemmas.Bool.{cases_lt}
use Rattle.std.proofs.lemmas.List.{take-append-le, take_all, get_or_past, get_or_default, get_or-set_other, get_or-set_same}
use Rattle.std.proofs.lemmas.List.Elements.{Contains-get_or}
use Rattle.igp_theory.specs.Changes.{Change, first, second}
use Rattle.igp_theory.specs.Phases.{State, all_old, state_in}
use Rattle.igp_theory.specs.Timetables.{Timetable, router_times, state_before}
use Rattle.igp_theory.specs.declared.phase.Phase.{Phase}
use Rattle.loop_finder.specs.Times.{waves_of, times_in, phase_before}
use Rattle.loop_finder.specs.Parts.{ClassPart, part_hops}
use Rattle.loop_finder.specs.steps.Times.{IsMovedFrom, AreMovedFrom}
use Rattle.loop_finder.specs.declared.times.ChangeWaves.{ChangeWaves}

-- a list whose elements are written anew is the new one
pub written : {A : Type 0} (n : ℕ) (new old : List A) → length new ≡ n → take n (new ++ drop (length new) old) ≡ new
written n new old many = let within : n ≤ length new = omega (arith, many) in rw take-append-le (take_all n new (omega (arith, many)))

-- what is read of a list of waves
pub read_waves : (times : List ChangeWaves) (u : ℕ) → u < length times → get_or times u (record { first = 0; second = 0 }) ≡ waves_of times u
read_waves times u within = get_or_default times u (record { first = 0; second = 0 }) (record { first = 1; second = 1 }) within

-- waves that are found to be equal are one
pub waves_same : (one other : ChangeWaves) → true ≡ (one.first == other.first) && (one.second == other.second) → one ≡ other
waves_same one other told =
    let both = by_and (one.first == other.first) (one.second == other.second) (sym told) in
    ap (λ (n : ℕ). record { first = n; second = one.second }) (eqb-true one.first other.first both.0)
    ∙ ap (λ (n : ℕ). record { first = other.first; second = n }) (eqb-true one.second other.second both.1)
  where
    by_and : (a b : Bool) → (a && b) ≡ true → (a ≡ true) × (b ≡ true)
    by_and true true is = (refl, refl)
    by_and true false is = absurd (false≢true is)
    by_and false b is = absurd (false≢true is)

-- before the waves that changes moved from and to

before_moved : (least v was now : ℕ) → IsMovedFrom least was now → v ≤ least → ltb now v ≡ ltb was v
before_moved least v was now it_4 upto = grind (arith, common_steps, le-ltb)

-- a router has its phases
pub phase_moved : (least v : ℕ) (was now : ChangeWaves) → AreMovedFrom least was now → v ≤ least → phase_before now v ≡ phase_before was v
phase_moved least v was now moved upto = grind (arith, common_steps, before_moved)

-- and its changes
wave_was : (least v was now : ℕ) → IsMovedFrom least was now → v < least → now ≡ v → was ≡ v
wave_was least v was now it_4 less is = grind (arith, common_steps)

pub wave_moved : (least v : ℕ) (was now : ChangeWaves) → AreMovedFrom least was now → v < least → (now.first ≡ v) ⊎ (now.second ≡ v) →
    (was.first ≡ v) ⊎ (was.second ≡ v)
wave_moved least v was now moved less it_6 = grind (arith, common_steps, wave_was)

-- where a router makes no change in a wave, it stays in its phase

ltb_apart : (a w : ℕ) → (¬ (a ≡ w)) → ltb a (w + 1) ≡ ltb a w
ltb_apart a w apart = grind (arith, common_steps, cases_lt, le-ltb, lt-ltb)

phase_stays : (waves : ChangeWaves) (w : ℕ) → (¬ ((waves.first ≡ w) ⊎ (waves.second ≡ w))) → phase_before waves (w + 1) ≡ phase_before waves w
phase_stays waves w apart = grind (arith, common_steps, ltb_apart)

-- the hops of a part in which a router begins and ends a wave are its steps in the wave
pub begins_and_ends : (part : ClassPart) (waves : ChangeWaves) (w u h : ℕ) (begins ends : List ℕ) → begins ≡ part_hops part u (phase_before waves w) →
    ends ≡ part_hops part u (phase_before waves (w + 1)) → (Contains begins h ⊎ Contains ends h)
    ↔ (Contains (part_hops part u (phase_before waves w)) h ⊎ Contains (part_hops part u (phase_before waves (w + 1))) h)
begins_and_ends part waves w u h begins ends is_one is_other = (
  λ hops. elim hops [ inl one ↦ inl (subst In is_one one) | inr other ↦ inr (subst In is_other other) ],
  λ hops. elim hops [ inl one ↦ inl (subst In (sym is_one) one) | inr other ↦ inr (subst In (sym is_other) other) ],
)
  where
    In : List ℕ → Type 0
    In hops = Contains hops h

-- where it makes no change in it, those of its one phase are
pub begins_alone : (part : ClassPart) (waves : ChangeWaves) (w u h : ℕ) (begins : List ℕ) → begins ≡ part_hops part u (phase_before waves w) →
    (¬ ((waves.first ≡ w) ⊎ (waves.second ≡ w))) → (Contains begins h ⊎ Contains [] h)
    ↔ (Contains (part_hops part u (phase_before waves w)) h ⊎ Contains (part_hops part u (phase_before waves (w + 1))) h)
begins_alone part waves w u h begins is apart = (
  λ hops. elim hops [ inl one ↦ inl (subst In is one) | inr none ↦ absurd (Contains-none h none) ],
  λ hops. elim hops [
    | inl one ↦ inl (subst In (sym is) one)
    | inr other ↦ inl (subst In (sym is) (subst (λ (phase : Phase). In (part_hops part u phase)) (phase_stays waves w apart) other))
  ],
)
  where
    In : List ℕ → Type 0
    In hops = Contains hops h

-- the phases of the first n routers in a state
pub record Listed (n : ℕ) (state : State) : Type 0 where
  pub phases : List Phase
  pub each : (u : ℕ) → u < n → state_in phases u ≡ state u

listed_more : (n : ℕ) (state : State) → Listed n (λ u. state (suc u)) → Listed (suc n) state
listed_more n state rest = record { phases = state 0 ∷ rest.phases; each = each }
  where
    each : (u : ℕ) → u < suc n → state_in (state 0 ∷ rest.phases) u ≡ state u
    each zero within = refl
    each (suc u) within = rest.each u (omega (arith, within))

pub listed : (n : ℕ) (state : State) → Listed n state
listed zero state = record { phases = []; each = λ u within. absurd (omega (arith, within)) }
listed (suc n) state = listed_more n state (listed n (λ u. state (suc u)))

-- Ranked routers

-- the number of a router's wave is at most the count of the routers, or 1
pub rank_fits : (n : ℕ) (ranks : List ℕ) (u : ℕ) → IsRanking n ranks → n < 2 ^ 32 → rank_of ranks u + 1 < 2 ^ 32
rank_fits n ranks u ranking few = elim (cases_lt u (length ranks)) [
  | inl within ↦
      let count = rank_below_count ranks (rank_of ranks u) (Contains-get_or ranks u 0 within) in
      omega (arith, count, count_le_length n ranks ranking, few)
  | inr past ↦ let none : rank_of ranks u ≡ 0 = get_or_past ranks u 0 past in omega (arith, none)
]

-- where each router has both changes in the wave of its rank, the timetable is that of the ranks
pub times_of_ranks : (times : List ChangeWaves) (ranks : List ℕ) → length times ≡ length ranks →
    ((u : ℕ) → u < length ranks → waves_of times u ≡ record { first = rank_of ranks u + 1; second = rank_of ranks u + 1 }) →
    times_in times ≡ router_times all_old ranks
times_of_ranks times ranks many each = λ i c. same c i
  where
    waves : (u : ℕ) → waves_of times u ≡ record { first = rank_of ranks u + 1; second = rank_of ranks u + 1 }
    waves u = elim (cases_lt u (length ranks)) [
      | inl within ↦ each u within
      | inr past ↦
          let none : rank_of ranks u ≡ 0 = get_or_past ranks u 0 past in
          get_or_past times u (record { first = 1; second = 1 }) (omega (arith, past, many))
          ∙ ap (λ (w : ℕ). record { first = w + 1; second = w + 1 }) (sym none)
    ]

    same : (c : Change) → times_in times c ≡ router_times all_old ranks c
    same (first u) = ap (λ (w : ChangeWaves). w.first) (waves u)
    same (second u) = ap (λ (w : ChangeWaves). w.second) (waves u)

-- a router more has them
pub ranked_more : (times : List ChangeWaves) (ranks : List ℕ) (n : ℕ) → n < length times →
    ((u : ℕ) → u < n → waves_of times u ≡ record { first = rank_of ranks u + 1; second = rank_of ranks u + 1 }) →
    (u : ℕ) → u < n + 1 → waves_of (set times n (record { first = rank_of ranks n + 1; second = rank_of ranks n + 1 })) u
    ≡ record { first = rank_of ranks u + 1; second = rank_of ranks u + 1 }
ranked_more times ranks n within before = grind (arith, common_steps, get_or-set_other, get_or-set_same)

-- the phases of a router more are written
pub phases_more : (time : Timetable) (w n : ℕ) (phases : List Phase) (phase : Phase) → n < length phases → phase ≡ state_before time w n →
    ((u : ℕ) → u < n → state_in phases u ≡ state_before time w u) → (u : ℕ) → u < n + 1 → state_in (set phases n phase) u ≡ state_before time w u
phases_more time w n phases phase within is before = grind (arith, common_steps, get_or-set_other, get_or-set_same, phases)
