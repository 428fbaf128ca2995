-- What the finder tells of a list with a single change one wave earlier.
use Rattle.std.proofs.Common.{◌≡◌, ℕ, ◌+◌, ◌*◌, ◌-◌, ◌/◌, ◌%◌, ◌^◌, ◌<◌, ◌≤◌, ◌↔◌, List, All, Contains, length, arith, ap, refl, subst, sym}
use Rattle.std.proofs.Common.{Option, None, Some, IfNone, IfSome, IsNone}
use Rattle.igp_theory.specs.Forwarding.{MustForward}
use Rattle.igp_theory.specs.LoopLaws.{BeginsOld}
use Rattle.igp_theory.specs.Loops.{Fault as WholeFault, IsLoop, loop, missing}
use Rattle.igp_theory.specs.Migrations.{Migration, started}
use Rattle.igp_theory.specs.Phases.{state_in}
use Rattle.igp_theory.specs.TimetableLaws.{IsLoopOfWave}
use Rattle.igp_theory.specs.Timetables.{IsSoundThroughout, IsTimetable, Timetable, change_times}
use Rattle.igp_theory.specs.WaveFaults.{IsTimesFault}
use Rattle.igp_theory.proofs.LoopLaws.{loop_inside}
use Rattle.loop_finder.specs.Faults.{Finding, searched, told, told_fault}
use Rattle.loop_finder.specs.Mixes.{Listing}
use Rattle.loop_finder.specs.Times.{times_in}
use Rattle.loop_finder.specs.declared.fault.Fault.{Fault}
use Rattle.loop_finder.specs.declared.times.ChangeWaves.{ChangeWaves}
use Rattle.order_core.specs.Rankings.{rank_of}
use Rattle.order_core.specs.Turns.{old_routers}
use Rattle.order_core.specs.declared.turn.Turn.{Turn}
use Rattle.plan_theory.specs.Numbers.{AreNumbered}
use Rattle.plan_theory.specs.Ranked.{changes_ranked}
use Rattle.plan_theory.specs.declared.items.Items.TheVariants.{Changes}
use Rattle.plan_theory.proofs.NumberedTurns.{turns_must}
use Rattle.rib_mix.specs.Mixture.{migration_of}
use Rattle.change_orders.specs.TwoFiles.{AreTwoWaves}
use Rattle.explained_waves.specs.Reasons.{one_earlier}
use Rattle.explained_texts.specs.AskedLists.{AskedList}
use Rattle.explained_texts.proofs.ReasonLines.{few_ranks}
use Rattle.explained_changes.specs.ChangeReasons.{ChangeMayBeEarlier, IsBehindFirst, IsChangeReason}
use Rattle.explained_changes.specs.ChangeReasonTexts.{IsRightBehind, KeepsChangeLater}
use Rattle.explained_changes.specs.steps.Asked.{AreChangesAsked, HasFaultEarlier, IsAskable, IsSafeList}
use Rattle.explained_changes.proofs.ChangeReasons.{earlier_has_times, fault_of_loop, fault_reason}

-- ---- the ranks of the list ----

-- a second change stands behind its router's first
pub is_behind : (n : ℕ) (ranks : List ℕ) (i : ℕ) → AreTwoWaves n ranks → i < length ranks → IsBehindFirst ranks i
is_behind n ranks i are within u number =
    let many = are.ranking.each in
    let turn = are.in_turn u (omega (arith, within, number, many)) in
    let twice : u + u ≡ 2 * u = omega arith in
    let odd : i ≡ 2 * u + 1 = omega (arith, number) in
    let one = ap (rank_of ranks) twice in
    let other = ap (rank_of ranks) odd in
    omega (arith, turn, one, other)

pub few_waves : (n : ℕ) (ranks : List ℕ) → n ≤ 1000 → AreTwoWaves n ranks → (k : ℕ) → rank_of ranks k + 1 < 2 ^ 32
few_waves n ranks few are =
    let many = are.ranking.each in
    few_ranks (2 * n) ranks (omega (arith, few, many)) are.ranking

-- ---- right behind the router's first change ----

module _ (ranks : List ℕ) (i : ℕ) where
  pub right_behind : i % 2 ≡ 1 → rank_of ranks (i - 1) + 1 ≡ rank_of ranks i → IsRightBehind ranks i
  right_behind odd before =
      let halves : i / 2 + i / 2 ≡ i - 1 = omega (arith, odd) in
      let same = ap (rank_of ranks) halves in
      record { router = i / 2; number = omega (arith, odd); just_before = omega (arith, same, before) }

  pub behind_is_odd : IsRightBehind ranks i → i % 2 ≡ 1
  behind_is_odd behind = let number = behind.number in omega (arith, number)

  pub behind_is_before : IsRightBehind ranks i → rank_of ranks (i - 1) + 1 ≡ rank_of ranks i
  behind_is_before behind =
      let number = behind.number in
      let first_is : i - 1 ≡ behind.router + behind.router = omega (arith, number) in
      let same = ap (rank_of ranks) first_is in
      let before = behind.just_before in
      omega (arith, same, before)

-- ---- what is searched ----

module _ {O N : Type 0} (old : Listing O) (new : Listing N) (list : AskedList O N) (finding : Finding O N) (room : ℕ)
    (asked : AreChangesAsked old new list finding room) (times : List ChangeWaves) (i : ℕ) (askable : IsAskable list.ranks i)
    (are : times_in times ≡ change_times (one_earlier list.ranks i)) where
  abbrev move : Migration
  move = migration_of old new list.mixture

  same_search : searched old new finding ≡ move
  same_search = λ k. started (asked.start_is k) (migration_of old new (asked.mixture_is k))

  pub have_table : IsTimetable (length finding.mixture.net) (state_in finding.start) (times_in times)
  have_table =
      subst (IsTimetable (length finding.mixture.net) (state_in finding.start)) (sym are)
      (subst (λ (m : Migration). IsTimetable (length m.net) m.start (change_times (one_earlier list.ranks i))) (sym same_search)
      (earlier_has_times move (λ u. refl) list.ranks i asked.safe.sound.table
      (is_behind (length move.net) list.ranks i asked.safe.waves askable.within)))

  free_earlier : IsSoundThroughout (searched old new finding) (times_in times) → ChangeMayBeEarlier move list.ranks i
  free_earlier sound =
      subst (IsSoundThroughout move) are (subst (λ (m : Migration). IsSoundThroughout m (times_in times)) same_search sound)

  kept_earlier : (w : ℕ) (fault : WholeFault) → IsTimesFault (searched old new finding) (times_in times) w fault →
      HasFaultEarlier move list.ranks i fault
  kept_earlier w fault is = record {
    wave = w;
    is_fault = subst (λ (time : Timetable). IsTimesFault move time w fault) are
        (subst (λ (m : Migration). IsTimesFault m (times_in times) w fault) same_search is);
  }

  -- what the finder answers: none, or the fault with the number of its wave
  pub free_told : (found : Option (ℕ × Fault)) → (IsNone found ↔ IsSoundThroughout (searched old new finding) (times_in times)) →
      IfNone (told found) (ChangeMayBeEarlier move list.ranks i)
  free_told None is = free_earlier (is.0 refl)
  free_told (Some found) is = tt

  pub kept_told : (found : Option (ℕ × Fault)) (ring : List Turn) →
      IfSome found (λ f. IsTimesFault (searched old new finding) (times_in times) f.0 (told_fault f.1 ring)) →
      IfSome (told found) (λ fault. HasFaultEarlier move list.ranks i (told_fault fault ring))
  kept_told None ring is = tt
  kept_told (Some found) ring is = kept_earlier found.0 (told_fault found.1 ring) is

-- ---- the fault of that list ----

module _ (move : Migration) (begins : BeginsOld move) (ranks : List ℕ) (i : ℕ) (safe : IsSafeList move ranks) (askable : IsAskable ranks i) where
  behind : IsBehindFirst ranks i
  behind = is_behind (length move.net) ranks i safe.waves askable.within

  told_loop : (fault : WholeFault) (is : HasFaultEarlier move ranks i fault) → IsLoopOfWave move (change_times (one_earlier ranks i)) is.wave fault
  told_loop fault is = fault_of_loop move begins ranks i safe.sound behind is.wave fault is.is_fault

  -- it is no missing step
  pub none_missing : (a u : ℕ) → ¬ HasFaultEarlier move ranks i (missing a u)
  none_missing a u is = Prim.cc (told_loop (missing a u) is).is

  module _ (a : ℕ) (ring : List Turn) (is : HasFaultEarlier move ranks i (loop a ring)) where
    of_wave : IsLoopOfWave move (change_times (one_earlier ranks i)) is.wave (loop a ring)
    of_wave = told_loop (loop a ring) is

    ring_is : of_wave.ring ≡ ring
    ring_is = let same = of_wave.is in cc

    address_is : of_wave.address ≡ a
    address_is = let same = of_wave.is in cc

    is_loop : IsLoop move a ring
    is_loop = subst (λ (l : List Turn). IsLoop move a l) ring_is (subst (λ b. IsLoop move b of_wave.ring) address_is of_wave.is_loop)

    -- a loop, whose routers pass packets on
    pub all_must : All (λ (turn : Turn). MustForward move.net a turn.router) ring
    all_must = turns_must move a ring is_loop.tags

    pub all_inside : All (λ (turn : Turn). turn.router < length move.net) ring
    all_inside = loop_inside move a ring is_loop

    -- told by the changes at which they switch it is a reason
    module _ (turns : List Turn) (numbered : AreNumbered Changes move a ring turns) where
      by_changes : IsTimesFault move (change_times (one_earlier ranks i)) is.wave (loop a ((changes_ranked move).ring turns))
      by_changes = subst (λ (l : List Turn). IsTimesFault move (change_times (one_earlier ranks i)) is.wave (loop a l)) (sym numbered.ring)
          is.is_fault

      reason : (is.wave ≡ rank_of ranks i) × IsChangeReason move ranks i a turns
      reason = fault_reason move begins ranks i safe.sound behind is.wave a turns numbered.named by_changes

      pub keeps_later : KeepsChangeLater move ranks i a turns
      keeps_later = record {
        told = subst (λ k. IsTimesFault move (change_times (one_earlier ranks i)) k (loop a ((changes_ranked move).ring turns))) reason.0
            by_changes;
        reason = reason.1;
      }

      pub some_before : (k : ℕ) × Contains (old_routers turns) k × (rank_of ranks k + 1 ≡ rank_of ranks i)
      some_before = (reason.1.after, reason.1.is_old, reason.1.just_before)
