-- A change that may not stand one wave earlier has a reason, and with a reason it may stand in no earlier wave.
use Rattle.std.proofs.Common.{◌≡◌, ◌≢◌, ℕ, ◌+◌, ◌-◌, ◌<◌, ◌≤◌, inl, inr, List, length, map, All, Contains}
use Rattle.std.proofs.Common.{refl, sym, ap, ◌∙◌, subst, arith}
use Rattle.std.specs.List.{AllPairs}
use Rattle.std.proofs.lemmas.Bool.{cases_lt, cases_eq}
use Rattle.std.proofs.lemmas.List.{get_or-set_same, get_or-set_other, get_or_past, length-set}
use Rattle.std.proofs.lemmas.List.Elements.{Contains-get_or}
use Rattle.order_core.specs.Rankings.{rank_of, wave_count}
use Rattle.order_core.specs.Turns.{old_routers, new_routers, HasBothTags}
use Rattle.order_core.specs.declared.turn.Tag.TheVariants as tag
use Rattle.order_core.specs.declared.turn.Turn.{Turn}
use Rattle.order_core.proofs.WaveLists.{rank_below_count}
use Rattle.igp_theory.specs.Changes.{first, second}
use Rattle.igp_theory.specs.LoopLaws.{AreSoundEnds, BeginsOld}
use Rattle.igp_theory.specs.Loops.{Fault, loop, IsLoop}
use Rattle.igp_theory.specs.Migrations.{Migration}
use Rattle.igp_theory.specs.States.{IsSound}
use Rattle.igp_theory.specs.TimetableLaws.{ArisesInWave, GoesRound, IsLoopOfWave, SwitchesSomeOldFirst}
use Rattle.igp_theory.specs.Timetables.{IsSoundThroughout, IsTimetable, change_number, change_times, state_before}
use Rattle.igp_theory.specs.WaveFaults.{IsTimesFault}
use Rattle.igp_theory.proofs.AlikeStates.{sound_alike}
use Rattle.igp_theory.proofs.LoopLaws.{old_turn, new_turn, old_listed, new_listed}
use Rattle.igp_theory.proofs.LoopsDecide.{new_upto, old_from, sound_switches_old_first, times_fault_between_ends}
use Rattle.igp_theory.proofs.Rings.{one_turn}
use Rattle.igp_theory.proofs.TimetableStates.{wave_is_reached}
use Rattle.igp_theory.proofs.Timetables.{before_new, before_old, first_of_wave}
use Rattle.igp_theory.proofs.WaveLoops.{goes_round}
use Rattle.plan_theory.specs.Ranked.{Ranked, changes_ranked}
use Rattle.plan_theory.proofs.ChangesServe.{changes_serve}
use Rattle.plan_theory.proofs.ItemNumbers.{at, both_in_map, both_of_map, new_in_ring, new_number, numbers_distinct, old_in_ring, old_number, ring_switched}
use Rattle.plan_theory.proofs.ItemNumbers.{wave_at, wave_of_number}
use Rattle.plan_theory.proofs.Serving.{Serves}
use Rattle.explained_waves.specs.Reasons.{one_earlier, reranked}
use Rattle.explained_changes.specs.ChangeReasons.{AreSoundChanges, ChangeMayBeEarlier, IsBehindFirst, IsChangeReason}

-- Ranks

module _ (ranks : List ℕ) (i rank : ℕ) where
  pub reranked_other : (k : ℕ) → k ≢ i → rank_of (reranked ranks i rank) k ≡ rank_of ranks k
  reranked_other k other = get_or-set_other ranks i k rank 0 other

  pub reranked_there : rank ≤ rank_of ranks i → rank_of (reranked ranks i rank) i ≡ rank
  reranked_there upto = elim (cases_lt i (length ranks)) [
    | inl within ↦ get_or-set_same ranks i rank 0 within
    | inr past ↦
        let none = get_or_past ranks i 0 past in
        let still = get_or_past (reranked ranks i rank) i 0 (omega (arith, past, length-set ranks i rank)) in
        omega (arith, none, still, upto)
  ]

rank_below : (ranks : List ℕ) (k : ℕ) → rank_of ranks k < wave_count ranks + 1
rank_below ranks k = elim (cases_lt k (length ranks)) [
  | inl within ↦ let below = rank_below_count ranks (rank_of ranks k) (Contains-get_or ranks k 0 within) in omega (arith, below)
  | inr past ↦ let none = get_or_past ranks k 0 past in omega (arith, none)
]

-- a number has one tag
tags_apart : (turns : List Turn) (j k : ℕ) → AllPairs (λ (r s : Turn). r.router ≢ s.router) turns → Contains (old_routers turns) j →
    Contains (new_routers turns) k → j ≢ k
tags_apart turns j k distinct old new same =
    let one = old_turn turns j old in
    let other = new_turn turns k new in
    let the_same : one.turn ≡ other.turn = one_turn turns one.turn other.turn distinct one.among other.among
    (one.router ∙ same ∙ sym other.router) in
    old_is_not_new (sym one.tagged ∙ ap (λ (t : Turn). t.tag) the_same ∙ other.tagged)
  where
    old_is_not_new : tag.Old ≡ tag.New → ⊥
    old_is_not_new same = cc

-- Whatever is ranked

-- what a loop says of number i, by its turns
record MakesWait (ranks : List ℕ) (i : ℕ) (turns : List Turn) : Type 0 where
  is_new : Contains (new_routers turns) i
  after : ℕ
  is_old : Contains (old_routers turns) after
  just_before : rank_of ranks after + 1 ≡ rank_of ranks i
  none_earlier : (k : ℕ) → Contains (old_routers turns) k → rank_of ranks i ≤ rank_of ranks k + 1

module _ (move : Migration) (r : Ranked) (serves : Serves move r) (ranks : List ℕ) (i : ℕ)
    (earlier_table : IsTimetable (length move.net) move.start (r.times (one_earlier ranks i))) where
  module _ (a : ℕ) (turns : List Turn) (named : All (r.names a) turns) (is : IsLoop move a (map (at move r serves) turns)) where
    module _ (w : ℕ) (one : 1 ≤ w) (arises : ArisesInWave move (r.times (one_earlier ranks i)) w a (map (at move r serves) turns)) where
      round : GoesRound move (r.times (one_earlier ranks i)) a w (map (at move r serves) turns)
      round = goes_round move (r.times (one_earlier ranks i)) earlier_table w a (map (at move r serves) turns) arises

      -- round the wave no Old number is ranked before it, nor a New one behind it
      old_after : (k : ℕ) → Contains (old_routers turns) k → w ≤ rank_of (one_earlier ranks i) k + 1
      old_after k inside =
          let turn = old_turn turns k inside in
          let from = old_from move (r.times (one_earlier ranks i)) a (map (at move r serves) turns)
          (wave_at move r serves a turns named (one_earlier ranks i) earlier_table)
          (ring_switched move r serves a turns named (one_earlier ranks i) earlier_table is.tags) w one round
          (serves.router turn.turn.router) (old_in_ring move r serves a turns named turn.turn turn.among turn.tagged) in
          let wave = wave_of_number move r serves a turns named (one_earlier ranks i) earlier_table turn.turn turn.among in
          let number = ap (rank_of (one_earlier ranks i)) turn.router in
          omega (arith, from, wave, number)

      new_before : (k : ℕ) → Contains (new_routers turns) k → rank_of (one_earlier ranks i) k + 1 ≤ w
      new_before k inside =
          let turn = new_turn turns k inside in
          let upto = new_upto move (r.times (one_earlier ranks i)) a (map (at move r serves) turns)
          (wave_at move r serves a turns named (one_earlier ranks i) earlier_table)
          (ring_switched move r serves a turns named (one_earlier ranks i) earlier_table is.tags) w one round
          (serves.router turn.turn.router) (new_in_ring move r serves a turns named turn.turn turn.among turn.tagged) in
          let wave = wave_of_number move r serves a turns named (one_earlier ranks i) earlier_table turn.turn turn.among in
          let number = ap (rank_of (one_earlier ranks i)) turn.router in
          omega (arith, upto, wave, number)

    -- a list that a migration is sound throughout ranks some Old number before some New one
    record RanksOldFirst (some : List ℕ) : Type 0 where
      old : ℕ
      new : ℕ
      is_old : Contains (old_routers turns) old
      is_new : Contains (new_routers turns) new
      earlier : rank_of some old < rank_of some new

    old_first : (some : List ℕ) → HasBothTags turns → IsSoundThroughout move (r.times some) → RanksOldFirst some
    old_first some both sound =
        let first : SwitchesSomeOldFirst (wave_at move r serves a turns named some sound.table) (map (at move r serves) turns) =
        sound_switches_old_first move (r.times some) a (map (at move r serves) turns)
        (wave_at move r serves a turns named some sound.table) sound is
        (both_in_map (at move r serves) (λ t. refl) turns both) (ring_switched move r serves a turns named some sound.table is.tags) in
        let old = old_number move r serves a turns named first.old first.is_old in
        let new = new_number move r serves a turns named first.new first.is_new in
        let earlier = first.earlier in
        let one = ap (rank_of some) old.number in
        let other = ap (rank_of some) new.number in
        record {
          old = old.turn.router;
          new = new.turn.router;
          is_old = old_listed turns old.turn old.among old.tagged;
          is_new = new_listed turns new.turn new.among new.tagged;
          earlier = omega (arith, earlier, one, other);
        }

    -- with number i one wave earlier it makes i wait, and it arises in the wave before i's own
    waits : (w : ℕ) → 1 ≤ w → HasBothTags turns → IsSoundThroughout move (r.times ranks) →
        ArisesInWave move (r.times (one_earlier ranks i)) w a (map (at move r serves) turns) →
        (w ≡ rank_of ranks i) × MakesWait ranks i turns
    waits w one both sound arises =
        let first = old_first ranks both sound in
        let earlier = first.earlier in
        let from = old_after w one arises first.old first.is_old in
        let upto = new_before w one arises first.new first.is_new in
        let there = reranked_there ranks i (rank_of ranks i - 1) (omega arith) in
        let apart = tags_apart turns first.old first.new (numbers_distinct move r serves a turns named is.distinct) first.is_old first.is_new in
        elim (cases_eq first.new i) [
          | inr other ↦
              let stays = reranked_other ranks i (rank_of ranks i - 1) first.new other in
              elim (cases_eq first.old i) [
                | inl same ↦
                    let was = ap (rank_of ranks) same in
                    let is_there = ap (rank_of (one_earlier ranks i)) same in
                    absurd (omega (arith, earlier, from, upto, stays, was, is_there, there))
                | inr also ↦
                    let kept = reranked_other ranks i (rank_of ranks i - 1) first.old also in
                    absurd (omega (arith, earlier, from, upto, stays, kept))
              ]
          | inl same ↦
              let kept = reranked_other ranks i (rank_of ranks i - 1) first.old (λ e. apart (e ∙ sym same)) in
              let was = ap (rank_of ranks) same in
              let is_there = ap (rank_of (one_earlier ranks i)) same in
              let wave : w ≡ rank_of ranks i = omega (arith, earlier, from, upto, kept, was, is_there, there) in (
                wave,
                record {
                  is_new = subst (Contains (new_routers turns)) same first.is_new;
                  after = first.old;
                  is_old = first.is_old;
                  just_before = omega (arith, earlier, from, kept, was, wave);
                  none_earlier = λ k inside. elim (cases_eq k i) [
                    | inl equal ↦ let e = ap (rank_of ranks) equal in omega (arith, e)
                    | inr apart ↦
                        let late = old_after w one arises k inside in
                        let still = reranked_other ranks i (rank_of ranks i - 1) k apart in
                        omega (arith, late, still, wave)
                  ];
                },
              )
        ]

    -- where it makes number i wait i may stand in no earlier wave
    forbids : (rank : ℕ) → rank < rank_of ranks i → MakesWait ranks i turns →
        ArisesInWave move (r.times (one_earlier ranks i)) (rank_of ranks i) a (map (at move r serves) turns) →
        ¬ IsSoundThroughout move (r.times (reranked ranks i rank))
    forbids rank lower wait arises sound =
        let an_old = wait.is_old.1 in
        let a_new = wait.is_new.1 in
        let first = old_first (reranked ranks i rank) (record { old = omega (arith, an_old); new = omega (arith, a_new) }) sound in
        let earlier = first.earlier in
        let late = wait.none_earlier first.old first.is_old in
        let old_stays = reranked_other ranks i rank first.old
        (tags_apart turns first.old i (numbers_distinct move r serves a turns named is.distinct) first.is_old wait.is_new) in
        elim (cases_eq first.new i) [
          | inl same ↦
              let there = reranked_there ranks i rank (omega (arith, lower)) in
              let is_there = ap (rank_of (reranked ranks i rank)) same in
              omega (arith, late, old_stays, earlier, there, is_there, lower)
          | inr other ↦
              let new_stays = reranked_other ranks i rank first.new other in
              let also = reranked_other ranks i (rank_of ranks i - 1) first.new other in
              let upto = new_before (rank_of ranks i) (omega (arith, lower)) arises first.new first.is_new in
              omega (arith, late, old_stays, earlier, new_stays, also, upto)
        ]

-- Single changes

-- one wave earlier a change that is behind its router's first comes no earlier than that
earlier_in_order : (ranks : List ℕ) (i u : ℕ) → change_times ranks (first u) ≤ change_times ranks (second u) → IsBehindFirst ranks i →
    change_times (one_earlier ranks i) (first u) ≤ change_times (one_earlier ranks i) (second u)
earlier_in_order ranks i u before behind =
    let there = reranked_there ranks i (rank_of ranks i - 1) (omega arith) in
    elim (cases_eq (change_number (second u)) i) [
      | inl same ↦
          let less = behind u (sym same) in
          let stays = reranked_other ranks i (rank_of ranks i - 1) (change_number (first u)) (λ e. omega (arith, e, same)) in
          let is_there = ap (rank_of (one_earlier ranks i)) same in
          omega (arith, less, stays, there, is_there)
      | inr other ↦
          let stays = reranked_other ranks i (rank_of ranks i - 1) (change_number (second u)) other in
          elim (cases_eq (change_number (first u)) i) [
            | inl same ↦
                let was = ap (rank_of ranks) same in
                let is_there = ap (rank_of (one_earlier ranks i)) same in
                omega (arith, before, stays, there, was, is_there)
            | inr also ↦
                let kept = reranked_other ranks i (rank_of ranks i - 1) (change_number (first u)) also in
                omega (arith, before, stays, kept)
          ]
    ]

pub earlier_has_times : (move : Migration) → BeginsOld move → (ranks : List ℕ) (i : ℕ) →
    IsTimetable (length move.net) move.start (change_times ranks) → IsBehindFirst ranks i →
    IsTimetable (length move.net) move.start (change_times (one_earlier ranks i))
earlier_has_times move begins ranks i table behind = record {
  in_order = λ u. earlier_in_order ranks i u (table.in_order u) behind;
  begins = λ u below. before_old (change_times (one_earlier ranks i)) 1 u (omega arith) (omega arith) ∙ sym (begins u);
}

module _ (move : Migration) (begins : BeginsOld move) (ranks : List ℕ) where
  begin_is_sound : AreSoundChanges move ranks → (w : ℕ) → 1 ≤ w → IsSound move (state_before (change_times ranks) w)
  begin_is_sound sound w one = sound.sound (state_before (change_times ranks) w)
      (wave_is_reached sound.table (state_before (change_times ranks) w)
      (record { wave = w; from_one = one; of_wave = first_of_wave sound.table w }))

  sound_ends : AreSoundChanges move ranks → AreSoundEnds move
  sound_ends sound = record {
    first = sound_alike sound.table.begins (begin_is_sound sound 1 (omega arith));
    last = sound_alike (λ u below. before_new (change_times ranks) (wave_count ranks + 2) u
        (let last = rank_below ranks (change_number (second u)) in omega (arith, last)))
        (begin_is_sound sound (wave_count ranks + 2) (omega arith));
  }

  module _ (i : ℕ) where
    forbids_with : (a rank : ℕ) (turns : List Turn) → IsTimetable (length move.net) move.start (change_times (one_earlier ranks i)) →
        IsChangeReason move ranks i a turns → rank < rank_of ranks i → ¬ AreSoundChanges move (reranked ranks i rank)
    forbids_with a rank turns table reason lower =
        let serves : Serves move (changes_ranked move) = changes_serve move begins in
        forbids move (changes_ranked move) serves ranks i table a turns reason.loops.named
        (subst (IsLoop move a) (serves.ring_is turns) reason.loops.is_loop) rank lower (record {
          is_new = reason.is_new;
          after = reason.after;
          is_old = reason.is_old;
          just_before = reason.just_before;
          none_earlier = reason.none_earlier;
        })
        (subst (λ (l : List Turn). ArisesInWave move (change_times (one_earlier ranks i)) (rank_of ranks i) a l) (serves.ring_is turns)
        reason.arises)

    -- a list with the change one wave earlier that a migration is sound throughout has its timetable
    pub forbids_one : (a : ℕ) (turns : List Turn) → IsChangeReason move ranks i a turns → ¬ ChangeMayBeEarlier move ranks i
    forbids_one a turns reason sound =
        let before = reason.just_before in
        forbids_with a (rank_of ranks i - 1) turns sound.table reason (omega (arith, before)) sound

  module _ (i : ℕ) (sound : AreSoundChanges move ranks) (behind : IsBehindFirst ranks i) where
    has_times : IsTimetable (length move.net) move.start (change_times (one_earlier ranks i))
    has_times = earlier_has_times move begins ranks i sound.table behind

    pub fault_of_loop : (w : ℕ) (fault : Fault) → IsTimesFault move (change_times (one_earlier ranks i)) w fault →
        IsLoopOfWave move (change_times (one_earlier ranks i)) w fault
    fault_of_loop w fault is = times_fault_between_ends move (change_times (one_earlier ranks i)) (sound_ends sound) has_times w fault is

    reason_of : (w a : ℕ) (turns : List Turn) → All ((changes_ranked move).names a) turns → 1 ≤ w →
        (b : ℕ) (ring : List Turn) → b ≡ a → ring ≡ (changes_ranked move).ring turns → IsLoop move b ring → HasBothTags ring →
        ArisesInWave move (change_times (one_earlier ranks i)) w b ring → (w ≡ rank_of ranks i) × IsChangeReason move ranks i a turns
    reason_of w a turns named one b ring address same is both arises =
        let serves : Serves move (changes_ranked move) = changes_serve move begins in
        let routers : ring ≡ map (at move (changes_ranked move) serves) turns = same ∙ serves.ring_is turns in
        let is_loop : IsLoop move a ring = subst (λ (x : ℕ). IsLoop move x ring) address is in
        let there : ArisesInWave move (change_times (one_earlier ranks i)) w a ring =
        subst (λ (x : ℕ). ArisesInWave move (change_times (one_earlier ranks i)) w x ring) address arises in
        let waiting = waits move (changes_ranked move) serves ranks i has_times a turns named (subst (IsLoop move a) routers is_loop) w one
        (both_of_map (at move (changes_ranked move) serves) (λ t. refl) turns (subst HasBothTags routers both)) sound
        (subst (λ (l : List Turn). ArisesInWave move (change_times (one_earlier ranks i)) w a l) routers there) in (
          waiting.0,
          record {
            loops = record { is_loop = subst (IsLoop move a) same is_loop; named = named };
            arises = subst (λ (k : ℕ). ArisesInWave move (change_times (one_earlier ranks i)) k a ((changes_ranked move).ring turns)) waiting.0
                (subst (λ (l : List Turn). ArisesInWave move (change_times (one_earlier ranks i)) w a l) same there);
            is_new = waiting.1.is_new;
            after = waiting.1.after;
            is_old = waiting.1.is_old;
            just_before = waiting.1.just_before;
            none_earlier = waiting.1.none_earlier;
          },
        )

    pub fault_reason : (w a : ℕ) (turns : List Turn) → All ((changes_ranked move).names a) turns →
        IsTimesFault move (change_times (one_earlier ranks i)) w (loop a ((changes_ranked move).ring turns)) →
        (w ≡ rank_of ranks i) × IsChangeReason move ranks i a turns
    fault_reason w a turns named is =
        let told = fault_of_loop w (loop a ((changes_ranked move).ring turns)) is in
        reason_of w a turns named is.from_one told.address told.ring (same_address told.is) (same_ring told.is) told.is_loop told.both told.arises
      where
        same_address : {c b : ℕ} {xs ys : List Turn} → loop c xs ≡ loop b ys → b ≡ c
        same_address same = cc

        same_ring : {c b : ℕ} {xs ys : List Turn} → loop c xs ≡ loop b ys → ys ≡ xs
        same_ring same = cc

    pub forbids_earlier : (a rank : ℕ) (turns : List Turn) → IsChangeReason move ranks i a turns → rank < rank_of ranks i →
        ¬ AreSoundChanges move (reranked ranks i rank)
    forbids_earlier a rank turns reason lower = forbids_with i a rank turns has_times reason lower
