-- A router that may not stand one wave earlier has a reason, and with a reason it may stand in no earlier wave.
use Rattle.std.proofs.Common.{◌≡◌, ◌≢◌, ℕ, ◌+◌, ◌-◌, ◌<◌, ◌≤◌, ◌⊎◌, inl, inr, List, [], ◌∷◌, length, Contains}
use Rattle.std.proofs.Common.{refl, sym, ap, ◌∙◌, subst, arith}
use Rattle.std.specs.List.{AllPairs}
use Rattle.std.proofs.lemmas.Bool.{cases_lt, cases_eq}
use Rattle.std.proofs.lemmas.List.{get_or-set_same, get_or-set_other, get_or_past, length-set}
use Rattle.std.proofs.lemmas.List.Elements.{Contains-get_or}
use Rattle.net_model.proofs.Members.{Contains-none, Contains-first, Contains-rest, Contains-cases}
use Rattle.order_core.specs.Rankings.{rank_of, wave_count}
use Rattle.order_core.specs.Turns.{old_routers, new_routers, HasBothTags}
use Rattle.order_core.specs.declared.turn.Tag.TheVariants as tag
use Rattle.order_core.specs.declared.turn.Turn.{Turn}
use Rattle.order_core.proofs.WaveLists.{rank_below_count}
use Rattle.igp_theory.specs.LoopLaws.{AreSoundEnds}
use Rattle.igp_theory.specs.Loops.{Fault, loop, IsLoop}
use Rattle.igp_theory.specs.Migrations.{Migration}
use Rattle.igp_theory.specs.States.{IsSound}
use Rattle.igp_theory.specs.TimetableLaws.{ArisesInWave, SwitchesIn, AreSwitched, SwitchesSomeOldFirst}
use Rattle.igp_theory.specs.TimetableLaws.{StandsRoundWave, IsLoopOfWave}
use Rattle.igp_theory.specs.Timetables.{Timetable, IsTimetable, router_times, state_before}
use Rattle.igp_theory.specs.WaveFaults.{IsTimesFault}
use Rattle.igp_theory.proofs.AlikeStates.{sound_alike}
use Rattle.igp_theory.proofs.LoopLaws.{old_turn, new_turn}
use Rattle.igp_theory.proofs.LoopsDecide.{sound_switches_old_first, old_first_is_sound, times_fault_between_ends}
use Rattle.igp_theory.proofs.LoopsDecide.{stands_round, arises_where}
use Rattle.igp_theory.proofs.Rings.{around_inside, one_turn}
use Rattle.igp_theory.proofs.Switches.{routers_have_times, router_switches, router_after}
use Rattle.igp_theory.proofs.Tags.{IsTagTo}
use Rattle.igp_theory.proofs.TimetableStates.{wave_is_reached}
use Rattle.igp_theory.proofs.Timetables.{first_of_wave}
use Rattle.explained_waves.specs.Reasons.{AreSoundRanks, reranked, one_earlier, MayBeEarlier, IsReason}

-- Ranks

module _ (ranks : List ℕ) (v rank : ℕ) where
  reranked_other : (u : ℕ) → u ≢ v → rank_of (reranked ranks v rank) u ≡ rank_of ranks u
  reranked_other u other = get_or-set_other ranks v u rank 0 other

  reranked_there : rank ≤ rank_of ranks v → rank_of (reranked ranks v rank) v ≡ rank
  reranked_there upto = elim (cases_lt v (length ranks)) [
    | inl within ↦ get_or-set_same ranks v rank 0 within
    | inr past ↦
        let none = get_or_past ranks v 0 past in
        let still = get_or_past (reranked ranks v rank) v 0 (omega (arith, past, length-set ranks v rank)) in
        omega (arith, none, still, upto)
  ]

  reranked_lower : rank ≤ rank_of ranks v → (u : ℕ) → rank_of (reranked ranks v rank) u ≤ rank_of ranks u
  reranked_lower upto u = elim (cases_eq u v) [
    | inl same ↦
        let there = reranked_there upto in
        let now = ap (rank_of (reranked ranks v rank)) same in
        let before = ap (rank_of ranks) same in
        omega (arith, there, now, before, upto)
    | inr other ↦ let still = reranked_other u other in omega (arith, still)
  ]

rank_below : (ranks : List ℕ) (u : ℕ) → rank_of ranks u < wave_count ranks + 1
rank_below ranks u = elim (cases_lt u (length ranks)) [
  | inl within ↦ let below = rank_below_count ranks (rank_of ranks u) (Contains-get_or ranks u 0 within) in omega (arith, below)
  | inr past ↦ let none = get_or_past ranks u 0 past in omega (arith, none)
]

-- one of some routers is of a rank below another, or none is
below_or_none : (rank : ℕ → ℕ) (least : ℕ) (routers : List ℕ) →
    ((u : ℕ) × Contains routers u × (rank u < least)) ⊎ ((u : ℕ) → Contains routers u → least ≤ rank u)
below_or_none rank least [] = inr (λ u inside. absurd (Contains-none u inside))
below_or_none rank least (x ∷ routers) = elim (cases_lt (rank x) least) [
  | inl below ↦ inl (x, Contains-first x routers, below)
  | inr from ↦ elim (below_or_none rank least routers) [
    | inl one ↦ inl (one.0, Contains-rest x routers one.0 one.1, one.2)
    | inr none ↦ inr (λ u inside. elim (Contains-cases x routers u inside) [
      | inl same ↦ subst (λ y. least ≤ rank y) same from
      | inr there ↦ none u there
    ])
  ]
]

-- The loops of a list

-- a router of a ring has one tag
tags_apart : (ring : List Turn) (u v : ℕ) → AllPairs (λ (r s : Turn). r.router ≢ s.router) ring → Contains (old_routers ring) u →
    Contains (new_routers ring) v → u ≢ v
tags_apart ring u v distinct old new same =
    let one = old_turn ring u old in
    let other = new_turn ring v new in
    let turns : one.turn ≡ other.turn = one_turn ring one.turn other.turn distinct one.among other.among
    (one.router ∙ same ∙ sym other.router) in
    old_is_not_new (sym one.tagged ∙ ap (λ (t : Turn). t.tag) turns ∙ other.tagged)
  where
    old_is_not_new : tag.Old ≡ tag.New → ⊥
    old_is_not_new same = cc

module _ (move : Migration) (ranks : List ℕ) where
  ring_switches : (a : ℕ) (ring : List Turn) → IsLoop move a ring →
      AreSwitched move (router_times move.start ranks) a (λ u. rank_of ranks u + 1) ring
  ring_switches a ring is = around_inside (IsTagTo move a)
      (λ (r s : Turn). SwitchesIn move (router_times move.start ranks) a r s.router (rank_of ranks r.router + 1)) ring
      (λ r s inside tagged. router_switches move ranks a r s.router tagged) is.tags

  module _ (sound : AreSoundRanks move ranks) where
    ranks_old_first : (a : ℕ) (ring : List Turn) → IsLoop move a ring → HasBothTags ring →
        SwitchesSomeOldFirst (λ u. rank_of ranks u + 1) ring
    ranks_old_first a ring is both = sound_switches_old_first move (router_times move.start ranks) a ring
        (λ u. rank_of ranks u + 1) sound is both (ring_switches a ring is)

    begin_is_sound : (w : ℕ) → 1 ≤ w → IsSound move (state_before (router_times move.start ranks) w)
    begin_is_sound w one = sound.sound (state_before (router_times move.start ranks) w)
        (wave_is_reached sound.table (state_before (router_times move.start ranks) w)
        (record { wave = w; from_one = one; of_wave = first_of_wave sound.table w }))

    sound_ends : AreSoundEnds move
    sound_ends = record {
      first = sound_alike sound.table.begins (begin_is_sound 1 (omega arith));
      last = sound_alike (λ u below. router_after move.start ranks u (wave_count ranks + 2) (move.start u) refl
          (let last = rank_below ranks u in omega (arith, last)))
          (begin_is_sound (wave_count ranks + 2) (omega arith));
    }

-- A reason forbids each earlier wave

pub forbids_earlier : (move : Migration) (ranks : List ℕ) (v rank : ℕ) (fault : Fault) → IsReason move ranks v fault →
    rank < rank_of ranks v → ¬ AreSoundRanks move (reranked ranks v rank)
forbids_earlier move ranks v rank fault reason lower sound =
    let is : IsLoop move reason.address reason.ring = reason.is_loop in
    let round : StandsRoundWave (one_earlier ranks v) (rank_of ranks v) reason.ring =
    stands_round move (one_earlier ranks v) (rank_of ranks v) reason.address reason.ring (omega (arith, lower)) is.tags
    reason.arises in
    let an_old = reason.is_old.1 in
    let a_new = reason.is_new.1 in
    let first : SwitchesSomeOldFirst (λ u. rank_of (reranked ranks v rank) u + 1) reason.ring =
    ranks_old_first move (reranked ranks v rank) sound reason.address reason.ring is
    (record { old = omega (arith, an_old); new = omega (arith, a_new) }) in
    let late = reason.none_earlier first.old first.is_old in
    let old_stays = reranked_other ranks v rank first.old
    (tags_apart reason.ring first.old v is.distinct first.is_old reason.is_new) in
    let earlier = first.earlier in
    elim (cases_eq first.new v) [
      | inl same ↦
          let there = reranked_there ranks v rank (omega (arith, lower)) in
          let is_there = ap (rank_of (reranked ranks v rank)) same in
          omega (arith, late, old_stays, earlier, there, is_there, lower)
      | inr other ↦
          let new_stays = reranked_other ranks v rank first.new other in
          let also = reranked_other ranks v (rank_of ranks v - 1) first.new other in
          let upto = round.new first.new first.is_new in
          omega (arith, late, old_stays, earlier, new_stays, also, upto, lower)
    ]

-- One wave earlier

module _ (move : Migration) (ranks : List ℕ) (v : ℕ) (sound : AreSoundRanks move ranks) where
  abbrev now : ℕ → ℕ
  now u = rank_of (one_earlier ranks v) u

  abbrev times : Timetable
  times = router_times move.start (one_earlier ranks v)

  have_times : IsTimetable (length move.net) move.start times
  have_times = routers_have_times (length move.net) move.start (one_earlier ranks v)

  not_raised : (u : ℕ) → now u ≤ rank_of ranks u
  not_raised = reranked_lower ranks v (rank_of ranks v - 1) (omega arith)

  others_stay : (u : ℕ) → u ≢ v → now u ≡ rank_of ranks u
  others_stay = reranked_other ranks v (rank_of ranks v - 1)

  stands_earlier : now v ≡ rank_of ranks v - 1
  stands_earlier = reranked_there ranks v (rank_of ranks v - 1) (omega arith)

  not_much_lower : (u : ℕ) → rank_of ranks u ≤ now u + 1
  not_much_lower u = elim (cases_eq u v) [
    | inl same ↦
        let was = ap (rank_of ranks) same in
        let is_there = ap now same in
        let there = stands_earlier in
        omega (arith, was, is_there, there)
    | inr other ↦ let stays = others_stay u other in omega (arith, stays)
  ]

  -- a loop of a wave of the list with v earlier is a reason, and the wave is the one before v's own
  reason_of : (w a : ℕ) (ring : List Turn) → 1 ≤ w → IsLoop move a ring → HasBothTags ring →
      ArisesInWave move times w a ring → (w ≡ rank_of ranks v) × IsReason move ranks v (loop a ring)
  reason_of w a ring one is both arises =
      let round : StandsRoundWave (one_earlier ranks v) w ring =
      stands_round move (one_earlier ranks v) w a ring one is.tags arises in
      let first : SwitchesSomeOldFirst (λ u. rank_of ranks u + 1) ring = ranks_old_first move ranks sound a ring is both in
      let earlier = first.earlier in
      let from = round.old first.old first.is_old in
      let upto = round.new first.new first.is_new in
      let lower = not_raised first.old in
      elim (cases_eq first.new v) [
        | inr other ↦ let stays = others_stay first.new other in absurd (omega (arith, earlier, from, upto, lower, stays))
        | inl same ↦
            let was = ap (rank_of ranks) same in
            let is_there = ap now same in
            let there = stands_earlier in
            let wave : w ≡ rank_of ranks v = omega (arith, earlier, from, upto, lower, was, is_there, there) in (
              wave,
              record {
                address = a;
                ring = ring;
                is = refl;
                is_loop = is;
                arises = subst (λ k. ArisesInWave move times k a ring) wave arises;
                is_new = subst (Contains (new_routers ring)) same first.is_new;
                after = first.old;
                is_old = first.is_old;
                just_before = omega (arith, earlier, from, lower, was, wave);
                none_earlier = λ u inside.
                    let late = round.old u inside in let at_most = not_raised u in omega (arith, late, at_most, wave);
              },
            )
      ]

  pub fault_reason : (w : ℕ) (fault : Fault) → IsTimesFault move times w fault →
      (w ≡ rank_of ranks v) × IsReason move ranks v fault
  fault_reason w fault is =
      let told : IsLoopOfWave move times w fault =
      times_fault_between_ends move times (sound_ends move ranks sound)
      have_times w fault is in
      let reason = reason_of w told.address told.ring is.from_one told.is_loop told.both told.arises in
      (reason.0, subst (IsReason move ranks v) (sym told.is) reason.1)

  module _ (free : (fault : Fault) → ¬ IsReason move ranks v fault) where
    -- so each loop has some router tagged Old before one tagged New: else it would arise in the wave before v's own
    breaks : (a : ℕ) (ring : List Turn) → IsLoop move a ring → HasBothTags ring → SwitchesSomeOldFirst (λ u. now u + 1) ring
    breaks a ring is both =
        let first : SwitchesSomeOldFirst (λ u. rank_of ranks u + 1) ring = ranks_old_first move ranks sound a ring is both in
        let earlier = first.earlier in
        let lower = not_raised first.old in
        let near = not_much_lower first.new in
        elim (below_or_none now (now first.new) (old_routers ring)) [
          | inl one ↦
              let below = one.2 in
              record { old = one.0; new = first.new; is_old = one.1; is_new = first.is_new; earlier = omega (arith, below) }
          | inr none_old ↦ elim (below_or_none (λ u. now first.old + 1 - now u) 1 (new_routers ring)) [
            | inl one ↦
                let above = one.2 in
                record { old = first.old; new = one.0; is_old = first.is_old; is_new = one.1; earlier = omega (arith, above) }
            | inr none_new ↦ absurd (free (loop a ring) (reason_of (now first.old + 1) a ring (omega arith) is both
                (arises_where move (one_earlier ranks v) (now first.old + 1) a ring (omega arith) is (record {
                  new = λ u inside. let upto = none_new u inside in omega (arith, upto);
                  old = λ u inside. let from = none_old u inside in omega (arith, from, earlier, lower, near);
                }))).1)
          ]
        ]

    pub may_be_earlier : MayBeEarlier move ranks v
    may_be_earlier = old_first_is_sound move times (sound_ends move ranks sound)
        have_times (λ a ring is both. record {
          switch = λ u. now u + 1;
          each = ring_switches move (one_earlier ranks v) a ring is;
          first = breaks a ring is both;
        })
