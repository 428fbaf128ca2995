-- A wave is gone through router by router.
use Rattle.std.proofs.lemmas.Grind.{common_steps}
use Rattle.std.proofs.Common.{◌≡◌, ℕ, zero, suc, ◌+◌, ◌-◌, ◌<◌, ◌≤◌, ◌⊎◌, Bool, true, cond, leb, List, ◌∷◌, length, Contains, inl, inr, arith, sym, ◌∙◌}
use Rattle.std.proofs.Common.{subst}
use Rattle.std.specs.Bool.{OnTrue}
use Rattle.std.proofs.lemmas.Bool.{cases_eq, cases_lt}
use Rattle.std.proofs.lemmas.Bool.Decides.{leb_tells}
use Rattle.igp_theory.specs.Changes as change
use Rattle.igp_theory.specs.Phases.{State, state_in}
use Rattle.igp_theory.specs.Timetables.{Timetable, IsTimetable, IsBetweenPhases, IsStateOfWave, state_before}
use Rattle.igp_theory.specs.declared.phase.Phase.{Phase}
use Rattle.igp_theory.proofs.AlikeStates.{sound_at_alike, sound_alike}
use Rattle.igp_theory.proofs.Phases.{phases_same}
use Rattle.igp_theory.proofs.SameTables.{follows_over}
use Rattle.igp_theory.proofs.Timetables.{made_before, last_of_wave}
use Rattle.loop_finder.specs.Calm.{WaveStep, ChangesIn}
use Rattle.loop_finder.specs.Parts.{ClassPart, part_hops, IsPart}
use Rattle.loop_finder.specs.steps.Parts.{PartStep}
use Rattle.loop_finder.specs.Returns.{NeverReturnsTo}
use Rattle.loop_finder.specs.Mixes.{sample_of, Mix}
use Rattle.loop_finder.specs.Soundness.{SoundAt, Sound}
use Rattle.loop_finder.specs.steps.Times.{IsInOrder}
use Rattle.loop_finder.specs.steps.Verdicts.{SoundWavesBefore, IsBetween}
use Rattle.loop_finder.specs.steps.WaveStarts.{BeginsSound}
use Rattle.loop_finder.proofs.OnFalse.{on_true}
use Rattle.loop_finder.proofs.PartLaws.{part_stays_sound, part_inside}
use Rattle.loop_finder.proofs.ToldOfWaves.{AreEnds, table_of, first_in_wave, wave_between}

-- the routers below r have their phases of one state, the others those of another
abbrev mixed : State → State → ℕ → State
mixed one other r u = cond (leb (suc u) r) (one u) (other u)

mixed_one : (one other : State) (r u : ℕ) → u < r → mixed one other r u ≡ one u
mixed_one one other r u below = grind (arith, common_steps, leb_tells)

mixed_other : (one other : State) (r u : ℕ) → r ≤ u → mixed one other r u ≡ other u
mixed_other one other r u above = grind (arith, common_steps, leb_tells)

-- one router more changes no other
mixed_more : (one other : State) (r v : ℕ) → (¬ (v ≡ r)) → mixed one other (suc r) v ≡ mixed one other r v
mixed_more one other r v apart = grind (arith, common_steps, cases_lt, mixed_one, mixed_other)

-- a router makes a change in a wave, or it doesn't
changes_cases : (time : Timetable) (w u : ℕ) → ChangesIn time w u ⊎ (¬ ChangesIn time w u)
changes_cases time w u = grind (arith, common_steps, cases_eq)

-- where it makes none, it stays in its phase
stays_in_wave : {n : ℕ} {time : Timetable} {w : ℕ} {first last : List Phase} (state : State) (u : ℕ) → AreEnds n time w first last →
    IsStateOfWave n time w state → u < n → (¬ ChangesIn time w u) → state u ≡ state_in first u
stays_in_wave {time = time} {w = w} state u ends of_wave within apart =
    let not_one : ¬ (time (change.first u) ≡ w) = λ one. apart (inl one) in
    let not_two : ¬ (time (change.second u) ≡ w) = λ two. apart (inr two) in
    let begins = made_before time w u (ends.order u) in
    let ends_in = made_before time (w + 1) u (ends.order u) in
    let between = of_wave u within in
    phases_same (state u) (state_before time w u) (omega (arith, between.from, between.upto, begins, ends_in, not_one, not_two))
    ∙ sym (ends.begins u within)

-- the steps of a part in the first and the last state of a wave are those of the wave
in_wave : (part : ClassPart) (time : Timetable) (w : ℕ) (first last : List Phase) → AreEnds (length part.rows) time w first last →
    (u h : ℕ) → PartStep part first last u h → WaveStep part time w u h
in_wave part time w first last ends u h step =
    let within : u < length part.rows = part_inside part first last u h step in
    elim step [ inl one ↦ inl (subst In (ends.begins u within) one) | inr other ↦ inr (subst In (ends.ends u within) other) ]
  where
    In : Phase → Type 0
    In phase = Contains (part_hops part u phase) h

-- where no walk over the steps of a part in a wave returns to a router that makes a change in it, and the first state of the
-- wave is sound for its class, each state of the wave is: the routers change one after another
pub part_wave_sound : (m : Mix) (part : ClassPart) (time : Timetable) (w : ℕ) (first last : List Phase) (state : State)
    → IsPart m part → AreEnds (length m.net) time w first last → part.moves ≡ true
    → ((u : ℕ) → u < length part.rows → ChangesIn time w u → NeverReturnsTo (WaveStep part time w) u)
    → SoundAt m (state_in first) (sample_of m.classes part.atom) → IsStateOfWave (length m.net) time w state → SoundAt m state
    (sample_of m.classes part.atom)
part_wave_sound m part time w first last state is ends moves never begun of_wave =
    sound_at_alike (λ u within. mixed_one state (state_in first) (length m.net) u within) (sound_to (length m.net) (omega arith))
  where
    never_between : (u : ℕ) → u < length m.net → ChangesIn time w u → NeverReturnsTo (PartStep part first last) u
    never_between u within changes h hops follows = never u (omega (arith, within, is.many)) changes h hops
        (follows_over (in_wave part time w first last (subst (λ (n : ℕ). AreEnds n time w first last) (sym is.many) ends)) u (h ∷ hops) u follows)

    between : (r : ℕ) → IsBetween (length m.net) first last (mixed state (state_in first) r)
    between r u within = elim (cases_lt u r) [
      | inl below ↦ subst Between (sym (mixed_one state (state_in first) r u below)) (wave_between state ends of_wave u within)
      | inr above ↦ subst Between (sym (mixed_other state (state_in first) r u above))
          (wave_between (state_in first) ends (first_in_wave ends) u within)
    ]
      where
        Between : Phase → Type 0
        Between phase = IsBetweenPhases (state_in first u) (state_in last u) phase

    unchanged : (r : ℕ) → state r ≡ state_in first r → (v : ℕ) → mixed state (state_in first) r v ≡ mixed state (state_in first) (suc r) v
    unchanged r same v = elim (cases_eq v r) [
      | inl is_r ↦
          mixed_other state (state_in first) r v (omega (arith, is_r)) ∙ sym (subst (λ (x : ℕ). state x ≡ state_in first x) (sym is_r) same)
          ∙ sym (mixed_one state (state_in first) (suc r) v (omega (arith, is_r)))
      | inr apart ↦ sym (mixed_more state (state_in first) r v apart)
    ]

    sound_to : (r : ℕ) → r ≤ length m.net → SoundAt m (mixed state (state_in first) r) (sample_of m.classes part.atom)
    sound_to zero most = sound_at_alike (λ u within. sym (mixed_other state (state_in first) zero u (omega arith))) begun
    sound_to (suc r) most = elim (changes_cases time w r) [
      | inl changes ↦ part_stays_sound m part first last r (mixed state (state_in first) r) (mixed state (state_in first) (suc r)) is moves
          (never_between r (omega (arith, most)) changes) (λ v within apart. mixed_more state (state_in first) r v apart) (between (suc r))
          (sound_to r (omega (arith, most)))
      | inr apart ↦ sound_at_alike (λ u within. unchanged r (stays_in_wave state r ends of_wave (omega (arith, most)) apart) u)
          (sound_to r (omega (arith, most)))
    ]

-- a wave begins in the state in which the wave before ends
pub begins_sound : (m : Mix) (time : Timetable) (w : ℕ) (begun : Bool) → IsInOrder time → 1 ≤ w → OnTrue begun (BeginsSound m time 1) →
    SoundWavesBefore m time w → (begun ≡ true) ⊎ (1 < w) → BeginsSound m time w
begins_sound m time w begun order some first before known = elim (cases_lt 1 w) [
  | inl later ↦
      let is : w - 1 + 1 ≡ w = omega (arith, later) in
      subst (λ (v : ℕ). BeginsSound m time v) is
      (before (w - 1) (omega (arith, later)) (omega (arith, later)) (state_before time (w - 1 + 1))
      (last_of_wave (table_of (length m.net) time order) (w - 1)))
  | inr none ↦ elim known [
    | inl known_now ↦
        let is : 1 ≡ w = omega (arith, none, some) in
        subst (λ (v : ℕ). BeginsSound m time v) is (subst (λ (b : Bool). OnTrue b (BeginsSound m time 1)) known_now first)
    | inr later ↦ absurd (omega (arith, none, later))
  ]
]

-- what is known of the start is known of the state in which the first wave begins
pub begun_from : (m : Mix) (time : Timetable) (start : State) (begun : Bool) → IsTimetable (length m.net) start time → OnTrue begun (Sound m start) →
    OnTrue begun (BeginsSound m time 1)
begun_from m time start begun table known = on_true begun known (sound_alike (λ u within. sym (table.begins u within)))
