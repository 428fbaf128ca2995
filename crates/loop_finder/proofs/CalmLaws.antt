-- What calm parts tell of the waves of a timetable.
use Rattle.std.proofs.lemmas.Grind.{common_steps}
use Rattle.std.proofs.Common.{◌≡◌, ℕ, zero, suc, ◌+◌, ◌<◌, ◌≤◌, ◌⊎◌, Bool, true, List, [], ◌∷◌, length, get_or, set, inl, inr, arith, sym, ◌∙◌}
use Rattle.std.proofs.Common.{subst, below_more, Contains}
use Rattle.std.specs.Bool.{OnTrue}
use Rattle.std.specs.List.{All}
use Rattle.std.proofs.lemmas.Bool.{cases_eq, cases_lt}
use Rattle.std.proofs.lemmas.List.{get_or-set_other, get_or-set_same}
use Rattle.std.proofs.Math.ListN.{length-set}
use Rattle.igp_theory.specs.Changes as change
use Rattle.igp_theory.specs.Phases.{state_in}
use Rattle.igp_theory.specs.Timetables.{Timetable, state_before}
use Rattle.igp_theory.specs.declared.phase.Phase.{Phase}
use Rattle.igp_theory.proofs.AlikeStates.{sound_alike}
use Rattle.igp_theory.proofs.SameTables.{follows_over}
use Rattle.loop_finder.specs.Calm.{WaveStep, ChangesIn, IsCalmBefore, IsUnstirred, AreCalm}
use Rattle.loop_finder.specs.steps.Calm.{AreLowered}
use Rattle.loop_finder.specs.Parts.{ClassPart, part_hops, IsPart, AreParts}
use Rattle.loop_finder.specs.Pieces.{AreMadeOf}
use Rattle.loop_finder.specs.steps.Parts.{AreSteppers, IsBareIn}
use Rattle.loop_finder.specs.Returns.{NeverReturnsTo}
use Rattle.loop_finder.specs.Mixes.{sample_of, Mix}
use Rattle.loop_finder.specs.Soundness.{Sound}
use Rattle.loop_finder.specs.Times.{waves_of, times_in, phase_before}
use Rattle.loop_finder.specs.steps.Times.{IsInOrder, AreMovedFrom}
use Rattle.loop_finder.specs.steps.Verdicts.{IsClearAt, SoundWave, SoundWavesBefore}
use Rattle.loop_finder.specs.Watches.{IsIdle, ArePlacesOf}
use Rattle.loop_finder.specs.steps.WaveStarts.{AreClearParts, BeginsSound}
use Rattle.loop_finder.specs.declared.times.ChangeWaves.{ChangeWaves}
use Rattle.loop_finder.proofs.ClassVerdicts.{sample_in}
use Rattle.loop_finder.proofs.PartLists.{sound_whole}
use Rattle.loop_finder.proofs.PieceLaws.{never_in}
use Rattle.loop_finder.proofs.StateVerdicts.{sound_from_classes}
use Rattle.loop_finder.proofs.WavePhases.{phase_moved, wave_moved, Listed, listed}
use Rattle.loop_finder.proofs.ToldOfWaves.{AreEnds, wave_between, state_between}
use Rattle.loop_finder.proofs.WaveSteps.{part_wave_sound, begins_sound}

-- What is kept

-- what holds before a wave holds before each earlier one
pub calm_sooner : (part : ClassPart) (time : Timetable) (w v : ℕ) → v ≤ w → IsCalmBefore part time w → IsCalmBefore part time v
calm_sooner part time w v most is = grind (arith, common_steps)

-- a router without hops in a part steps in no wave
bare_wave : (part : ClassPart) (time : Timetable) (w u h : ℕ) → IsBareIn part.rows u → WaveStep part time w u h → ⊥
bare_wave part time w u h bare (inl one) = bare (state_before time w u) h one
bare_wave part time w u h bare (inr other) = bare (state_before time (w + 1) u) h other

-- a part is calm before a wave where it's calm before one, and no router that has hops stirs in the waves from that on
calm_until : (part : ClassPart) (time : Timetable) (steppers : List ℕ) (w v : ℕ) → part.moves ≡ true → AreSteppers part.rows steppers →
    IsCalmBefore part time w → ((x : ℕ) → w ≤ x → x < v → All (IsUnstirred part time x) steppers) → IsCalmBefore part time v
calm_until part time steppers w v moves are is each = record {
  moves = λ some. moves;
  calm = λ x one less u within. elim (cases_lt x w) [
    | inl before ↦ is.calm x one before u within
    | inr after ↦ elim (are.whole u within) [
      | inl among ↦ subst (IsUnstirred part time x) among.2 (each x after less among.0 u among.1)
      | inr bare ↦ record { never = λ changes h hops follows. bare_wave part time x u h bare follows.0 }
    ]
  ];
}

-- none of some routers makes a change in the waves from one on and before another
pub record NoneBefore (time : Timetable) (w v : ℕ) (steppers : List ℕ) : Type 0 where
  pub first : All (λ u. w ≤ time (change.first u) → v ≤ time (change.first u)) steppers
  pub second : All (λ u. w ≤ time (change.second u) → v ≤ time (change.second u)) steppers

-- so it is before the next wave in which such a router makes a change
pub calm_to_next : (part : ClassPart) (time : Timetable) (steppers : List ℕ) (w v : ℕ) → part.moves ≡ true → AreSteppers part.rows steppers →
    IsCalmBefore part time w → NoneBefore time w v steppers → IsCalmBefore part time v
calm_to_next part time steppers w v moves are is none = calm_until part time steppers w v moves are is (λ x from less k d within. record {
  never = λ changes. absurd (elim changes [
    | inl one ↦ omega (arith, one, from, less, none.first k d within (omega (arith, one, from)))
    | inr two ↦ omega (arith, two, from, less, none.second k d within (omega (arith, two, from)))
  ]);
})

-- also behind a wave in which none of them stirs
pub calm_further : (part : ClassPart) (time : Timetable) (steppers : List ℕ) (w v : ℕ) → part.moves ≡ true → AreSteppers part.rows steppers →
    IsCalmBefore part time w → All (IsUnstirred part time w) steppers → NoneBefore time (w + 1) v steppers → IsCalmBefore part time v
calm_further part time steppers w v moves are is unstirred none = calm_to_next part time steppers (w + 1) v moves are
    (calm_until part time steppers w (w + 1) moves are is (λ x from less.
    let same : w ≡ x = omega (arith, from, less) in subst (λ (y : ℕ). All (IsUnstirred part time y) steppers) same unstirred)) none

-- where the routers step as before, and those that change in a wave did so or aren't returned to, a part stays calm
calm_over : (part : ClassPart) (time other : Timetable) (w : ℕ) → ((v u h : ℕ) → v < w → WaveStep part other v u h → WaveStep part time v u h) →
    ((v u : ℕ) → v < w → ChangesIn other v u → ChangesIn time v u ⊎ NeverReturnsTo (WaveStep part other v) u) → IsCalmBefore part time w →
    IsCalmBefore part other w
calm_over part time other w steps changes is = record {
  moves = is.moves;
  calm = λ v one less u within. record {
    never = λ changes_now. elim (changes v u less changes_now) [
      | inl did ↦ λ h hops follows.
          (is.calm v one less u within).never did h hops (follows_over (λ x y step. steps v x y less step) u (h ∷ hops) u follows)
      | inr never ↦ never
    ];
  };
}

-- the waves of one router are others
module _ (part : ClassPart) (times : List ChangeWaves) (u : ℕ) (waves : ChangeWaves) (w : ℕ) where
  other_waves : (x : ℕ) → (¬ (x ≡ u)) → waves_of times x ≡ waves_of (set times u waves) x
  other_waves x apart = sym (get_or-set_other times u x waves (record { first = 1; second = 1 }) apart)

  step_by : (v x h : ℕ) → ChangeWaves → Type 0
  step_by v x h of_x = Contains (part_hops part x (phase_before of_x v)) h ⊎ Contains (part_hops part x (phase_before of_x (v + 1))) h

  change_by : (v : ℕ) → ChangeWaves → Type 0
  change_by v of_x = (of_x.first ≡ v) ⊎ (of_x.second ≡ v)

  -- those of an idle router don't matter
  pub calm_with_idle : IsIdle part u → IsCalmBefore part (times_in times) w → IsCalmBefore part (times_in (set times u waves)) w
  unfolding step_by change_by
  calm_with_idle idle is = calm_over part (times_in times) (times_in (set times u waves)) w
      (λ v x h less step. elim (cases_eq x u) [
        | inl this ↦ absurd (bare_wave part (times_in (set times u waves)) v x h (bare x this) step)
        | inr apart ↦ subst (step_by v x h) (sym (other_waves x apart)) step
      ])
      (λ v x less changes. elim (cases_eq x u) [
        | inl this ↦ inr (λ h hops follows. bare_wave part (times_in (set times u waves)) v x h (bare x this) follows.0)
        | inr apart ↦ inl (subst (change_by v) (sym (other_waves x apart)) changes)
      ]) is
    where
      bare : (x : ℕ) → x ≡ u → IsBareIn part.rows x
      bare x this = subst (IsBareIn part.rows) (sym this) idle.bare

  -- nor do they before the changes that moved
  pub calm_with_later : u < length times → AreMovedFrom w (waves_of times u) waves → IsCalmBefore part (times_in times) w →
      IsCalmBefore part (times_in (set times u waves)) w
  unfolding step_by change_by
  calm_with_later inside moved is = calm_over part (times_in times) (times_in (set times u waves)) w
      (λ v x h less step. elim (cases_eq x u) [
        | inl this ↦ as_moved v x h less this step
        | inr apart ↦ subst (step_by v x h) (sym (other_waves x apart)) step
      ])
      (λ v x less changes. elim (cases_eq x u) [
        | inl this ↦
            let now : change_by v waves = subst (change_by v) here (subst (λ (y : ℕ). change_by v (waves_of (set times u waves) y)) this changes) in
            inl (subst (λ (y : ℕ). change_by v (waves_of times y)) (sym this) (wave_moved w v (waves_of times u) waves moved less now))
        | inr apart ↦ inl (subst (change_by v) (sym (other_waves x apart)) changes)
      ]) is
    where
      here : waves_of (set times u waves) u ≡ waves
      here = get_or-set_same times u waves (record { first = 1; second = 1 }) inside

      as_moved : (v x h : ℕ) → v < w → x ≡ u → WaveStep part (times_in (set times u waves)) v x h → WaveStep part (times_in times) v x h
      as_moved v x h less this step =
          let now : step_by v u h waves = subst (step_by v u h) here (subst (λ (y : ℕ). step_by v y h (waves_of (set times u waves) y)) this step) in
          subst (λ (y : ℕ). step_by v y h (waves_of times y)) (sym this) (elim now [
            | inl one ↦ inl (subst (λ (phase : Phase). Contains (part_hops part u phase) h)
                (phase_moved w v (waves_of times u) waves moved (omega (arith, less))) one)
            | inr other ↦ inr (subst (λ (phase : Phase). Contains (part_hops part u phase) h)
                (phase_moved w (v + 1) (waves_of times u) waves moved (omega (arith, less))) other)
          ])

moved_sooner : (most w : ℕ) (was now : ChangeWaves) → w ≤ most → AreMovedFrom most was now → AreMovedFrom w was now
moved_sooner most w was now less moved = record {
  first = elim moved.first [ inl same ↦ inl same | inr far ↦ inr (omega (arith, less, far.0), omega (arith, less, far.1)) ];
  second = elim moved.second [ inl same ↦ inl same | inr far ↦ inr (omega (arith, less, far.0), omega (arith, less, far.1)) ];
}

-- what is kept where a router takes other waves, and less of the parts which that concerns
pub AreCalm-with_waves : (parts : List ClassPart) (times : List ChangeWaves) (calm lowered places : List ℕ) (u most : ℕ) (waves : ChangeWaves) →
    u < length times → AreMovedFrom most (waves_of times u) waves → ArePlacesOf parts u places → AreLowered places most calm lowered →
    AreCalm parts (times_in times) calm → AreCalm parts (times_in (set times u waves)) lowered
AreCalm-with_waves parts times calm lowered places u most waves inside moved placed lower are = record {
  many = lower.many ∙ are.many;
  each = λ p d within.
      let less : IsCalmBefore (get_or parts p d) (times_in times) (get_or lowered p 0) =
      calm_sooner (get_or parts p d) (times_in times) (get_or calm p 0) (get_or lowered p 0) (lower.each p) (are.each p d within) in
      elim (placed.whole p d within) [
        | inl among ↦ calm_with_later (get_or parts p d) times u waves (get_or lowered p 0) inside
            (moved_sooner most (get_or lowered p 0) (waves_of times u) waves (lower.these p among) moved) less
        | inr idle ↦ calm_with_idle (get_or parts p d) times u waves (get_or lowered p 0) idle less
      ];
}

-- what is found of one part is kept
pub calm_set : (parts : List ClassPart) (time : Timetable) (calm : List ℕ) (place v : ℕ) → place < length calm →
    ((d : ClassPart) → IsCalmBefore (get_or parts place d) time v) → AreCalm parts time calm → AreCalm parts time (set calm place v)
calm_set parts time calm place v inside here are = record {
  many = length-set calm place v ∙ are.many;
  each = λ p d within. elim (cases_eq p place) [
    | inl same ↦ subst (λ (q : ℕ). IsCalmBefore (get_or parts q d) time (get_or (set calm place v) q 0)) (sym same)
        (subst (IsCalmBefore (get_or parts place d) time) (sym (get_or-set_same calm place v 0 inside)) (here d))
    | inr apart ↦ subst (IsCalmBefore (get_or parts p d) time) (sym (get_or-set_other calm place p v 0 apart)) (are.each p d within)
  ];
}

-- the waves of one router more are taken
pub taken_more : (times kept taken : List ChangeWaves) (n : ℕ) → n < length kept → taken ≡ set kept n (waves_of times n) →
    ((u : ℕ) → u < n → waves_of kept u ≡ waves_of times u) → (u : ℕ) → u < n + 1 → waves_of taken u ≡ waves_of times u
taken_more times kept taken n within is before =
    let none : ChangeWaves = record { first = 1; second = 1 } in
    subst (λ (xs : List ChangeWaves). (u : ℕ) → u < n + 1 → waves_of xs u ≡ waves_of times u) (sym is)
    (below_more (λ (u : ℕ). waves_of (set kept n (waves_of times n)) u ≡ waves_of times u) n
    (λ u below. get_or-set_other kept n u (waves_of times n) none (λ same. omega (arith, same, below)) ∙ before u below)
    (get_or-set_same kept n (waves_of times n) none within))

-- Waves

-- where the first state of a wave is sound, its states are sound for the parts whose pieces are calm in it
pub clear_parts : (m : Mix) (parts pieces : List ClassPart) (made : List (List ℕ)) (time : Timetable) (calm : List ℕ) (w : ℕ) (first last : List Phase)
    → AreParts m parts (length m.classes.samples) → AreMadeOf pieces parts (length parts) made → AreEnds (length m.net) time w first last → 1 ≤ w
    → AreCalm pieces time calm → BeginsSound m time w → AreClearParts (IsClearAt m first last) parts made calm w
clear_parts m parts pieces made time calm w first last are making ends some calms begun p d within moves less state between =
    let is : IsPart m (get_or parts p d) = are.each p d within in
    let begun_first : Sound m (state_in first) = sound_alike (λ u inside. sym (ends.begins u inside)) begun in
    part_wave_sound m (get_or parts p d) time w first last state is ends moves
    (λ u inside changes. never_in pieces (get_or parts p d) (get_or made p []) time calm w u (making.each p within d) calms less some changes)
    (begun_first (sample_of m.classes (get_or parts p d).atom) (sample_in m.classes (get_or parts p d).atom are.classes is.class).address)
    (state_between state ends between)

-- a wave in which all pieces are calm is sound where its first state is
sound_wave : (m : Mix) (parts pieces : List ClassPart) (made : List (List ℕ)) (time : Timetable) (calm : List ℕ) (start w : ℕ) → IsInOrder time
    → AreParts m parts (length m.classes.samples) → AreMadeOf pieces parts (length parts) made → All (λ (part : ClassPart). part.moves ≡ true) parts
    → AreCalm pieces time calm → ((p : ℕ) → p < length calm → start ≤ get_or calm p 0) → 1 ≤ w → w < start → BeginsSound m time w → SoundWave m time w
sound_wave m parts pieces made time calm start w order are making moves calms least some less begun state of_wave =
    let first : Listed (length m.net) (state_before time w) = listed (length m.net) (state_before time w) in
    let last : Listed (length m.net) (state_before time (w + 1)) = listed (length m.net) (state_before time (w + 1)) in
    let none : ClassPart = record { atom = 0; moves = true; rows = [] } in
    let ends : AreEnds (length m.net) time w first.phases last.phases = record { order = order; begins = first.each; ends = last.each } in
    let clear : AreClearParts (IsClearAt m first.phases last.phases) parts made calm w =
    clear_parts m parts pieces made time calm w first.phases last.phases are making ends some calms begun in
    sound_from_classes m state (length m.classes.samples) are.classes (omega arith)
    (λ k below. sound_whole m parts (length m.classes.samples) none state are
    (λ p within. clear p none within (moves p none within) (λ i d inside.
    let place : get_or (get_or made p []) i d < length pieces = (making.each p within none).below i d inside in
    let more : start ≤ get_or calm (get_or (get_or made p []) i d) 0 = least (get_or (get_or made p []) i d) (omega (arith, place, calms.many)) in
    omega (arith, more, less)) state (wave_between state ends of_wave)) k below)

-- so the waves before one that no piece has a lesser one than are sound
pub sound_waves_before : (m : Mix) (parts pieces : List ClassPart) (made : List (List ℕ)) (time : Timetable) (calm : List ℕ) (begun : Bool) (start : ℕ)
    → IsInOrder time → AreParts m parts (length m.classes.samples) → AreMadeOf pieces parts (length parts) made → AreCalm pieces time calm
    → OnTrue begun (BeginsSound m time 1) → (1 < start → begun ≡ true) → (1 < start → All (λ (part : ClassPart). part.moves ≡ true) parts)
    → (1 < start → (p : ℕ) → p < length calm → start ≤ get_or calm p 0) → (w : ℕ) → w ≤ start → SoundWavesBefore m time w
sound_waves_before m parts pieces made time calm begun start order are making calms first known moves least zero most =
    λ v one less. absurd (omega (arith, less))
sound_waves_before m parts pieces made time calm begun start order are making calms first known moves least (suc w) most =
    let before : SoundWavesBefore m time w =
    sound_waves_before m parts pieces made time calm begun start order are making calms first known moves least w (omega (arith, most)) in
    λ v one less. elim (cases_lt v w) [
      | inl sooner ↦ before v one sooner
      | inr later ↦
          let is : w ≡ v = omega (arith, less, later) in
          let some : 1 ≤ w = omega (arith, is, one) in
          let more : 1 < start = omega (arith, some, most) in
          subst (λ (x : ℕ). SoundWave m time x) is (sound_wave m parts pieces made time calm start w order are making (moves more) calms (least more) some
          (omega (arith, most)) (begins_sound m time w begun order some first before (inl (known more))))
    ]
