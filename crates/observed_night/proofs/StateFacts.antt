-- Which states a run leads to, and the state that is told.
use Rattle.std.proofs.Common.{◌≡◌, ◌≢◌, ◌↔◌, ℕ, ◌+◌, ◌<◌, ◌≤◌, ◌⊎◌, inl, inr, Bool, true, false, not, List, [], ◌∷◌, ◌++◌, Option, Some, None, length}
use Rattle.std.proofs.Common.{refl, sym, ap, subst, ◌∙◌, length-append, arith}
use Rattle.std.proofs.lemmas.List.{get_or_append_left, get_or_push}
use Rattle.std.specs.Option.{IsSome}
use Rattle.std.proofs.lemmas.Bool.{cases_eq, cases_lt}
use Rattle.net_model.specs.Configuration.{Configuration}
use Rattle.net_model.specs.Network.{Network, HasConfiguration}
use Rattle.net_model.specs.declared.bounds.TheConstants.{ISIS_DISTANCE, MOST_DISTANCE}
use Rattle.net_model.proofs.Adjacency.{HasConfiguration-unique}
use Rattle.order_core.specs.Rankings.{rank_of}
use Rattle.igp_theory.specs.Phases.{State, all_old, made_in, state_in}
use Rattle.igp_theory.specs.Timetables.{IsStateOf, router_times}
use Rattle.igp_theory.specs.declared.phase.Phase.{Phase}
use Rattle.igp_theory.specs.declared.phase.Phase.TheVariants.{Old, Middle, New}
use Rattle.igp_theory.proofs.Phases.{made_in_few, phases_same}
use Rattle.igp_theory.proofs.Switches.{routers_have_times}
use Rattle.igp_theory.proofs.Timetables.{before_new, before_old}
use Rattle.igp_theory.proofs.TimetableStates.{state_of_wave}
use Rattle.observed_night.specs.ShownPhases.{FollowsUndone, IsAstray, IsNotDone, IsShownState, MayBeIn, ShowPhase, isis_distance_in, ospf_distance_in}
use Rattle.observed_night.specs.ToldStates.{IsLeastPhase, IsToldPhase, IsToldState, IsWaveDone, elsewhere, in_done_wave}

-- ---- phases ----

pub new_or_not : (phase : Phase) → (phase ≡ New) ⊎ (phase ≢ New)
new_or_not Old = inr (λ e. cc)
new_or_not Middle = inr (λ e. cc)
new_or_not New = inl refl

pub none_made_is_old : (phase : Phase) → made_in phase ≤ 0 → phase ≡ Old
none_made_is_old phase none = phases_same phase Old (omega (arith, none))

pub all_made_is_new : (phase : Phase) → 2 ≤ made_in phase → phase ≡ New
all_made_is_new phase all = let few = made_in_few phase in phases_same phase New (omega (arith, all, few))

-- ---- states of runs ----

-- with a router that has begun those of earlier waves are done
abbrev pub AreDoneBefore : ℕ → List ℕ → State → Type 0
AreDoneBefore n ranks state = (u v : ℕ) → u < n → v < n → rank_of ranks v < rank_of ranks u → state u ≢ Old → state v ≡ New

pub done_before : (n : ℕ) (ranks : List ℕ) (state : State) → IsStateOf n all_old (router_times all_old ranks) state → AreDoneBefore n ranks state
done_before n ranks state is u v below within lower begun =
    let time = router_times all_old ranks in
    let some = state_of_wave (routers_have_times n all_old ranks) state is in
    let w : ℕ = some.wave in
    elim (cases_lt (rank_of ranks u) w) [
      | inl reached ↦
          let is_new = before_new time w v (omega (arith, reached, lower)) in
          let count = ap made_in is_new in
          let from = (some.of_wave v within).from in
          all_made_is_new (state v) (omega (arith, count, from))
      | inr later ↦
          let is_old = before_old time (w + 1) u (omega (arith, later)) (omega (arith, later)) in
          let count = ap made_in is_old in
          let upto = (some.of_wave u below).upto in
          absurd (begun (none_made_is_old (state u) (omega (arith, count, upto))))
    ]

-- where a router's changes can't be no run leads to what is shown
pub astray_shows_none : (before now : Network) (ranks : List ℕ) (state : State) (u : ℕ) → IsAstray before now ranks u →
    IsShownState before now ranks state → ⊥
astray_shows_none before now ranks state u astray shown = elim astray.why [
  | inl none ↦ none (state u) (shown.shown u astray.router)
  | inr (not_old, follows) ↦
      let is_new : state follows.other ≡ New =
      done_before (length before) ranks state shown.of_run u follows.other astray.router follows.below follows.earlier
      (λ is. not_old (subst (MayBeIn before now u) is (shown.shown u astray.router))) in
      follows.not_done.not_new (subst (MayBeIn before now follows.other) is_new (shown.shown follows.other follows.below))
]

-- ---- whether a router may be in a phase ----

some_or_not : {A : Type 0} (option : Option A) → IsSome option ⊎ (IsSome option → ⊥)
some_or_not None = inr (λ e. cc)
some_or_not (Some x) = inl refl

if_so : (P : Type 0) (k m : ℕ) → (P ⊎ (P → ⊥)) → ((P → k ≡ m) ⊎ ((P → k ≡ m) → ⊥))
if_so P k m (inr never) = inl (λ p. absurd (never p))
if_so P k m (inl p) = elim (cases_eq k m) [
  | inl same ↦ inl (λ q. same)
  | inr apart ↦ inr (λ f. apart (f p))
]

true_or_not : (b : Bool) → (b ≡ true) ⊎ ((b ≡ true) → ⊥)
true_or_not true = inl refl
true_or_not false = inr (λ e. cc)

show_or_not : (c d : Configuration) (phase : Phase) → ShowPhase c d phase ⊎ (ShowPhase c d phase → ⊥)
show_or_not c d phase = elim (if_so (d.isis ≡ true) d.distances.isis (isis_distance_in phase) (true_or_not d.isis)) [
  | inr never ↦ inr (λ shown. never shown.isis)
  | inl isis ↦ elim (if_so (IsSome d.process) d.distances.ospf (ospf_distance_in c.distances.ospf phase) (some_or_not d.process)) [
    | inr never ↦ inr (λ shown. never shown.ospf)
    | inl ospf ↦ inl (record { isis = isis; ospf = ospf })
  ]
]

module _ (before now : Network) (u : ℕ) where
  -- its two configurations show the phase
  pub shown_by : (c d : Configuration) (phase : Phase) → HasConfiguration before u c → HasConfiguration now u d → MayBeIn before now u phase →
      ShowPhase c d phase
  shown_by c d phase old its may =
      subst (λ (x : Configuration). ShowPhase x d phase) (HasConfiguration-unique before u may.one c may.before_is old)
      (subst (λ (y : Configuration). ShowPhase may.one y phase) (HasConfiguration-unique now u may.its d may.now_is its) may.shown)

  -- a router that may be in some phase may be in another one, or not
  may_or_not : (phase its : Phase) → MayBeIn before now u phase → MayBeIn before now u its ⊎ (MayBeIn before now u its → ⊥)
  may_or_not phase its may = elim (show_or_not may.one may.its its) [
    | inl shown ↦ inl (record { one = may.one; its = may.its; before_is = may.before_is; now_is = may.now_is; shown = shown })
    | inr never ↦ inr (λ also. never (shown_by may.one may.its its may.before_is may.now_is also))
  ]

-- one that may be in some phase is done where it may be New
pub undone_if : (before now : Network) (u : ℕ) (phase : Phase) (may_be_new : Bool) → MayBeIn before now u phase →
    ((may_be_new ≡ true) ↔ MayBeIn before now u New) → (not may_be_new ≡ true) ↔ IsNotDone before now u
undone_if before now u phase true may decides = (λ t. let e : false ≡ true = t in absurd cc, λ undone. absurd (undone.not_new (decides.0 refl)))
undone_if before now u phase false may decides = (
  λ t. record { phase = phase; may_be = may; not_new = λ is. let e : false ≡ true = decides.1 is in cc },
  λ undone. refl,
)

-- one that has begun is astray where it follows one that isn't done
pub astray_begun : (before now : Network) (ranks : List ℕ) (u : ℕ) (phase : Phase) (follows : Bool) → u < length before →
    IsLeastPhase before now u phase → 1 ≤ made_in phase → ((follows ≡ true) ↔ FollowsUndone before now ranks u) →
    (follows ≡ true) ↔ IsAstray before now ranks u
astray_begun before now ranks u phase follows below least some decides = (
  λ t. record {
    router = below;
    why = inr (λ old. let none = least.fewest Old old in omega (arith, some, none), decides.0 t);
  },
  λ astray. elim astray.why [
    | inl none ↦ absurd (none phase least.may_be)
    | inr (begun, undone) ↦ decides.1 undone
  ],
)

-- one that may have begun not isn't
pub astray_old : (before now : Network) (ranks : List ℕ) (u : ℕ) (phase : Phase) → IsLeastPhase before now u phase → (1 ≤ made_in phase → ⊥) →
    {b : Bool} → IsAstray before now ranks u → b ≡ true
astray_old before now ranks u phase least none astray =
    let is_old : phase ≡ Old = phases_same phase Old (no_change (made_in phase) none) in
    absurd (elim astray.why [
      | inl nowhere ↦ nowhere phase least.may_be
      | inr (begun, undone) ↦ begun (subst (MayBeIn before now u) is_old least.may_be)
    ])
  where
    no_change : (k : ℕ) → (1 ≤ k → ⊥) → k ≡ 0
    no_change k not = elim (cases_lt 0 k) [
      | inl some ↦ absurd (not (omega (arith, some)))
      | inr few ↦ omega (arith, few)
    ]

-- ---- the state that is told ----

pub pushed_long : (phases longer : List Phase) (phase : Phase) (n : ℕ) → longer ≡ phases ++ phase ∷ [] → length phases ≡ n → length longer ≡ n + 1
pushed_long phases longer phase n is long =
    let all : length longer ≡ length phases + 1 = ap length is ∙ length-append phases (phase ∷ []) in omega (arith, all, long)

-- what is told of one router more
pub told_more : (before now : Network) (ranks : List ℕ) (phases longer : List Phase) (phase : Phase) (n : ℕ) → length phases ≡ n →
    longer ≡ phases ++ phase ∷ [] → ((u : ℕ) → u < n → IsToldPhase before now ranks u (state_in phases u)) → IsToldPhase before now ranks n phase →
    (u : ℕ) → u < n + 1 → IsToldPhase before now ranks u (state_in longer u)
told_more before now ranks phases longer phase n long is told one u below = elim (cases_lt u n) [
  | inl lower ↦
      let at : state_in longer u ≡ state_in phases u =
      ap (λ (l : List Phase). state_in l u) is ∙ get_or_append_left phases (phase ∷ []) Old u (omega (arith, lower, long)) in
      subst (IsToldPhase before now ranks u) (sym at) (told u lower)
  | inr up ↦
      let same : n ≡ u = omega (arith, up, below) in
      let at : state_in longer u ≡ phase = ap (λ (l : List Phase). state_in l u) is ∙ get_or_push phases phase Old u (long ∙ same) in
      subst (IsToldPhase before now ranks u) (sym at) (subst (λ (k : ℕ). IsToldPhase before now ranks k phase) same one)
]

module _ (before now : Network) (ranks : List ℕ) (state : State) (none : (u : ℕ) → IsAstray before now ranks u → ⊥)
    (told : IsToldState before now ranks state) where
  told_may_be : (u : ℕ) {phase : Phase} → u < length before → IsToldPhase before now ranks u phase → MayBeIn before now u phase
  told_may_be u below (in_done_wave wave) = wave.each u below (omega arith)
  told_may_be u below (elsewhere phase not least) = least.may_be

  pub told_shown : (u : ℕ) → u < length before → MayBeIn before now u (state u)
  told_shown u below = told_may_be u below (told u below)

  -- before a router that has begun without its wave being done, each router may be New
  all_new_before : (u v : ℕ) → u < length before → rank_of ranks v < rank_of ranks u → (MayBeIn before now u Old → ⊥) →
      (w : ℕ) → w < length before → rank_of ranks w ≤ rank_of ranks v → MayBeIn before now w New
  all_new_before u v below lower begun w within upto = elim (may_or_not before now w (state w) New (told_shown w within)) [
    | inl may ↦ may
    | inr not ↦
        let undone : IsNotDone before now w = record { phase = state w; may_be = told_shown w within; not_new = not } in
        let astray : IsAstray before now ranks u = record {
          router = below;
          why = inr (begun, record { other = w; below = within; earlier = omega (arith, lower, upto); not_done = undone });
        } in
        absurd (none u astray)
  ]

  -- so the wave of an earlier router is done
  wave_done : (u v : ℕ) {phase : Phase} → u < length before → rank_of ranks v < rank_of ranks u → IsToldPhase before now ranks u phase →
      phase ≢ Old → IsWaveDone before now ranks v
  wave_done u v below lower (in_done_wave wave) begun = record {
    later = record { later = u; below = below; after = lower };
    each = λ w within upto. wave.each w within (omega (arith, lower, upto));
  }
  wave_done u v below lower (elsewhere phase not least) begun = record {
    later = record { later = u; below = below; after = lower };
    each = all_new_before u v below lower (λ old. begun (none_made_is_old phase (least.fewest Old old)));
  }

  told_in_done : (v : ℕ) {phase : Phase} → IsToldPhase before now ranks v phase → IsWaveDone before now ranks v → phase ≡ New
  told_in_done v (in_done_wave wave) done = refl
  told_in_done v (elsewhere phase not least) done = absurd (not done)

  pub told_done_before : AreDoneBefore (length before) ranks state
  told_done_before u v below within lower begun = told_in_done v (told v within) (wave_done u v below lower (told u below) begun)

-- ---- there is one told state ----

least_once : (before now : Network) (u : ℕ) (one its : Phase) → IsLeastPhase before now u one → IsLeastPhase before now u its → one ≡ its
least_once before now u one its h k =
    let upto = h.fewest its k.may_be in
    let from = k.fewest one h.may_be in
    phases_same one its (omega (arith, upto, from))

pub told_once_at : (before now : Network) (ranks : List ℕ) (u : ℕ) {one its : Phase} → IsToldPhase before now ranks u one →
    IsToldPhase before now ranks u its → one ≡ its
told_once_at before now ranks u (in_done_wave wave) (in_done_wave again) = refl
told_once_at before now ranks u (in_done_wave wave) (elsewhere phase not least) = absurd (not wave)
told_once_at before now ranks u (elsewhere phase not least) (in_done_wave wave) = absurd (not wave)
told_once_at before now ranks u (elsewhere one not least) (elsewhere its neither also) = least_once before now u one its least also

-- ---- a router with both protocols shows one phase ----

pub one_phase : (c d : Configuration) (one its : Phase) → d.isis ≡ true → IsSome d.process → c.distances.ospf ≢ MOST_DISTANCE →
    ShowPhase c d one → ShowPhase c d its → one ≡ its
one_phase c d Old Old isis ospf apart h k = refl
one_phase c d Old Middle isis ospf apart h k = let clash : MOST_DISTANCE ≡ ISIS_DISTANCE = sym (h.isis isis) ∙ k.isis isis in absurd (omega (arith, clash))
one_phase c d Old New isis ospf apart h k = let clash : MOST_DISTANCE ≡ ISIS_DISTANCE = sym (h.isis isis) ∙ k.isis isis in absurd (omega (arith, clash))
one_phase c d Middle Old isis ospf apart h k = let clash : ISIS_DISTANCE ≡ MOST_DISTANCE = sym (h.isis isis) ∙ k.isis isis in absurd (omega (arith, clash))
one_phase c d Middle Middle isis ospf apart h k = refl
one_phase c d Middle New isis ospf apart h k = absurd (apart (sym (h.ospf ospf) ∙ k.ospf ospf))
one_phase c d New Old isis ospf apart h k = let clash : ISIS_DISTANCE ≡ MOST_DISTANCE = sym (h.isis isis) ∙ k.isis isis in absurd (omega (arith, clash))
one_phase c d New Middle isis ospf apart h k = absurd (apart (sym (k.ospf ospf) ∙ h.ospf ospf))
one_phase c d New New isis ospf apart h k = refl
