-- Loops state by state: where they arise, and that an unsound state between sound ends has one with both tags.
use Rattle.std.proofs.lemmas.Grind.{common_steps}
use Rattle.std.proofs.Common.{◌≡◌, ◌≢◌, ℕ, ◌^◌, ◌<◌, ◌≤◌, ◌⊎◌, inl, inr, Bool, true, false, cond, List, [], ◌∷◌}
use Rattle.std.proofs.Common.{length, filter, All, Contains, AllPairs, refl, sym, ap, ◌∙◌, subst, arith}
use Rattle.std.proofs.lemmas.Bool.{cases_lt, false≢true}
use Rattle.std.proofs.lemmas.List.Elements.{All-contains_itself, All-weaker}
use Rattle.order_core.specs.Turns.{is_old, is_new, routers_of, old_routers, new_routers, HasBothTags}
use Rattle.order_core.specs.declared.turn.Tag.{Tag}
use Rattle.order_core.specs.declared.turn.Tag.TheVariants as tag
use Rattle.order_core.specs.declared.turn.Turn.{Turn}
use Rattle.igp_theory.specs.Forwarding.{Steps}
use Rattle.igp_theory.specs.LoopLaws.{IsFromStart, AgreesWithTags, AreSoundEnds, IsLoopOfState, IsLoopFault}
use Rattle.igp_theory.specs.Loops.{IsTagOf, IsTag, IsLoop, Arises, Fault, IsFault, missing_step, loop_arises}
use Rattle.igp_theory.specs.Migrations.{Migration}
use Rattle.igp_theory.specs.Phases.{State, made_in, all_new}
use Rattle.igp_theory.specs.States.{StepsIn, IsSoundAt, IsSound}
use Rattle.igp_theory.specs.declared.phase.Phase.{Phase}
use Rattle.igp_theory.specs.declared.phase.Phase.TheVariants.{Old, Middle, New}
use Rattle.igp_theory.proofs.ForwardingLaws.{middle_is_old_or_new, middle_uses_one, later_phase_steps}
use Rattle.net_model.proofs.Members.{Contains-none, Contains-first, Contains-rest, Contains-cases}
use Rattle.igp_theory.proofs.Rings.{around_inside, around_both, around_at, found_goes_round, found_distinct, around_of_routers, turns_distinct, turns_return}
use Rattle.igp_theory.proofs.Rings.{some_turn}
use Rattle.igp_theory.proofs.Tags.{IsTagTo, AreTagged}

-- The turns of a tag

-- a turn of a ring with this tag, of this router
pub record TurnOf (ring : List Turn) (t : Tag) (u : ℕ) : Type 0 where
  pub turn : Turn
  pub among : Contains ring turn
  pub tagged : turn.tag ≡ t
  pub router : turn.router ≡ u

later_turn : (r : Turn) (rest : List Turn) (t : Tag) (u : ℕ) → TurnOf rest t u → TurnOf (r ∷ rest) t u
later_turn r rest t u one = record { turn = one.turn; among = Contains-rest r rest one.turn one.among; tagged = one.tagged; router = one.router }

turn_passed : (p : Tag → Bool) (t : Tag) → ((s : Tag) → p s ≡ true → s ≡ t) → (ring : List Turn) (u : ℕ) →
    Contains (routers_of (filter (λ (x : Turn). p x.tag) ring)) u → TurnOf ring t u
turn_passed p t only [] u inside = absurd (Contains-none u inside)
turn_passed p t only (r ∷ rest) u inside = by_test (turn_passed p t only rest u) (p r.tag) refl inside
  where
    by_test : (Contains (routers_of (filter (λ (x : Turn). p x.tag) rest)) u → TurnOf rest t u) → (b : Bool) → p r.tag ≡ b →
        Contains (routers_of (cond b (r ∷ filter (λ (x : Turn). p x.tag) rest) (filter (λ (x : Turn). p x.tag) rest))) u → TurnOf (r ∷ rest) t u
    by_test others true is found = elim (Contains-cases r.router (routers_of (filter (λ (x : Turn). p x.tag) rest)) u found) [
      | inl same ↦ record { turn = r; among = Contains-first r rest; tagged = only r.tag is; router = same }
      | inr later ↦ later_turn r rest t u (others later)
    ]
    by_test others false is found = later_turn r rest t u (others found)

turn_passes : (p : Tag → Bool) (ring : List Turn) (t : Turn) → Contains ring t → p t.tag ≡ true →
    Contains (routers_of (filter (λ (x : Turn). p x.tag) ring)) t.router
turn_passes p [] t inside is = absurd (Contains-none t inside)
turn_passes p (r ∷ rest) t inside is = by_test (λ later. turn_passes p rest t later is) (p r.tag) refl
  where
    by_test : (Contains rest t → Contains (routers_of (filter (λ (x : Turn). p x.tag) rest)) t.router) → (b : Bool) → p r.tag ≡ b →
        Contains (routers_of (cond b (r ∷ filter (λ (x : Turn). p x.tag) rest) (filter (λ (x : Turn). p x.tag) rest))) t.router
    by_test others true at = elim (Contains-cases r rest t inside) [
      | inl same ↦ subst (λ (u : ℕ). Contains (r.router ∷ routers_of (filter (λ (x : Turn). p x.tag) rest)) u) (ap (λ (x : Turn). x.router) same)
          (Contains-first r.router (routers_of (filter (λ (x : Turn). p x.tag) rest)))
      | inr later ↦ Contains-rest r.router (routers_of (filter (λ (x : Turn). p x.tag) rest)) t.router (others later)
    ]
    by_test others false at = elim (Contains-cases r rest t inside) [
      | inl same ↦ absurd (false≢true (sym at ∙ ap (λ (x : Turn). p x.tag) same ∙ is))
      | inr later ↦ others later
    ]

old_alone : (s : Tag) → is_old s ≡ true → s ≡ tag.Old
old_alone s is = grind (arith, common_steps, false≢true)

new_alone : (s : Tag) → is_new s ≡ true → s ≡ tag.New
new_alone s is = grind (arith, common_steps, false≢true)

pub old_turn : (ring : List Turn) (u : ℕ) → Contains (old_routers ring) u → TurnOf ring tag.Old u
old_turn ring u inside = turn_passed is_old tag.Old old_alone ring u inside

pub new_turn : (ring : List Turn) (u : ℕ) → Contains (new_routers ring) u → TurnOf ring tag.New u
new_turn ring u inside = turn_passed is_new tag.New new_alone ring u inside

pub old_listed : (ring : List Turn) (t : Turn) → Contains ring t → t.tag ≡ tag.Old → Contains (old_routers ring) t.router
old_listed ring t inside tagged = turn_passes is_old ring t inside (ap is_old tagged)

pub new_listed : (ring : List Turn) (t : Turn) → Contains ring t → t.tag ≡ tag.New → Contains (new_routers ring) t.router
new_listed ring t inside tagged = turn_passes is_new ring t inside (ap is_new tagged)

-- What a router steps to

-- a router that steps to h in Old and in New does so in every phase
both_step : {move : Migration} {u a h : ℕ} → Steps move u Old a h → Steps move u New a h → (phase : Phase) →
    Steps move u phase a h
both_step one two Old = one
both_step one two New = two
both_step one two Middle = elim (middle_uses_one one.uses two.uses) [
  | inl uses ↦ record { must = one.must; used = one.used; uses = uses; leads = one.leads }
  | inr uses ↦ record { must = two.must; used = two.used; uses = uses; leads = two.leads }
]

-- what it steps to in a phase it steps to in Old or in New
pub old_or_new_step : {move : Migration} {u a h : ℕ} (phase : Phase) → Steps move u phase a h →
    Steps move u Old a h ⊎ Steps move u New a h
old_or_new_step Old steps = inl steps
old_or_new_step New steps = inr steps
old_or_new_step Middle steps = elim (middle_is_old_or_new steps.uses) [
  | inl uses ↦ inl (record { must = steps.must; used = steps.used; uses = uses; leads = steps.leads })
  | inr uses ↦ inr (record { must = steps.must; used = steps.used; uses = uses; leads = steps.leads })
]

-- so is it from the phase on from which it starts
pub later_step : {move : Migration} {u a h : ℕ} (start : Phase) → Steps move u start a h → Steps move u New a h → (phase : Phase) →
    made_in start ≤ made_in phase → Steps move u phase a h
later_step Old one two phase from = both_step one two phase
later_step Middle one two Old from = absurd (omega (arith, from))
later_step Middle one two Middle from = one
later_step Middle one two New from = two
later_step New one two Old from = absurd (omega (arith, from))
later_step New one two Middle from = absurd (omega (arith, from))
later_step New one two New from = two

pub start_or_new_step : {move : Migration} {u a h : ℕ} (start phase : Phase) → made_in start ≤ made_in phase → Steps move u phase a h →
    Steps move u start a h ⊎ Steps move u New a h
start_or_new_step Old phase from steps = old_or_new_step phase steps
start_or_new_step Middle Old from steps = absurd (omega (arith, from))
start_or_new_step Middle Middle from steps = inl steps
start_or_new_step Middle New from steps = inr steps
start_or_new_step New Old from steps = absurd (omega (arith, from))
start_or_new_step New Middle from steps = absurd (omega (arith, from))
start_or_new_step New New from steps = inr steps

-- a router by its tag
tag_step : {move : Migration} {u a h : ℕ} (t : Tag) (start phase : Phase) →
    IsTagOf t (Steps move u start a h) (Steps move u New a h) → made_in start ≤ made_in phase →
    (t ≡ tag.Old → phase ≡ start) → (t ≡ tag.New → phase ≡ New) → Steps move u phase a h
tag_step {move} {u} {a} {h} tag.Old start phase is from in_old in_new = subst (λ (p : Phase). Steps move u p a h) (sym (in_old refl)) is.0
tag_step {move} {u} {a} {h} tag.New start phase is from in_old in_new = subst (λ (p : Phase). Steps move u p a h) (sym (in_new refl)) is.1
tag_step tag.Both start phase is from in_old in_new = later_step start is.0 is.1 phase from

-- the steps of a turn's router to the next one, at the start and in New
abbrev StartSteps : Migration → ℕ → Turn → ℕ → Type 0
StartSteps move a turn next = Steps move turn.router (move.start turn.router) a next

abbrev NewSteps : Migration → ℕ → Turn → ℕ → Type 0
NewSteps move a turn next = Steps move turn.router New a next

-- a tag other than Old has a step in New, a tag other than New one at the start
new_step : (old new : Type 0) (t : Tag) → IsTagOf t old new → (t ≡ tag.Old → ⊥) → new
new_step old new t is other = grind (arith, common_steps)

old_step : (old new : Type 0) (t : Tag) → IsTagOf t old new → (t ≡ tag.New → ⊥) → old
old_step old new t is other = grind (arith, common_steps)

-- each router of a loop is one of the network
pub tag_inside : (move : Migration) (u a h : ℕ) (start : Phase) (t : Tag) →
    IsTagOf t (Steps move u start a h) (Steps move u New a h) → u < length move.net
tag_inside move u a h start t is = grind (arith, common_steps)

pub loop_inside : (move : Migration) (a : ℕ) (turns : List Turn) → IsLoop move a turns → All (λ (t : Turn). t.router < length move.net) turns
loop_inside move a turns is =
    All-weaker (Contains turns) (λ (t : Turn). t.router < length move.net)
    (λ t among. let at = around_at (IsTagTo move a) turns t is.tags among in
    tag_inside move t.router a at.0.router (move.start t.router) t.tag at.1.steps) turns
    (All-contains_itself turns)

-- Where loops arise

pub loop_arises_by_tags : (move : Migration) (state : State) (a : ℕ) (ring : List Turn) → IsFromStart move state → IsLoop move a ring →
    AgreesWithTags move state ring → Arises move state a ring
loop_arises_by_tags move state a ring from is agrees =
    around_inside (IsTagTo move a) (λ (r s : Turn). StepsIn move state a r.router s.router) ring
    (λ r s inside tagged. tag_step r.tag (move.start r.router) (state r.router) tagged.steps
    (from r.router (tag_inside move r.router a s.router (move.start r.router) r.tag tagged.steps))
    (λ is_old. agrees.old r.router (old_listed ring r inside is_old)) (λ is_new. agrees.new r.router (new_listed ring r inside is_new)))
    is.tags

-- a state in which a ring arises isn't sound for its address
ring_is_unsound : {move : Migration} (state : State) {a : ℕ} (ring : List Turn) → 0 < length ring → Arises move state a ring →
    IsSoundAt move state a → ⊥
ring_is_unsound {move} state {a} ring some arises sound =
    let returns = turns_return (StepsIn move state a) ring some arises in
    sound.returns_never returns.0 returns.1.hop returns.1.hops returns.1.follows

pub arising_is_unsound : (move : Migration) (state : State) (a : ℕ) (ring : List Turn) → IsLoop move a ring →
    Arises move state a ring → IsSound move state → ⊥
arising_is_unsound move state a ring is arises sound = grind (arith, common_steps, ring_is_unsound)

-- Between sound ends

-- no router steps to itself
no_self_step : (move : Migration) (u a : ℕ) (t : Tag) → AreSoundEnds move → a < 2 ^ 32 →
    IsTagOf t (Steps move u (move.start u) a u) (Steps move u New a u) → ⊥
no_self_step move u a tag.Old ends address is = (ends.first a address).returns_never u u [] (is.0, refl)
no_self_step move u a tag.New ends address is = (ends.last a address).returns_never u u [] (is.1, refl)
no_self_step move u a tag.Both ends address is = (ends.first a address).returns_never u u [] (is.0, refl)

two_or_more : {move : Migration} {a : ℕ} (ring : List Turn) → AreSoundEnds move → a < 2 ^ 32 → 0 < length ring →
    AreTagged move a ring → 2 ≤ length ring
two_or_more [] ends address some tags = absurd (omega (arith, some))
two_or_more {move} {a} (r ∷ []) ends address some tags = absurd (no_self_step move r.router a r.tag ends address tags.steps)
two_or_more (r ∷ s ∷ rest) ends address some tags = omega arith

-- a ring without a router tagged Old arises in the last state, one without a router tagged New in the first
has_old : {move : Migration} {a : ℕ} (ring : List Turn) → AreSoundEnds move → a < 2 ^ 32 → 0 < length ring →
    AreTagged move a ring → 0 < length (old_routers ring)
has_old {move} {a} ring ends address some tags = elim (cases_lt 0 (length (old_routers ring))) [
  | inl has ↦ has
  | inr none ↦ absurd (ring_is_unsound all_new ring some
      (around_inside (IsTagTo move a) (λ (r s : Turn). Steps move r.router New a s.router) ring
      (λ r s inside tagged. new_step (StartSteps move a r s.router) (NewSteps move a r s.router) r.tag tagged.steps
      (λ is. let among = old_listed ring r inside is in let within = among.1 in omega (arith, within, none))) tags)
      (ends.last a address))
]

has_new : {move : Migration} {a : ℕ} (ring : List Turn) → AreSoundEnds move → a < 2 ^ 32 → 0 < length ring →
    AreTagged move a ring → 0 < length (new_routers ring)
has_new {move} {a} ring ends address some tags = elim (cases_lt 0 (length (new_routers ring))) [
  | inl has ↦ has
  | inr none ↦ absurd (ring_is_unsound move.start ring some
      (around_inside (IsTagTo move a) (λ (r s : Turn). Steps move r.router (move.start r.router) a s.router) ring
      (λ r s inside tagged. old_step (StartSteps move a r s.router) (NewSteps move a r s.router) r.tag tagged.steps
      (λ is. let among = new_listed ring r inside is in let within = among.1 in omega (arith, within, none))) tags)
      (ends.first a address))
]

pub loop_has_both_tags : (move : Migration) (a : ℕ) (ring : List Turn) → AreSoundEnds move → IsLoop move a ring →
    HasBothTags ring
loop_has_both_tags move a ring ends is = grind (arith, common_steps, has_new, has_old)

-- the steps of a ring's router in a state, with its tag
pub record StepsWithTag (move : Migration) (state : State) (a : ℕ) (r s : Turn) : Type 0 where
  pub tagged : IsTag move a r s.router
  pub steps : StepsIn move state a r.router s.router

steps_with_tags : {move : Migration} (state : State) {a : ℕ} (ring : List Turn) →
    AreTagged move a ring → Arises move state a ring → (r : Turn) → Contains ring r →
    (s : Turn) × StepsWithTag move state a r s
steps_with_tags {move} state {a} ring tags arises r inside =
    let both = around_at (λ (x y : Turn). IsTag move a x y.router × StepsIn move state a x.router y.router) ring r
    (around_both (IsTagTo move a) (λ (x y : Turn). StepsIn move state a x.router y.router) ring tags arises) inside in
    (both.0, record { tagged = both.1.0; steps = both.1.1 })

-- a router tagged Old doesn't step to the next one in New, and one tagged New doesn't at the start
not_new : (old new : Type 0) (t : Tag) → t ≡ tag.Old → IsTagOf t old new → new → ⊥
not_new old new t same is steps = grind (arith, common_steps)

not_old : (old new : Type 0) (t : Tag) → t ≡ tag.New → IsTagOf t old new → old → ⊥
not_old old new t same is steps = grind (arith, common_steps)

pub old_is_early : (move : Migration) (state : State) (a : ℕ) (ring : List Turn) →
    AreTagged move a ring → Arises move state a ring → (u : ℕ) → Contains (old_routers ring) u → state u ≢ New
old_is_early move state a ring tags arises u inside is_new =
    let one = old_turn ring u inside in
    let at : (s : Turn) × StepsWithTag move state a one.turn s = steps_with_tags state ring tags arises one.turn one.among in
    let here : state one.turn.router ≡ New = ap state one.router ∙ is_new in
    not_new (StartSteps move a one.turn at.0.router) (NewSteps move a one.turn at.0.router) one.turn.tag one.tagged at.1.tagged.steps
    (subst (λ (p : Phase). Steps move one.turn.router p a at.0.router) here at.1.steps)

pub new_is_late : (move : Migration) (state : State) (a : ℕ) (ring : List Turn) →
    AreTagged move a ring → Arises move state a ring → (u : ℕ) → Contains (new_routers ring) u → state u ≢ move.start u
new_is_late move state a ring tags arises u inside is_start =
    let one = new_turn ring u inside in
    let at : (s : Turn) × StepsWithTag move state a one.turn s = steps_with_tags state ring tags arises one.turn one.among in
    let here : state one.turn.router ≡ move.start one.turn.router = ap state one.router ∙ is_start ∙ sym (ap move.start one.router) in
    not_old (StartSteps move a one.turn at.0.router) (NewSteps move a one.turn at.0.router) one.turn.tag one.tagged at.1.tagged.steps
    (subst (λ (p : Phase). Steps move one.turn.router p a at.0.router) here at.1.steps)

-- a ring of distinct routers with its tags that arises between sound ends is a loop with both tags
pub ring_between_ends : (move : Migration) (state : State) (a : ℕ) (ring : List Turn) → AreSoundEnds move → a < 2 ^ 32 →
    0 < length ring → AllPairs (λ (r s : Turn). r.router ≢ s.router) ring → AreTagged move a ring →
    Arises move state a ring → IsLoopOfState move state a ring
ring_between_ends move state a ring ends address some distinct tags arises = record {
  is_loop = record { address = address; some = two_or_more ring ends address some tags; distinct = distinct; tags = tags };
  arises = arises;
  both = record { old = has_old ring ends address some tags; new = has_new ring ends address some tags };
  old_early = old_is_early move state a ring tags arises;
  new_late = new_is_late move state a ring tags arises;
}

-- the fault of an unsound state from the start on between sound ends is such a loop
pub fault_between_ends : (move : Migration) (state : State) (fault : Fault) → AreSoundEnds move → IsFromStart move state →
    IsFault move state fault → IsLoopFault move state fault
fault_between_ends move state fault ends from (missing_step {a = a} {u = u} address below must lacks lowest) =
    absurd (lacks (later_phase_steps (move.start u) ((ends.first a address).forwards u must) ((ends.last a address).forwards u must) (state u)
    (from u must.router)))
fault_between_ends move state fault ends from (loop_arises {a = a} {ring = ring} address below forwards found tags) =
    let begins = found.first in
    let some : 0 < length ring = some_turn ring found.lowest found.others begins in
    record {
      address = a;
      ring = ring;
      is = refl;
      of_state = ring_between_ends move state a ring ends address some (turns_distinct ring (found_distinct found)) tags
          (around_of_routers (StepsIn move state a) ring (found_goes_round found));
    }
