-- The waves in which the turns of a loop are switched.
use Rattle.std.proofs.lemmas.Grind.{common_steps}
use Rattle.std.proofs.Common.{◌≡◌, ℕ, ◌+◌, ◌<◌, ◌≤◌, ◌↔◌, inl, inr, if◌then◌else◌, List, arith, refl, sym, ap, ◌∙◌, subst}
use Rattle.std.proofs.lemmas.Bool.{cases_lt}
use Rattle.order_core.specs.Rankings.{rank_of}
use Rattle.order_core.specs.declared.turn.Turn.{Turn}
use Rattle.igp_theory.specs.Forwarding.{Steps}
use Rattle.igp_theory.specs.Loops.{IsTagOf, IsTag}
use Rattle.igp_theory.specs.Migrations.{Migration}
use Rattle.igp_theory.specs.Phases.{State}
use Rattle.igp_theory.specs.TimetableLaws.{SwitchesIn, IsSwitch, at_first, at_second}
use Rattle.igp_theory.specs.Timetables.{Timetable, IsTimetable, is_made, state_before, router_times, change_times}
use Rattle.igp_theory.specs.Changes.{Change, first, second}
use Rattle.igp_theory.specs.declared.phase.Phase.{Phase}
use Rattle.igp_theory.specs.declared.phase.Phase.TheVariants.{Old, Middle, New}
use Rattle.igp_theory.proofs.Timetables.{before_new, before_middle, before_old}

-- a turn is switched in wave k, where its router steps as at the start up to when k begins, and as in New from when it ends
record StepsUpTo (move : Migration) (time : Timetable) (a u next k : ℕ) : Type 0 where
  upto : (w : ℕ) → 1 ≤ w → w ≤ k → Steps move u (state_before time w u) a next ↔ Steps move u (move.start u) a next
  from : (w : ℕ) → k < w → Steps move u (state_before time w u) a next ↔ Steps move u New a next

switches : (move : Migration) (time : Timetable) (a : ℕ) (turn : Turn) (next k : ℕ) → 1 ≤ k → StepsUpTo move time a turn.router next k →
    IsTag move a turn next → SwitchesIn move time a turn next k
switches move time a turn next k some steps tagged = record {
  from_one = some;
  old = λ is w one.
      let step = subst (λ t. IsTagOf t (Steps move turn.router (move.start turn.router) a next) (Steps move turn.router New a next)) is tagged.steps in (
        λ round. elim (cases_lt k w) [
          | inr upto ↦ upto
          | inl later ↦ absurd (step.1 (elim round [
            | inl begins ↦ (steps.from w later).0 begins
            | inr ends ↦ (steps.from (w + 1) (omega (arith, later))).0 ends
          ]))
        ],
        λ upto. inl ((steps.upto w one upto).1 step.0),
      );
  new = λ is w one.
      let step = subst (λ t. IsTagOf t (Steps move turn.router (move.start turn.router) a next) (Steps move turn.router New a next)) is tagged.steps in (
        λ round. elim (cases_lt w k) [
          | inr from ↦ from
          | inl before ↦ absurd (step.0 (elim round [
            | inl begins ↦ (steps.upto w one (omega (arith, before))).0 begins
            | inr ends ↦ (steps.upto (w + 1) (omega arith) (omega (arith, before))).0 ends
          ]))
        ],
        λ from. inr ((steps.from (w + 1) (omega (arith, from))).1 step.1),
      );
}

-- phases that are one step alike
same_steps : {move : Migration} {u a h : ℕ} (one other : Phase) → one ≡ other → Steps move u one a h ↔ Steps move u other a h
same_steps {move} {u} {a} {h} one other same = grind (arith, common_steps)

-- Routers

-- a router begins in its phase of the start, and is New from the wave after its own on
module _ (start : State) (ranks : List ℕ) (u : ℕ) where
  -- what is done at the start stands in wave 0, the rest in the router's wave
  abbrev times_by : Change → Phase → ℕ
  times_by c phase = if is_made phase c then 0 else rank_of ranks u + 1

  pub router_before : (w : ℕ) (phase : Phase) → start u ≡ phase → 1 ≤ w → w ≤ rank_of ranks u + 1 → state_before (router_times start ranks) w u ≡ phase
  router_before w Old is one upto =
      let two = ap (times_by (second u)) is in
      let early = ap (times_by (first u)) is in
      before_old (router_times start ranks) w u (omega (arith, early, upto)) (omega (arith, two, upto))
  router_before w Middle is one upto =
      let two = ap (times_by (second u)) is in
      let early = ap (times_by (first u)) is in
      before_middle (router_times start ranks) w u (omega (arith, early, one)) (omega (arith, two, upto))
  router_before w New is one upto =
      let two = ap (times_by (second u)) is in
      before_new (router_times start ranks) w u (omega (arith, two, one))

  pub router_after : (w : ℕ) (phase : Phase) → start u ≡ phase → rank_of ranks u + 1 < w → state_before (router_times start ranks) w u ≡ New
  router_after w Old is after = let two = ap (times_by (second u)) is in before_new (router_times start ranks) w u (omega (arith, two, after))
  router_after w Middle is after = let two = ap (times_by (second u)) is in before_new (router_times start ranks) w u (omega (arith, two, after))
  router_after w New is after = let two = ap (times_by (second u)) is in before_new (router_times start ranks) w u (omega (arith, two, after))

-- the times of routers are a timetable of their start
pub routers_have_times : (n : ℕ) (start : State) (ranks : List ℕ) → IsTimetable n start (router_times start ranks)
routers_have_times n start ranks = record {
  in_order = λ u. in_order u (start u) refl;
  begins = λ u below. router_before start ranks u 1 (start u) refl (omega arith) (omega arith);
}
  where
    in_order : (u : ℕ) (phase : Phase) → start u ≡ phase → router_times start ranks (first u) ≤ router_times start ranks (second u)
    in_order u Old is =
        let one = ap (times_by start ranks u (first u)) is in let two = ap (times_by start ranks u (second u)) is in omega (arith, one, two)
    in_order u Middle is = let one = ap (times_by start ranks u (first u)) is in omega (arith, one)
    in_order u New is = let one = ap (times_by start ranks u (first u)) is in omega (arith, one)

pub router_switches : (move : Migration) (ranks : List ℕ) (a : ℕ) (turn : Turn) (next : ℕ) → IsTag move a turn next →
    SwitchesIn move (router_times move.start ranks) a turn next (rank_of ranks turn.router + 1)
router_switches move ranks a turn next tagged =
    switches move (router_times move.start ranks) a turn next (rank_of ranks turn.router + 1) (omega arith) (record {
      upto = λ w one upto. same_steps _ _ (router_before move.start ranks turn.router w (move.start turn.router) refl one upto);
      from = λ w after. same_steps _ _ (router_after move.start ranks turn.router w (move.start turn.router) refl after);
    }) tagged

-- Changes

through_same : {P Q R : Type 0} → P ↔ Q → Q ↔ R → P ↔ R
through_same one two = (λ p. two.0 (one.0 p), λ r. one.1 (two.1 r))

-- a router that begins in Old is in Middle between its changes
module _ (move : Migration) (time : Timetable) (a u next : ℕ) (begins : move.start u ≡ Old) (turn : time (first u) ≤ time (second u)) where
  in_old : (w : ℕ) → w ≤ time (first u) → Steps move u (state_before time w u) a next ↔ Steps move u (move.start u) a next
  in_old w upto = same_steps _ _ (before_old time w u upto (omega (arith, upto, turn)) ∙ sym begins)

  in_new : (w : ℕ) → time (second u) < w → Steps move u (state_before time w u) a next ↔ Steps move u New a next
  in_new w after = same_steps _ _ (before_new time w u after)

  in_middle : (w : ℕ) → time (first u) < w → w ≤ time (second u) → Steps move u (state_before time w u) a next ↔ Steps move u Middle a next
  in_middle w after upto = same_steps _ _ (before_middle time w u after upto)

  at_switch : (c : Change) → IsSwitch move u a c → StepsUpTo move time a u next (time c)
  at_switch _ (at_first as_new) = record {
    upto = λ w one upto. in_old w upto;
    from = λ w after. elim (cases_lt (time (second u)) w) [
      | inl both ↦ in_new w both
      | inr half ↦ through_same (in_middle w after half) (as_new next)
    ];
  }
  at_switch _ (at_second as_old not_new) = record {
    upto = λ w one upto. elim (cases_lt (time (first u)) w) [
      | inl half ↦ through_same (in_middle w half upto) (through_same (as_old next) (same_steps _ _ (sym begins)))
      | inr none ↦ in_old w none
    ];
    from = λ w after. in_new w after;
  }

pub change_switches : (move : Migration) (ranks : List ℕ) (a : ℕ) (turn : Turn) (next : ℕ) (c : Change) → move.start turn.router ≡ Old →
    IsTag move a turn next → change_times ranks (first turn.router) ≤ change_times ranks (second turn.router) → IsSwitch move turn.router a c →
    SwitchesIn move (change_times ranks) a turn next (change_times ranks c)
change_switches move ranks a turn next c begins tagged in_order is =
    switches move (change_times ranks) a turn next (change_times ranks c) (omega arith)
    (at_switch move (change_times ranks) a turn.router next begins in_order c is) tagged

pub one_switch : (move : Migration) (u a : ℕ) (c d : Change) → IsSwitch move u a c → IsSwitch move u a d → c ≡ d
one_switch move u a c d it_5 it_6 = grind (arith, common_steps)
