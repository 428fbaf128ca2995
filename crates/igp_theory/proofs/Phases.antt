-- Phases by how many of a router's changes are made in them.
use Rattle.std.proofs.lemmas.Grind.{common_steps}
use Rattle.std.proofs.Common.{◌≡◌, ℕ, ◌+◌, ◌≤◌, ◌⊎◌, inl, inr, if◌then◌else◌, Bool, true, min, arith, sym, ap, ◌∙◌}
use Rattle.igp_theory.specs.Forwarding.{Steps}
use Rattle.igp_theory.specs.Migrations.{Migration}
use Rattle.igp_theory.specs.Phases.{made_in}
use Rattle.igp_theory.specs.States.{phase_after}
use Rattle.igp_theory.specs.Timetables.{IsBetweenPhases, is_made}
use Rattle.igp_theory.specs.Changes.{first, second}
use Rattle.igp_theory.specs.declared.phase.Phase.{Phase}
use Rattle.igp_theory.specs.declared.phase.Phase.TheVariants.{Old, Middle, New}
use Rattle.igp_theory.proofs.LoopLaws.{old_or_new_step}

-- at most two changes are made in a phase, and they lead to it
pub made_in_few : (phase : Phase) → made_in phase ≤ 2
made_in_few phase = grind (arith, common_steps)

pub phase_reached : (phase : Phase) → phase_after (made_in phase) ≡ phase
phase_reached phase = grind (arith, common_steps)

pub made_after : (k : ℕ) → made_in (phase_after k) ≡ min 2 k
made_after k = grind (arith, common_steps)

-- how many changes a fact counts
abbrev pub tally : Bool → ℕ
tally b = if b then 1 else 0

-- the changes that are made in a phase, one by one
pub made_one_by_one : (phase : Phase) (u : ℕ) → made_in phase ≡ tally (is_made phase (first u)) + tally (is_made phase (second u))
made_one_by_one phase u = grind (arith, common_steps)

-- where a router's second change is made, so is its first
pub second_after_first : (phase : Phase) (u : ℕ) → is_made phase (second u) ≡ true → is_made phase (first u) ≡ true
second_after_first phase u made = grind (arith, common_steps)

-- phases in which as many changes are made are one
pub phases_same : (one other : Phase) → made_in one ≡ made_in other → one ≡ other
phases_same one other same = sym (phase_reached one) ∙ ap phase_after same ∙ phase_reached other

-- what a router steps to in a phase between two it steps to in one of both
pub step_of_ends : {move : Migration} {u a h : ℕ} (one other phase : Phase) → IsBetweenPhases one other phase → Steps move u phase a h →
    Steps move u one a h ⊎ Steps move u other a h
step_of_ends Old other Old between steps = inl steps
step_of_ends Middle other Old between steps = absurd (let from = between.from in omega (arith, from))
step_of_ends New other Old between steps = absurd (let from = between.from in omega (arith, from))
step_of_ends Old Old Middle between steps = absurd (let upto = between.upto in omega (arith, upto))
step_of_ends Old Middle Middle between steps = inr steps
step_of_ends Old New Middle between steps = old_or_new_step Middle steps
step_of_ends Middle other Middle between steps = inl steps
step_of_ends New other Middle between steps = absurd (let from = between.from in omega (arith, from))
step_of_ends one Old New between steps = absurd (let upto = between.upto in omega (arith, upto))
step_of_ends one Middle New between steps = absurd (let upto = between.upto in omega (arith, upto))
step_of_ends one New New between steps = inr steps
