-- Tags, told by two tests.
use Rattle.std.proofs.Common.{arith}
use Rattle.std.proofs.lemmas.Grind.{common_steps}
use Rattle.std.proofs.Common.{◌≡◌, ℕ, ◌↔◌, Bool, IsTrue, sym, ◌∙◌}
use Rattle.std.proofs.lemmas.Bool.{false≢true}
use Rattle.igp_theory.specs.Forwarding.{MustForward, Steps}
use Rattle.igp_theory.specs.Loops.{IsTag, IsTagOf}
use Rattle.igp_theory.specs.Migrations.{Migration, started}
use Rattle.igp_theory.specs.Phases.{State}
use Rattle.igp_theory.specs.declared.phase.Phase.{Phase}
use Rattle.igp_theory.specs.declared.phase.Phase.TheVariants.{New}
use Rattle.order_core.specs.declared.turn.Tag.{Tag}
use Rattle.order_core.specs.declared.turn.Turn.{Turn}
use Rattle.rib_mix.specs.Answers.{IsNext, NextLeadsTo}
use Rattle.rib_mix.specs.declared.next.Next.{Next}
use Rattle.rib_mix.proofs.NextLaws.{steps_to_hops}
use Rattle.plan_theory.proofs.StartedSteps.{steps_started}
use Rattle.refutation_check.specs.steps.Right.{tells}

told : (t : Tag) (old new : Bool) (P Q : Type 0) → (IsTrue old ↔ P) → (IsTrue new ↔ Q) → IsTrue (tells t old new) ↔ IsTagOf t P Q
told t old new P Q p q = grind (arith, common_steps, false≢true)

-- the tag of a turn, by two tests for its router's steps to the next one
pub tag_told : (move : Migration) (a : ℕ) (turn : Turn) (next : ℕ) (b c result : Bool) →
    (IsTrue b ↔ Steps move turn.router (move.start turn.router) a next) → (IsTrue c ↔ Steps move turn.router New a next)
    → result ≡ tells turn.tag b c → IsTrue result ↔ IsTag move a turn next
tag_told move a turn next b c result by_old by_new is =
    let tagged = told turn.tag b c (Steps move turn.router (move.start turn.router) a next) (Steps move turn.router New a next) by_old by_new in
    (λ e. record { steps = tagged.0 (sym is ∙ e) }, λ t. is ∙ tagged.1 t.steps)

-- a test for what an answer forwards to is one for the steps of its router, wherever the migration starts
pub hops_told : (move : Migration) (start : State) (u : ℕ) (phase : Phase) (a : ℕ) (next : Next) (h : ℕ) (b : Bool) → IsNext move u phase a next →
    MustForward move.net a u → (IsTrue b ↔ NextLeadsTo next h) → IsTrue b ↔ Steps (started start move) u phase a h
hops_told move start u phase a next h b is must by_next =
    let law = steps_to_hops move u phase a next h is must in (
      λ e. steps_started move start (law.1 (by_next.0 e)),
      λ steps. by_next.1 (law.0 (steps_started (started start move) move.start steps)),
    )
