-- What the laws of this crate say.
use Rattle.std.specs.Prelude.{ℕ, ◌<◌, ◌↔◌, length}
use Rattle.igp_theory.specs.Forwarding.{MustForward, Steps}
use Rattle.igp_theory.specs.Migrations.{Migration}
use Rattle.igp_theory.specs.declared.phase.Phase.{Phase}
use Rattle.prefix_atoms.specs.Classes.{Classes}
use Rattle.rib_mix.specs.Answers.{IsNext, IsNextOf, NextLeadsTo}
use Rattle.rib_mix.specs.declared.next.Next.{Next}

-- a router that has to pass packets on steps exactly to the hops of its answer
abbrev pub StepsAreHops : Migration → Type 0
StepsAreHops move =
    (u a h : ℕ) (phase : Phase) (next : Next) → IsNext move u phase a next → MustForward move.net a u →
    Steps move u phase a h ↔ NextLeadsTo next h

-- router u has an answer for a class in a phase
pub record HasClassAnswer (move : Migration) (classes : Classes) (u class : ℕ) (phase : Phase) : Type 0 where
  pub next : Next
  pub is : IsNextOf move classes u class phase next

-- each router has one for each class in each phase
abbrev pub HaveAnswers : Migration → Classes → Type 0
HaveAnswers move classes =
    (u class : ℕ) (phase : Phase) → u < length move.net → class < length classes.samples → HasClassAnswer move classes u class phase
