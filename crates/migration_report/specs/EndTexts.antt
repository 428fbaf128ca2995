-- What is printed of an end of a migration that isn't sound.
use Rattle.std.specs.Prelude.{ℕ, ◌<◌, List, ◌∷◌, All, codes}
use Rattle.order_core.specs.declared.turn.Turn.{Turn}
use Rattle.igp_theory.specs.Loops.{Fault}
use Rattle.plan_theory.specs.declared.planned.EndFault.{EndFault}
use Rattle.plan_theory.specs.declared.planned.EndFault.TheVariants.{Loop, Missing}
use Rattle.printed_lines.specs.Texts.{line}
use Rattle.migration_report.specs.Texts.{fault_words}
use Rattle.migration_report.specs.declared.ends.End.{End}
use Rattle.migration_report.specs.declared.ends.End.TheVariants.{Old, New, Start}

-- the word for an end: every router is in its old phase there, or in its new one, or it is the state in which a migration was stopped
abbrev pub end_word : End → List ℕ
end_word Old = codes "old"
end_word New = codes "new"
end_word Start = codes "start"

-- an end isn't sound: what is wrong there, by the names of the routers
abbrev pub unsound_text : End → List (List ℕ) → Fault → List ℕ
unsound_text end names fault = line (codes "unsound") (end_word end ∷ fault_words names fault)

-- the routers that the fault of an end names are below the count
abbrev pub EndFaultBelow : ℕ → EndFault → Type 0
EndFaultBelow count (Loop _ turns) = All (λ (turn : Turn). turn.router < count) turns
EndFaultBelow count (Missing _ u) = u < count
