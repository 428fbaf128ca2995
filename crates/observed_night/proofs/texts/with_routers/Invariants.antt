use Rattle.std.proofs.Common.{◌≡◌, ◌++◌, take}
use Rattle.igp_theory.specs.Phases.{state_in}
use Rattle.printed_lines.specs.Texts.{text_of}
use Rattle.observed_night.specs.ObservedTexts.{lines_along}
use Rattle.observed_night.proofs.texts.with_routers.Given as goal

abbrev pub invariant-loop-router : goal.invariant-loop-router
invariant-loop-router l = l.text ≡ l.initial.text ++ text_of (lines_along l.net (state_in l.phases) (take l.router-index l.routers))
