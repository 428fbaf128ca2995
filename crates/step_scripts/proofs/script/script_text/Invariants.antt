use Rattle.std.proofs.Common.{◌≡◌, take}
use Rattle.order_core.specs.Rankings.{flat_of}
use Rattle.igp_theory.specs.Waves.{run_along}
use Rattle.printed_lines.specs.Texts.{text_of}
use Rattle.step_scripts.specs.Scripts.{change_parts, scripted}
use Rattle.step_scripts.proofs.script.script_text.Given as goal

abbrev pub invariant-loop-place : goal.invariant-loop-place
invariant-loop-place l = l.text ≡ text_of (change_parts (scripted l.script.version l.net l.waves) 0 (run_along (take l.place (flat_of l.waves))))
