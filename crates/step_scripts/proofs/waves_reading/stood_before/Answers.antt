use Rattle.std.proofs.Common.{arith}
use Rattle.std.proofs.lemmas.Grind.{common_steps}
use Rattle.std.proofs.Common.{refl}
use Rattle.std.proofs.lemmas.List.Elements.{Contains-append_cases, Contains-append_left, Contains-append_right}
use Rattle.step_scripts.specs.WaveFiles.{all_in}
use Rattle.step_scripts.proofs.WaveLists.{in_all}
use Rattle.step_scripts.proofs.waves_reading.stood_before.Goals as goal

pub returns-in-Some : goal.returns-in-Some
returns-in-Some c = (
  λ _. Contains-append_left (all_in c.args.seats.now) c.args.before.now c.args.router (in_all c.args.seats.now _ c.args.router c.in-Some.ensures.among),
  λ _. refl,
)

pub returns-in-None : goal.returns-in-None
returns-in-None c = grind (arith, common_steps, Contains-append_cases, Contains-append_right)
