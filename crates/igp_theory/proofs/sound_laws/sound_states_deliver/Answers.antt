use Rattle.std.proofs.Common.{arith}
use Rattle.std.proofs.lemmas.Grind.{common_steps}
use Rattle.igp_theory.proofs.Delivery.{sound_delivers, delivers_sound}
use Rattle.igp_theory.proofs.sound_laws.sound_states_deliver.Goals as goal

pub returns : goal.returns
returns g c state in_old in_new = grind (arith, common_steps, delivers_sound, sound_delivers)
