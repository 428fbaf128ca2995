use Rattle.equal_costs.proofs.SameStates.{states_are_sound}
use Rattle.equal_costs.proofs.laws.equal_costs_are_sound.Goals as goal

pub returns : goal.returns
returns c = states_are_sound
