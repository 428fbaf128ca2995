use Rattle.walk_core.proofs.WalkLaws.{least_cost_unique}
use Rattle.igp_theory.proofs.cost_laws.least_cost_is_unique.Goals as goal

pub returns : goal.returns
returns g c = λ u v c d one other. least_cost_unique one other
