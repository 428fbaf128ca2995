use Rattle.walk_core.proofs.WalkLaws.{best_cost_unique}
use Rattle.igp_theory.proofs.cost_laws.best_cost_is_unique.Goals as goal

pub returns : goal.returns
returns g c = λ u c d one other. best_cost_unique one other
