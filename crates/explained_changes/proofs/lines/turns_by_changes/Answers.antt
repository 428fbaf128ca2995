use Rattle.igp_theory.specs.Phases.{all_old}
use Rattle.explained_changes.proofs.lines.turns_by_changes.Goals as goal

pub returns-clause-numbered : goal.returns-clause-numbered
returns-clause-numbered g c = c.number_turns.ensures.numbered all_old
