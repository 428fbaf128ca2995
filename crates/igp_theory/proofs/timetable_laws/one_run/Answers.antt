use Rattle.igp_theory.specs.Timetables.{MayPrecede}
use Rattle.igp_theory.proofs.OnesRuns.{same_in_turn}
use Rattle.igp_theory.proofs.timetable_laws.one_run.Goals as goal

pub returns : goal.returns
returns c n time run other apart is too = same_in_turn (MayPrecede time) run other is.in_turn too.in_turn
    (λ x y left right. apart x y ((is.all x).0 left) ((is.all y).0 right)) (λ x inside. (too.all x).1 ((is.all x).0 inside))
    (λ x inside. (is.all x).1 ((too.all x).0 inside))
