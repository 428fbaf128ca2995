use Rattle.std.proofs.Common.{ℕ, ◌<◌, Bool, List, sym, subst, ◌∙◌}
use Rattle.network_survey.specs.steps.Reached.{AreReachedSoFar}
use Rattle.network_survey.proofs.ReachFacts.{AreReachedSoFar-first, CutOff-from}
use Rattle.network_survey.proofs.joined.cut_off_by.Goals as goal

pub reach-requires-clause-reached : goal.reach-requires-clause-reached
reach-requires-clause-reached c = record { router = λ x k. subst (λ (n : ℕ). x.router < n) (sym c.mark.auto.marks) (c.requires.ports.router x k) }

pub returns : goal.returns
returns c net lists long =
    let first = AreReachedSoFar-first net c.args.reached.now c.args.done.now c.requires.reached c.requires.done (sym long) (c.requires.count ∙ sym long) in
    let marked = subst (λ (l : List Bool). AreReachedSoFar net l c.args.done.now) (sym c.mark.ensures) first in
    CutOff-from net c.reach.new.reached c.reach.new.done (c.reach.ensures.reached net lists marked) c.reach.ensures.all_done c.lowest_unmarked.result
    c.lowest_unmarked.ensures
