use Rattle.std.proofs.Common.{◌≡◌, ap, ◌∙◌}
use Rattle.std.proofs.lemmas.Result.{IfOk-weaker}
use Rattle.igp_theory.specs.Phases.{all_old, state_in}
use Rattle.loop_finder.specs.Faults.{Finding}
use Rattle.igp_theory.proofs.ListedStates.{replicated_old}
use Rattle.loop_finder.proofs.finder.Finder.new.Goals as goal

pub returns-clause-start : goal.returns-clause-start
returns-clause-start g c =
    IfOk-weaker c.over.result (λ (finder : Finding g.row.O.Denot g.row.N.Denot). finder.start ≡ c.in_ok-start.start.items)
    (λ (finder : Finding g.row.O.Denot g.row.N.Denot). state_in finder.start ≡ all_old)
    (λ finder is. ap state_in is ∙ replicated_old c.in_ok-start.start.items c.routers.result (c.in_ok-start.ensures.items_if_clones_equal (λ y same. same)))
    c.over.ensures.start
