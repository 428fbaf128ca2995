-- What a step gives holds over the oracle as it was when the search began, since it means the same.
use Rattle.std.proofs.lemmas.Result.{IfOk-weaker}
use Rattle.order_search.proofs.SameMeanings.{SameMeaning-through, IsSearching-same, EndsBy-step, IsSearching-step}
use Rattle.order_search.proofs.SearchSteps.{IsFound-end}
use Rattle.order_search.proofs.depth_first.search.Goals as goal

pub take_step-requires-clause-searching : goal.take_step-requires-clause-searching
take_step-requires-clause-searching g c =
    IsSearching-same _ _ c.loop-stand.invariant.same c.args.budget c.loop-stand.stand c.loop-stand.invariant.searching

pub returns-in-Some-clause-found : goal.returns-in-Some-clause-found
returns-in-Some-clause-found g c =
    IfOk-weaker c.end.result _ _
    (λ found is. IsFound-end _ c.args.budget c.take_step.new.stand c.in-Some.ending found
    (EndsBy-step _ _ c.loop-stand.invariant.same _ _ _ c.in_ok-ending.ensures.step c.in-Some.ending c.in-Some.is) is) c.end.ensures

pub loop-stand-preserved : goal.loop-stand-preserved
loop-stand-preserved g c = record {
  searching = IsSearching-step _ _ c.loop-stand.invariant.same _ _ _ c.in_ok-ending.ensures.step c.in-None.is;
  same = SameMeaning-through _ _ _ c.loop-stand.invariant.same c.take_step.ensures.same;
}
