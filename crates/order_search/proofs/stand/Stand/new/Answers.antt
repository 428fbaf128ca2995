use Rattle.std.proofs.Common.{refl, ◌∙◌}
use Rattle.order_search.proofs.SearchSteps.{IsSearching-begin}
use Rattle.order_search.proofs.stand.Stand.new.Goals as goal

pub returns : goal.returns
returns g c = λ budget.
    IsSearching-begin _ budget _ c.base.ensures.is_base (c.in_ok-new.ensures.routers ∙ c.size-size.ensures) (c.in_ok-vec.ensures.len ∙ c.size-size.ensures)
    (c.in_ok-new.ensures.pairs ∙ c.base.ensures.pairs) c.in_ok-new-2.ensures c.new-3.ensures refl
