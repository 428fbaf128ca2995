-- Few rising pairs are a base.
use Rattle.order_search.proofs.RisingPairs.{IsBase-rising}
use Rattle.worked_examples.proofs.wanting.WantingOracle.base.Goals as goal

pub returns-clause-is_base : goal.returns-clause-is_base
returns-clause-is_base c =
    let oracle = c.args.self.now in
    IsBase-rising oracle.size oracle.base.now oracle.base_few oracle.base_rises
