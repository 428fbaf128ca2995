use Rattle.order_search.proofs.assumptions.Assumptions.layers.Goals as goal

pub returns-clause-layered : goal.returns-clause-layered
returns-clause-layered c = rw (← c.self.view_is)
    (record { below = c.layers.ensures.below; acyclic = c.layers.ensures.acyclic; layers = c.layers.ensures.layers })
