use Rattle.loop_finder.proofs.class_steps.ClassSteps.leads.Goals as goal

pub returns : goal.returns
returns g c = (
  λ is. (c.hops_in.ensures c.args.hop).0 (c.is_among.ensures.0 is),
  λ steps. c.is_among.ensures.1 ((c.hops_in.ensures c.args.hop).1 steps),
)
