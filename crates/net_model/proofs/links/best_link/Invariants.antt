use Rattle.std.proofs.Common.{take}
use Rattle.net_model.specs.steps.BestLinks.{BestLink}
use Rattle.net_model.proofs.links.best_link.Given as goal

abbrev pub invariant-loop-near : goal.invariant-loop-near
invariant-loop-near l = BestLink l.zone (take l.near-index l.nears) l.fars l.best
