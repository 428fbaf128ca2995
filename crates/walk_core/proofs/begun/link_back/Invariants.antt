use Rattle.std.proofs.Common.{IfSome}
use Rattle.walk_core.specs.steps.Begun.{IsLinkBack}
use Rattle.walk_core.proofs.begun.link_back.Given as goal

abbrev pub invariant-loop-outlet : goal.invariant-loop-outlet
invariant-loop-outlet l = IfSome l.best (IsLinkBack l.outlets l.root)
