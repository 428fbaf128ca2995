use Rattle.std.proofs.Common.{◌≡◌, ◌∷◌, [], take}
use Rattle.refutation_check.proofs.judge.walk_past.Given as goal

abbrev pub invariant-loop-before : goal.invariant-loop-before
invariant-loop-before l = (l.walk.left ≡ take l.before-index l.base ∷ []) × (l.walk.routers ≡ l.initial.walk.routers)
