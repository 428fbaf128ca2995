use Rattle.std.proofs.Common.{ℕ, sym, subst}
use Rattle.walk_core.specs.Segments.{AreSegments}
use Rattle.walk_core.proofs.outlets.all_outlets.Goals as goal

pub push_outlets-requires-clause-segments : goal.push_outlets-requires-clause-segments
push_outlets-requires-clause-segments c = subst (λ (n : ℕ). AreSegments n c.args.segments.now) (sym c.loop-place.invariant.long) c.requires
