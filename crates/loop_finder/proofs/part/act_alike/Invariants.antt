use Rattle.std.proofs.Common.{ℕ, ◌<◌, get_or}
use Rattle.order_core.specs.Marks.{IsMarked}
use Rattle.loop_finder.specs.Mixes.{mix_of}
use Rattle.loop_finder.specs.Parts.{no_hops}
use Rattle.loop_finder.specs.steps.PartRows.{ActsAlikeAt}
use Rattle.loop_finder.proofs.part.act_alike.Given as goal

abbrev pub invariant-loop-router : goal.invariant-loop-router
invariant-loop-router g l = (u : ℕ) → u < l.router → IsMarked l.marks u
    → ActsAlikeAt (mix_of g.O.RouteSource.table g.N.RouteSource.table l.mixed) (get_or l.rows u no_hops) u l.classes.0 l.classes.1
