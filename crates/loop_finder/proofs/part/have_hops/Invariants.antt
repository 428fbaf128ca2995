use Rattle.std.proofs.Common.{ℕ, ◌<◌, get_or}
use Rattle.loop_finder.specs.Mixes.{mix_of, class_in}
use Rattle.loop_finder.specs.Parts.{no_hops}
use Rattle.loop_finder.specs.steps.PartRows.{HasHops}
use Rattle.loop_finder.proofs.part.have_hops.Given as goal

abbrev pub invariant-loop-router : goal.invariant-loop-router
invariant-loop-router g l =
    (u : ℕ) → u < l.router → HasHops (class_in (mix_of g.O.RouteSource.table g.N.RouteSource.table l.mixed) l.atom) l.marks u (get_or l.rows u no_hops)
