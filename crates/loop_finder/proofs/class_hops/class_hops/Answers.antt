use Rattle.loop_finder.proofs.ClassFacts.{steps_to_those}
use Rattle.loop_finder.specs.Mixes.{mix_of, class_in}
use Rattle.loop_finder.proofs.class_hops.class_hops.Goals as goal

pub returns : goal.returns
returns g c =
    steps_to_those (class_in (mix_of g.O.RouteSource.table g.N.RouteSource.table c.args.mixed.now) c.args.atom) c.args.router c.args.phase
    c.next_hops.result.now c.next_hops.ensures.least c.next_hops.ensures.hops ((c.requires.forwards c.args.router).0 c.if-not-forwards-router.false)
