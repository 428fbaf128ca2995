use Rattle.rib_mix.specs.Mixture.{migration_of}
use Rattle.rib_mix.proofs.NextLaws.{steps_to_hops}
use Rattle.loop_finder.proofs.retag.leads.Goals as goal

pub returns : goal.returns
returns g c a inside must =
    let hops = c.next_hops.ensures.hops in
    let law = steps_to_hops (migration_of g.O.RouteSource.table g.N.RouteSource.table c.args.mixed.now) c.args.router c.args.phase a hops.next
    c.args.next (hops.is a inside) must in (
      λ is. law.1 ((hops.leads c.args.next).0 (c.is_among.ensures.0 is)),
      λ steps. c.is_among.ensures.1 ((hops.leads c.args.next).1 (law.0 steps)),
    )
