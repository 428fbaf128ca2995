use Rattle.std.proofs.Common.{refl}
use Rattle.rib_mix.specs.Mixture.{migration_of}
use Rattle.plan_theory.proofs.MiddleSteps.{middle_told}
use Rattle.plan_theory.proofs.numbers.middle_is_new.Goals as goal

pub returns : goal.returns
returns g c = λ start a class must.
    middle_told (migration_of g.O.RouteSource.table g.N.RouteSource.table c.args.mixed.now) start c.args.router a must c.args.mixed.now.classes c.args.atom
    c.hops-middle.result c.hops-new.result c.lead_alike.result class (c.hops-middle.ensures.next a class) (c.hops-new.ensures.next a class)
    (c.hops-middle.ensures.middle refl) c.lead_alike.ensures
