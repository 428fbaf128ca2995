use Rattle.std.proofs.Common.{subst}
use Rattle.prefix_atoms.specs.Classes.{Classes, IsInClass}
use Rattle.rib_mix.specs.Mixture.{migration_of}
use Rattle.explained_texts.proofs.Lacking.{nowhere_lacks, on_true, somewhere_has}
use Rattle.explained_texts.proofs.way.lacks_step.Goals as goal

pub returns-clause-lacks : goal.returns-clause-lacks
returns-clause-lacks g c =
    on_true c.leads_nowhere.result _ _ (nowhere_lacks (migration_of g.O.RouteSource.table g.N.RouteSource.table c.args.mixed.now) c.args.router c.args.phase
    c.args.a c.hops.result (c.hops.ensures.next c.args.a
    (subst (λ (k : Classes). IsInClass k c.of-atom.result c.args.a) c.atoms.ensures.atoms c.of-atom.ensures)))
    c.leads_nowhere.ensures.none

pub returns-clause-has : goal.returns-clause-has
returns-clause-has g c = λ no.
    somewhere_has (migration_of g.O.RouteSource.table g.N.RouteSource.table c.args.mixed.now) c.args.router c.args.phase
    c.args.a c.hops.result (c.hops.ensures.next c.args.a
    (subst (λ (k : Classes). IsInClass k c.of-atom.result c.args.a) c.atoms.ensures.atoms c.of-atom.ensures)) c.requires
    (c.leads_nowhere.ensures.some no)
