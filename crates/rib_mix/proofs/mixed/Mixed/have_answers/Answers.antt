use Rattle.std.proofs.Common.{subst}
use Rattle.rib_mix.specs.Laws.{HaveAnswers}
use Rattle.rib_mix.specs.Mixture.{Mixture, migration_of}
use Rattle.rib_mix.proofs.AnswerLaws.{have_answers}
use Rattle.rib_mix.proofs.mixed.Mixed.have_answers.Goals as goal

pub returns : goal.returns
returns g c =
    subst
    (λ (x : Mixture g.row.O.Denot g.row.N.Denot). HaveAnswers (migration_of g.O.RouteSource.table g.N.RouteSource.table x)
    x.classes)
    c.self.view_is (have_answers _ _ _ c.self.invariant)
