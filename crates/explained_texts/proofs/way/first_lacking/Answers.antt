use Rattle.std.proofs.Common.{◌≡◌, ◌∙◌, subst, sym}
use Rattle.std.proofs.lemmas.Bool.{false≢true}
use Rattle.igp_theory.specs.Forwarding.{HasStep}
use Rattle.igp_theory.specs.declared.phase.Phase.{Phase}
use Rattle.igp_theory.specs.declared.phase.Phase.TheVariants.{Old}
use Rattle.rib_mix.specs.Mixture.{migration_of}
use Rattle.explained_texts.specs.FaultPlaces.{span_of}
use Rattle.explained_texts.specs.WayTexts.{IsFirstLacking}
use Rattle.explained_texts.proofs.Lacking.{last_lacks, middle_lacks}
use Rattle.explained_texts.proofs.way.first_lacking.Goals.{in-Old, in_default}
use Rattle.explained_texts.proofs.way.first_lacking.Goals.{else-matches-via-then-matches+else-lacks_step-2, else-matches-via-else-matches}
use Rattle.explained_texts.proofs.way.first_lacking.Goals as goal

pub returns-then-lacks_step-2 : goal.returns-then-lacks_step-2
returns-then-lacks_step-2 g c =
    let move = migration_of g.O.RouteSource.table g.N.RouteSource.table c.args.mixed.now in
    let old : c.first-first.result ≡ Old = elim c.match-matches.branch [
      | in-Old w ↦ w.in-Old.is
      | in_default w ↦ absurd (false≢true (sym w.matches-is ∙ c.if-matches.true))
    ] in
    middle_lacks move (span_of c.args.place) c.args.a c.args.router c.requires.must c.requires.some
    (subst (λ (p : Phase). HasStep move c.args.router p c.args.a) c.first-first.ensures (c.lacks_step.ensures.has c.if-lacks_step.false))
    (sym c.first-first.ensures ∙ old) c.if-lacks_step-2.ensures.lacks

pub returns : goal.returns
returns g c =
    let move = migration_of g.O.RouteSource.table g.N.RouteSource.table c.args.mixed.now in
    subst (IsFirstLacking move (span_of c.args.place) c.args.a c.args.router) (sym c.last-last.ensures)
    (last_lacks move (span_of c.args.place) c.args.a c.args.router c.requires.must c.requires.some
    (subst (λ (p : Phase). HasStep move c.args.router p c.args.a) c.first-first.ensures (c.lacks_step.ensures.has c.if-lacks_step.false))
    (λ old. elim c.else-matches.branch [
      | else-matches-via-then-matches+else-lacks_step-2 w ↦ w.lacks_step-then-matches.ensures.has w.if-lacks_step-2.false
      | else-matches-via-else-matches w ↦ elim c.match-matches.branch [
        | in-Old v ↦ absurd (false≢true (sym w.if-matches.false ∙ v.matches-is))
        | in_default v ↦ absurd (v.in_default.not-Old (c.first-first.ensures ∙ old))
      ]
    ]))
