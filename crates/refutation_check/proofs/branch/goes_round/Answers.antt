use Rattle.std.proofs.Common.{get_or, arith, refl, sym, ◌∙◌, subst}
use Rattle.std.proofs.lemmas.Bool.{false≢true}
use Rattle.std.proofs.lemmas.List.{get_or_default}
use Rattle.igp_theory.specs.Loops.{IsTag}
use Rattle.igp_theory.specs.Migrations.{Migration}
use Rattle.order_core.specs.declared.turn.Tag.TheVariants.{Old}
use Rattle.order_core.specs.declared.turn.Turn.{Turn}
use Rattle.refutation_check.specs.steps.Judged.{started_of}
use Rattle.refutation_check.proofs.RingPlaces.{around_from, around_at, places_more}
use Rattle.refutation_check.proofs.branch.goes_round.Goals as goal

pub loop-place-init : goal.loop-place-init
loop-place-init g c = λ a class must k d less. absurd (omega (arith, less))

pub returns-then-not-is_tagged : goal.returns-then-not-is_tagged
returns-then-not-is_tagged g c = λ a class must.
    let move : Migration = started_of g.O.RouteSource.table g.N.RouteSource.table c.args.asked.now.mixed.now c.args.asked.now.start.now in
    let d : Turn = record { router = 0; tag = Old } in (
      λ e. absurd (false≢true e),
      λ round.
          let here = around_at (λ (r s : Turn). IsTag move a r s.router) c.args.turns.now c.loop-place.place d round c.loop-place-test.true in
          sym c.if-not-is_tagged.true ∙ (c.is_tagged.ensures a class (must c.loop-place.place d c.loop-place-test.true)).1
          (subst (λ (t : Turn). IsTag move a (get_or c.args.turns.now c.loop-place.place d) t.router) (sym (c.next_turn-next.ensures d)) here),
    )

pub loop-place-preserved : goal.loop-place-preserved
loop-place-preserved g c = λ a class must.
    let move : Migration = started_of g.O.RouteSource.table g.N.RouteSource.table c.args.asked.now.mixed.now c.args.asked.now.start.now in
    let e : Turn = record { router = 0; tag = Old } in
    places_more (λ (r s : Turn). IsTag move a r s.router) c.args.turns.now c.loop-place.place (c.loop-place.invariant a class must)
    (λ d.
    subst (λ (t : Turn). IsTag move a (get_or c.args.turns.now c.loop-place.place d) t.router)
    (c.next_turn-next.ensures d)
    (subst (λ (t : Turn). IsTag move a t c.next_turn-next.result.router)
    (get_or_default c.args.turns.now c.loop-place.place e d c.loop-place-test.true)
    ((c.is_tagged.ensures a class (must c.loop-place.place e c.loop-place-test.true)).0 c.if-not-is_tagged.false)))

pub returns : goal.returns
returns g c = λ a class must.
    let move : Migration = started_of g.O.RouteSource.table g.N.RouteSource.table c.args.asked.now.mixed.now c.args.asked.now.start.now in (
      λ e. around_from (λ (r s : Turn). IsTag move a r s.router) c.args.turns.now
          (λ k d within. c.loop-place.invariant a class must k d (omega (arith, within, c.loop-place-test.false))),
      λ round. refl,
    )
