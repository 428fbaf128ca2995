use Rattle.std.proofs.lemmas.Grind.{common_steps}
use Rattle.std.proofs.Common.{ℕ, ◌<◌, Contains, get_or, arith, sym, ◌∙◌, subst}
use Rattle.std.proofs.lemmas.Bool.{false≢true}
use Rattle.std.proofs.lemmas.List.{get_or_default}
use Rattle.order_core.specs.Pairs.{Pair}
use Rattle.refutation_check.proofs.RingPlaces.{around_from, around_at, next_holds, places_more}
use Rattle.refutation_check.proofs.assumed.Assumed.holds_round.Goals as goal

pub loop-place-init : goal.loop-place-init
loop-place-init c = λ k d less. absurd (omega (arith, less))

pub holds-requires-clause-after_in : goal.holds-requires-clause-after_in
holds-requires-clause-after_in c =
    subst (λ (u : ℕ). u < c.args.self.now.routers) (sym (c.next_router-next.ensures 0))
    (next_holds (λ (u : ℕ). u < c.args.self.now.routers) c.args.cycle.now c.loop-place.place 0 c.requires c.loop-place-test.true)

pub returns-then-not-holds : goal.returns-then-not-holds
returns-then-not-holds c = (
  λ e. absurd (false≢true e),
  λ round.
      let here = around_at (λ (u v : ℕ). Contains c.args.self.now.pairs (u, v)) c.args.cycle.now c.loop-place.place 0 round c.loop-place-test.true in
      let told : Contains c.args.self.now.pairs (get_or c.args.cycle.now c.loop-place.place 0, c.next_router-next.result) =
      subst (λ (v : ℕ). Contains {X = Pair} c.args.self.now.pairs (get_or c.args.cycle.now c.loop-place.place 0, v))
      (sym (c.next_router-next.ensures 0)) here in
      sym c.if-not-holds.true ∙ c.holds.ensures.1 told,
)

pub loop-place-preserved : goal.loop-place-preserved
loop-place-preserved c =
    places_more (λ (u v : ℕ). Contains c.args.self.now.pairs (u, v)) c.args.cycle.now c.loop-place.place c.loop-place.invariant
    (λ d.
    let told : Contains {X = Pair} c.args.self.now.pairs (get_or c.args.cycle.now c.loop-place.place 0, c.next_router-next.result) = c.holds.ensures.0
    c.if-not-holds.false in
    subst (λ (v : ℕ). Contains {X = Pair} c.args.self.now.pairs (get_or c.args.cycle.now c.loop-place.place d, v)) (c.next_router-next.ensures d)
    (subst (λ (u : ℕ). Contains {X = Pair} c.args.self.now.pairs (u, c.next_router-next.result))
    (get_or_default c.args.cycle.now c.loop-place.place 0 d c.loop-place-test.true) told))

pub returns : goal.returns
returns c = grind (arith, common_steps, around_from)
