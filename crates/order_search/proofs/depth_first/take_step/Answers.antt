-- The place is visited; where its list is broken it becomes a branch, and the next child is the place.
use Rattle.std.proofs.Common.{ℕ, List, sym, subst, refl, ◌∙◌, arith}
use Rattle.std.proofs.lemmas.Bool.{OnTrue_at, OnFalse_at}
use Rattle.order_search.specs.steps.Waiting.{children_below, IsUnder}
use Rattle.order_search.proofs.RankFacts.{not_good}
use Rattle.order_search.proofs.SearchSteps.{IsAsked-visited, branch_is_made, place_is_next, tree_is_closed}
use Rattle.order_search.proofs.depth_first.take_step.Goals as goal

pub returns-then-stand-budget-clause-step : goal.returns-then-stand-budget-clause-step
returns-then-stand-budget-clause-step g c =
    let asked = IsAsked-visited _ c.args.budget c.args.stand.now c.visit.new.held c.visit.new.ranks c.requires.searching c.visit.ensures.same
    (omega (arith, c.visit.auto.ranks, c.deref_mut.ensures.len, c.requires.searching.room)) c.visit.ensures.layered in
    let told = c.in-Breaks.ensures.breaks c.in-Breaks.address refl in
    let bad = not_good _ _ _ _ told
    ((g.met.Q.Oracle.decisive c.args.oracle.now).decides c.in-Breaks.address (g.Q.Oracle.shown c.visit.new.oracle) c.visit.new.ranks told.is_real told.both) in
    (asked.0, (λ good. bad (subst (λ (xs : List ℕ). (g.Q.Oracle.meaning c.args.oracle.now).good xs) asked.1 good)), c.if-stand-budget.true)

pub go_below-requires-clause-some : goal.go_below-requires-clause-some
go_below-requires-clause-some g c =
    let told = c.in-Breaks.ensures.breaks c.in-Breaks.address refl in
    rw c.turns.ensures told.both.new

pub go_below-requires-clause-stands : goal.go_below-requires-clause-stands
go_below-requires-clause-stands g c =
    let asked = IsAsked-visited _ c.args.budget c.args.stand.now c.visit.new.held c.visit.new.ranks c.requires.searching c.visit.ensures.same
    (omega (arith, c.visit.auto.ranks, c.deref_mut.ensures.len, c.requires.searching.room)) c.visit.ensures.layered in
    let branched = branch_is_made _ c.args.budget _ c.visit.new.ranks c.in-Breaks.address c.turns.result.now _ asked
    (c.in-Breaks.ensures.breaks c.in-Breaks.address refl) c.turns.ensures c.if-stand-budget.false in (
      (g.Q.Oracle.meaning c.args.oracle.now).base,
      subst (λ (n : ℕ). IsUnder n ((g.Q.Oracle.meaning c.args.oracle.now).base) c.visit.new.held.pairs
          (children_below c.visit.new.held.pairs c.turns.result.now c.args.stand.now.waiting))
          (sym asked.0.searching.routers) branched.under,
    )

pub returns-then-more-clause-step : goal.returns-then-more-clause-step
returns-then-more-clause-step g c =
    let asked = IsAsked-visited _ c.args.budget c.args.stand.now c.visit.new.held c.visit.new.ranks c.requires.searching c.visit.ensures.same
    (omega (arith, c.visit.auto.ranks, c.deref_mut.ensures.len, c.requires.searching.room)) c.visit.ensures.layered in
    let branched = branch_is_made _ c.args.budget _ c.visit.new.ranks c.in-Breaks.address c.turns.result.now _ asked
    (c.in-Breaks.ensures.breaks c.in-Breaks.address refl) c.turns.ensures c.if-stand-budget.false in
    let routers = c.in_ok-more.ensures.routers ∙ asked.0.searching.routers in
    let stands = c.in_ok-more.ensures.stands ((g.Q.Oracle.meaning c.args.oracle.now).base)
    (subst (λ (n : ℕ). IsUnder n ((g.Q.Oracle.meaning c.args.oracle.now).base) c.visit.new.held.pairs
    (children_below c.visit.new.held.pairs c.turns.result.now c.args.stand.now.waiting)) (sym asked.0.searching.routers) branched.under) in
    place_is_next _ c.args.budget _ _ branched (OnTrue_at c.if-more.true c.in_ok-more.ensures.found)
    (subst (λ (n : ℕ). IsUnder n ((g.Q.Oracle.meaning c.args.oracle.now).base) c.go_below.new.held.pairs c.go_below.new.waiting) routers stands)
    refl routers asked.0.searching.room

pub returns-else-more-clause-step : goal.returns-else-more-clause-step
returns-else-more-clause-step g c =
    let asked = IsAsked-visited _ c.args.budget c.args.stand.now c.visit.new.held c.visit.new.ranks c.requires.searching c.visit.ensures.same
    (omega (arith, c.visit.auto.ranks, c.deref_mut.ensures.len, c.requires.searching.room)) c.visit.ensures.layered in
    let branched = branch_is_made _ c.args.budget _ c.visit.new.ranks c.in-Breaks.address c.turns.result.now _ asked
    (c.in-Breaks.ensures.breaks c.in-Breaks.address refl) c.turns.ensures c.if-stand-budget.false in
    tree_is_closed _ c.args.budget _ _ branched (OnFalse_at c.if-more.false c.in_ok-more.ensures.none)
