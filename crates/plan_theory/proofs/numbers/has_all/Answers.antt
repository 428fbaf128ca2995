use Rattle.std.proofs.Common.{ℕ, List, All, Contains, refl, sym, ◌∙◌, subst}
use Rattle.std.proofs.lemmas.Bool.{false≢true}
use Rattle.std.proofs.lemmas.List.{take_all}
use Rattle.std.proofs.lemmas.List.Elements.{All-contains, All-more, Contains-get_or}
use Rattle.plan_theory.proofs.numbers.has_all.Goals as goal

pub returns-then-not-has : goal.returns-then-not-has
returns-then-not-has c = (
  λ e. absurd (false≢true e),
  λ all. sym c.if-not-has.true
      ∙ c.has.ensures.1 (all _ (Contains-get_or c.args.others.now c.loop-other.other-index 0 c.loop-other-test.true)),
)

pub loop-other-preserved : goal.loop-other-preserved
loop-other-preserved c =
    All-more (λ (h : ℕ). Contains c.args.routers.now h) c.args.others.now c.loop-other.other-index 0 c.loop-other-test.true c.loop-other.invariant
    (c.has.ensures.0 c.if-not-has.false)

pub returns : goal.returns
returns c = (
  λ e h inside. All-contains (λ (h : ℕ). Contains c.args.routers.now h) c.args.others.now h
      (subst (λ (l : List ℕ). All (λ (h : ℕ). Contains c.args.routers.now h) l)
      (take_all c.loop-other.other-index c.args.others.now c.loop-other-test.false) c.loop-other.invariant) inside,
  λ all. refl,
)
