-- The child that is taken is the first of those that wait.
use Rattle.std.proofs.Common.{arith}
use Rattle.std.proofs.lemmas.Grind.{common_steps}
use Rattle.std.specs.Bool.{OnTrue, OnFalse}
use Rattle.std.proofs.Common.{Bool, ◌≡◌, ◌∷◌, [], List, ℕ, take, sym, subst, ◌∙◌}
use Rattle.order_core.specs.Pairs.{Pair}
use Rattle.order_search.specs.steps.Waiting.{place_at, AreChildren, IsUnder}
use Rattle.order_search.specs.steps.Leaves.{GrowsLeaves}
use Rattle.order_search.specs.declared.child.Child.{Child}
use Rattle.order_search.proofs.LeafFacts.{AreChildren-left, GrowsLeaves-place, AreChildren-back, GrowsLeaves-back}
use Rattle.order_search.proofs.places.next_place.Goals as goal

-- the first of the children that wait stands there alone
first_alone : (n : ℕ) (base pairs : List Pair) (all rest : List Child) (c : Child) → IsUnder n base pairs all → all ≡ c ∷ rest →
    IsUnder n base pairs (c ∷ [])
first_alone n base pairs all rest c under top = grind (arith, common_steps)

pub returns-then-branch-clause-stands : goal.returns-then-branch-clause-stands
returns-then-branch-clause-stands c = λ base before.
    let top = c.in-Some.ensures.some in
    let under = c.loop-child.invariant.stands base before in
    let place = subst (λ (b : Bool). OnTrue b (c.enter.new.held.pairs ≡ place_at c.loop-child.held.pairs c.in-Some.child)) c.if-branch.true
    c.in_ok-enter.ensures.place in
    record {
      fresh = c.in_ok-enter.ensures.fresh base (first_alone c.loop-child.held.routers base c.loop-child.held.pairs _ _ c.in-Some.child under top);
      waiting = subst (λ (n : ℕ). AreChildren n base c.enter.new.held.pairs c.next.new.self) (sym c.in_ok-enter.ensures.routers)
          (AreChildren-left _ base c.loop-child.held.pairs c.enter.new.held.pairs _ _ c.in-Some.child under.waiting top place);
    }

pub returns-then-branch-clause-found : goal.returns-then-branch-clause-found
returns-then-branch-clause-found c = grind (arith, common_steps, GrowsLeaves-place)

pub loop-child-preserved : goal.loop-child-preserved
loop-child-preserved c =
    let top = c.in-Some.ensures.some in
    let back = subst (λ (b : Bool). OnFalse b (c.enter.new.held.pairs ≡ take c.in-Some.child.above c.loop-child.held.pairs)) c.if-branch.false
    c.in_ok-enter.ensures.back in
    let leaf = subst (λ (b : Bool). OnFalse b (GrowsLeaves c.loop-child.tree c.enter.new.tree (place_at c.loop-child.held.pairs c.in-Some.child ∷ []) []))
    c.if-branch.false c.in_ok-enter.ensures.leaf in
    record {
      routers = c.in_ok-enter.ensures.routers ∙ c.loop-child.invariant.routers;
      stands = λ base before.
          let under = c.loop-child.invariant.stands base before in
          record {
            fresh = c.in_ok-enter.ensures.fresh base (first_alone c.loop-child.held.routers base c.loop-child.held.pairs _ _ c.in-Some.child under top);
            waiting = subst (λ (n : ℕ). AreChildren n base c.enter.new.held.pairs c.next.new.self) (sym c.in_ok-enter.ensures.routers)
                (AreChildren-back _ base c.loop-child.held.pairs c.enter.new.held.pairs _ _ c.in-Some.child under.waiting top back);
          };
      grown = GrowsLeaves-back c.args.tree.now c.loop-child.tree c.enter.new.tree _ c.loop-child.held.pairs c.enter.new.held.pairs _ _ c.in-Some.child top
          c.loop-child.invariant.grown back leaf;
    }
