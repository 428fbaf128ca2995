-- The child's pair is new to the pairs above it, so it is fresh where it closes no cycle.
use Rattle.std.proofs.Common.{◌≡◌, List, ℕ, Option, IfNone, IfSome, take, arith, sym, subst}
use Rattle.order_core.specs.Pairs.{Pair, Leads, Reaches}
use Rattle.order_core.proofs.Paths.{Leads-from_Reaches}
use Rattle.precedence_set.specs.LeastCycle.{IsLeastCycle}
use Rattle.order_search.specs.steps.Waiting.{place_at, AreFresh}
use Rattle.order_search.proofs.FreshPairs.{few_fresh, AreFresh-take, AreFresh-push}
use Rattle.order_search.proofs.LeafFacts.{GrowsLeaves-leaf}
use Rattle.order_search.proofs.places.enter.Goals as goal

pub assume-requires-clause-few : goal.assume-requires-clause-few
assume-requires-clause-few c =
    let under = c.requires.stands.1 in
    omega (arith, few_fresh c.args.held.now.routers c.requires.stands.0 c.args.held.now.pairs c.requires.few under.fresh, under.waiting.0.within)

pub returns-in-None-clause-fresh : goal.returns-in-None-clause-fresh
returns-in-None-clause-fresh c = λ base under.
    let a = c.args.held.now in
    let child = c.args.child in
    let above : List Pair = take child.above a.pairs in
    let is = under.waiting.0 in
    let open_way : ¬ Leads above child.after child.before =
    subst (λ (o : Option (List ℕ)). IfNone o (¬ Leads above child.after child.before)) c.in-None.is
    c.in_ok-assume.ensures.apart in
    let place : c.assume.new.self.pairs ≡ place_at a.pairs child = subst
    (λ (o : Option (List ℕ)). IfNone o (c.assume.new.self.pairs ≡ place_at a.pairs child)) c.in-None.is c.in_ok-assume.ensures.place in
    let apart : ¬ Reaches above child.after child.before = λ reaches.
    open_way (Leads-from_Reaches above child.after child.before (λ same. is.differ (sym same)) reaches) in
    subst (λ (n : ℕ). AreFresh n base c.assume.new.self.pairs) (sym c.in_ok-assume.ensures.routers)
    (subst (λ (xs : List Pair). AreFresh a.routers base xs) (sym place)
    (AreFresh-push a.routers base above child.before child.after (AreFresh-take a.routers base a.pairs child.above is.base_in is.within under.fresh)
    is.before_in is.after_in is.fresh apart))

pub returns-in_ok-push-in-Some-clause-fresh : goal.returns-in_ok-push-in-Some-clause-fresh
returns-in_ok-push-in-Some-clause-fresh c = λ base under.
    let a = c.args.held.now in
    let above : List Pair = take c.args.child.above a.pairs in
    let is = under.waiting.0 in
    let back : c.assume.new.self.pairs ≡ above = subst (λ (o : Option (List ℕ)). IfSome o (λ _. c.assume.new.self.pairs ≡ above)) c.in-Some.is
    c.in_ok-assume.ensures.back in
    subst (λ (n : ℕ). AreFresh n base c.assume.new.self.pairs) (sym c.in_ok-assume.ensures.routers)
    (subst (λ (xs : List Pair). AreFresh a.routers base xs) (sym back)
    (AreFresh-take a.routers base a.pairs c.args.child.above is.base_in is.within under.fresh))

pub returns-in_ok-push-in-Some-clause-leaf : goal.returns-in_ok-push-in-Some-clause-leaf
returns-in_ok-push-in-Some-clause-leaf c =
    let a = c.args.held.now in
    let child = c.args.child in
    let above : List Pair = take child.above a.pairs in
    let under = c.requires.stands.1 in
    let is = under.waiting.0 in
    let least : IsLeastCycle above child.before child.after c.in-Some.cycle = subst
    (λ (o : Option (List ℕ)). IfSome o (IsLeastCycle above child.before child.after)) c.in-Some.is c.in_ok-assume.ensures.cycle in
    GrowsLeaves-leaf c.args.tree.now c.push.new.self a.pairs child c.in-Some.cycle c.in_ok-push-in-Some.ensures.ok
    (AreFresh-take a.routers c.requires.stands.0 a.pairs child.above is.base_in is.within under.fresh).acyclic least
