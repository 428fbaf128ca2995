use Rattle.std.proofs.Common.{◌≡◌, ℕ, ◌<◌, ◌∷◌, [], List, cond, reverse, All, sym, ap, ◌∙◌, subst}
use Rattle.order_core.specs.Pairs.{Pair, AreBelow}
use Rattle.order_core.specs.Turns.{child_pairs}
use Rattle.order_core.specs.declared.turn.Turn.{Turn}
use Rattle.refutation_check.specs.steps.Walks.{PlacesLeft, GoesAlong, places_from}
use Rattle.refutation_check.proofs.Leaving.{children_below, deeper, deeper_left}
use Rattle.refutation_check.proofs.walk.Walk.enter.Goals as goal

pub assume-requires : goal.assume-requires
assume-requires c =
    let n = c.self.inside.assumed.routers in
    let below : All (λ (t : Turn). t.router < n) c.args.turns.now = subst (λ (k : ℕ). All (λ (t : Turn). t.router < k) c.args.turns.now)
    (sym (ap (λ (x : PlacesLeft). x.routers) c.self.view_is)) c.requires.below in
    subst (λ (l : List Pair). AreBelow n l) (sym c.in_ok-cursor.ensures) (children_below n c.args.turns.now below)

pub invariant_of-result : goal.invariant_of-result
invariant_of-result c =
    let w = c.self.inside in
    let n = w.assumed.routers in
    let below : All (λ (t : Turn). t.router < n) c.args.turns.now = subst (λ (k : ℕ). All (λ (t : Turn). t.router < k) c.args.turns.now)
    (sym (ap (λ (x : PlacesLeft). x.routers) c.self.view_is)) c.requires.below in
    let children : AreBelow n c.in_ok-cursor.cursor = subst (λ (l : List Pair). AreBelow n l) (sym c.in_ok-cursor.ensures)
    (children_below n c.args.turns.now below) in
    subst (λ (k : ℕ). GoesAlong k c.assume.new.assumed.pairs c.push.new.self.items) (sym c.assume.ensures.routers)
    (deeper n w.assumed.pairs c.assume.new.assumed.pairs w.cursors.items c.push.new.self.items c.in_ok-cursor.cursor c.self.invariant c.assume.ensures.some
    children c.in_ok-assume.ensures.pairs c.in_ok-push.ensures.items)

pub returns-clause-left : goal.returns-clause-left
returns-clause-left c = λ place left is.
    let w = c.self.inside in
    let here : cond w.is_open (places_from (reverse w.cursors.items)) [] ≡ place ∷ left = ap (λ (x : PlacesLeft). x.left) c.self.view_is ∙ is in
    deeper_left w.is_open w.cursors.items c.push.new.self.items c.in_ok-cursor.cursor (child_pairs c.args.turns.now) place left c.in_ok-cursor.ensures
    c.assume.ensures.some c.in_ok-push.ensures.items here
