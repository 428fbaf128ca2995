use Rattle.std.proofs.Common.{◌+◌, ◌∷◌, ℕ, List, [], arith, length-append, subst, sym}
use Rattle.route_tables.proofs.ListFacts.{each_more}
use Rattle.isis_routes.specs.steps.Near.{AreAllNear, AreNearOfBoth}
use Rattle.isis_routes.proofs.near.all_near.Goals as goal

pub loop-to-preserved : goal.loop-to-preserved
loop-to-preserved c =
    let net = c.args.domain.now.net in
    let all : List (List ℕ) = c.loop-to.all.items in
    let next : List ℕ = c.in_ok-of_router.field-0 in
    let before : AreAllNear net c.loop-to.to all = c.loop-to.invariant in
    subst (λ (l : List (List ℕ)). AreAllNear net (c.loop-to.to + 1) l) (sym {A = List (List ℕ)} c.in_ok-push.ensures.items) (record {
      count = let long = length-append all (next ∷ []) in omega (arith, before.count);
      each = each_more (AreNearOfBoth net) all c.loop-to.to next [] before.count before.each c.in_ok-of_router.ensures;
    })
