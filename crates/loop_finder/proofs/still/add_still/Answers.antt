use Rattle.std.proofs.Common.{ℕ, List, Contains, get_or, length, take, arith, sym, subst}
use Rattle.std.proofs.lemmas.List.{take_all, take_more}
use Rattle.loop_finder.proofs.PartRows.{AreAdded, AreAdded-more}
use Rattle.loop_finder.proofs.still.add_still.Goals as goal

pub loop-router-init : goal.loop-router-init
loop-router-init c = record { below = λ first. first; kept = λ u among. among; added = λ u none. absurd (omega (arith, none.1)) }

pub add_one-requires : goal.add_one-requires
add_one-requires c = c.requires c.loop-router.router-index 0 c.loop-router-test.true

pub loop-router-preserved : goal.loop-router-preserved
loop-router-preserved c =
    let i : ℕ = c.loop-router.router-index in
    let routers : List ℕ = c.args.routers.now in
    subst (λ (seen : List ℕ). AreAdded c.args.lists.now (length c.args.lists.now.olds) c.args.still.now.items seen c.add_one.new.still.items)
    (sym (take_more routers i 0 c.loop-router-test.true))
    (AreAdded-more c.args.lists.now (length c.args.lists.now.olds) c.args.still.now.items (take i routers) c.loop-router.still.items
    c.add_one.new.still.items (get_or routers i 0) (c.requires i 0 c.loop-router-test.true) c.loop-router.invariant c.in_ok-add_one.ensures)

pub returns-clause-added : goal.returns-clause-added
returns-clause-added c u among = c.loop-router.invariant.added u
    (subst (λ (seen : List ℕ). Contains seen u) (sym (take_all c.loop-router.router-index c.args.routers.now c.loop-router-test.false)) among)
