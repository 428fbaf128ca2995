use Rattle.std.proofs.Common.{sym, subst, arith}
use Rattle.net_model.specs.Lookups.{IsNamed}
use Rattle.net_model.proofs.Names.{named_within}
use Rattle.change_orders.specs.steps.Found.{IsItemFound}
use Rattle.change_orders.proofs.ItemFacts.{name_in_front}
use Rattle.change_orders.proofs.items.item_of.Goals as goal

pub returns-in_err-number : goal.returns-in_err-number
returns-in_err-number c =
    subst (IsItemFound c.args.net.now c.args.word.now) (sym c.from_residual.ensures)
    (λ i n. c.in_err-number.ensures.number n.number (record { name = n.name; is_number = n.is_number; word_is = n.word_is }))

pub returns-in_err-router : goal.returns-in_err-router
returns-in_err-router c =
    subst (IsItemFound c.args.net.now c.args.word.now) (sym c.from_residual-in_err-router.ensures)
    (λ i n.
    let front = name_in_front c.args.net.now c.args.word.now c.in_ok-number.number i c.in_ok-number.ensures.number.1 n in
    c.in_err-router.ensures.number n.router (subst (λ name. IsNamed c.args.net.now name n.router) front.0 n.named))

pub overflow_mul-result : goal.overflow_mul-result
overflow_mul-result c =
    omega (
      arith,
      named_within c.args.net.now _ c.in_ok-router.router c.in_ok-router.ensures.number,
      c.in_ok-router.ensures.network.limits.routers,
    )

pub overflow_add-result : goal.overflow_add-result
overflow_add-result c =
    omega (
      arith,
      named_within c.args.net.now _ c.in_ok-router.router c.in_ok-router.ensures.number,
      c.in_ok-router.ensures.network.limits.routers,
      c.in_ok-number.ensures.number.0.1,
    )
