-- Orders: how long they are, and "before" in them.
use Rattle.std.proofs.Common.{◌≡◌, ℕ, ◌<◌, ◌≤◌, List, length, Contains, arith}
use Rattle.std.specs.Cmp.{nat_eq_equiv}
use Rattle.std.proofs.lemmas.List.Elements.{All-contains_itself, All-weaker}
use Rattle.std.proofs.lemmas.Map.Steps.{le-length_from_below}
use Rattle.std.proofs.lemmas.Map.Views.{list_any-from_Contains}
use Rattle.order_core.specs.Orders.{IsOrder}
use Rattle.order_core.proofs.DistinctLists.{length-le_from_distinct}

-- an order lists as many routers as there are
pub order_length : (n : ℕ) (order : List ℕ) → IsOrder n order → length order ≡ n
order_length n order is =
    let few : length order ≤ n = length-le_from_distinct order n is.once (All-weaker (Contains order) (λ u. u < n) (λ u among.
    (is.all u).0 among) order (All-contains_itself order)) in
    let many : n ≤ length order = le-length_from_below order n (λ q below. list_any-from_Contains nat_eq_equiv q order ((is.all q).1 below)) in
    omega (arith, few, many)
