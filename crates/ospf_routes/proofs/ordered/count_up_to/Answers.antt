use Rattle.std.proofs.Common.{◌≡◌, ◌<◌, ◌≤◌, ℕ, List, length, get_or, ap, arith, subst}
use Rattle.std.specs.List.Sorted.{IsNonDecreasingBy}
use Rattle.std.proofs.lemmas.List.{get_or_default}
use Rattle.net_addr.specs.Addresses.{Block}
use Rattle.ospf_routes.proofs.ordered.count_up_to.Goals as goal

-- behind an element there come none of less
behind : {X : Type 0} (n : X → ℕ) (xs : List X) (i : ℕ) (x : X) (low : ℕ) → IsNonDecreasingBy n xs → x ≡ get_or xs i x → low < n x →
    (k : ℕ) (d : X) → i ≤ k → k < length xs → low < n (get_or xs k d)
behind {X} n xs i x low sorted here above k d from within =
    let least : low < n (get_or xs i x) = subst (λ (y : X). low < n y) here above in
    let more : n (get_or xs i x) ≤ n (get_or xs k x) = sorted i k x from within in
    subst (λ (y : X). low < n y) (get_or_default xs k x d within) (omega arith)

pub returns-then-base-clause-above : goal.returns-then-base-clause-above
returns-then-base-clause-above g c =
    let x = c.index-all-count.result in
    let at : c.prefix.result ≡ g.T.HasPrefix.prefix x = c.prefix.ensures in
    let begins : c.prefix.result.base ≡ (g.T.HasPrefix.prefix x).base = ap (λ (b : Block). b.base) at in
    behind (λ y. (g.T.HasPrefix.prefix y).base) c.args.all.now c.loop-count.count x c.args.base c.requires c.index-all-count.is
    (omega (arith, c.base.ensures.value))
