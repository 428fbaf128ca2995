-- The pairs before a place of a base don't lead back from its pair.
use Rattle.std.proofs.Common.{[], List, get_or, take, sym, subst}
use Rattle.order_core.specs.Pairs.{Pair, Leads}
use Rattle.order_core.proofs.Paths.{Reaches-from_Leads}
use Rattle.order_search.proofs.FreshPairs.{base_apart}
use Rattle.order_search.proofs.assumptions.keep_all.Goals as goal

pub keep-requires-clause-differ : goal.keep-requires-clause-differ
keep-requires-clause-differ c = λ same. base_apart _ c.args.base.now c.loop-i.i c.requires.base c.loop-i-test.true (record { path = []; onward = sym same })

pub keep-requires-clause-apart : goal.keep-requires-clause-apart
keep-requires-clause-apart c = λ leads.
    let base = c.args.base.now in
    let i = c.loop-i.i in
    let p = get_or base i (0, 0) in
    base_apart _ base i c.requires.base c.loop-i-test.true
    (Reaches-from_Leads (take i base) p.1 p.0 (subst (λ (xs : List Pair). Leads xs p.1 p.0) c.loop-i.invariant.pairs leads))
