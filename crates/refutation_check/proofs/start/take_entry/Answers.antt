use Rattle.std.proofs.Common.{List, ◌++◌, ◌∷◌, [], ◌∙◌, ap, arith}
use Rattle.change_orders.proofs.ItemFacts.{NamesItem-unique}
use Rattle.igp_theory.specs.declared.phase.Phase.{Phase}
use Rattle.refutation_check.proofs.DoneWords.{entry_taken}
use Rattle.refutation_check.proofs.start.take_entry.Goals as goal

pub returns-in_default : goal.returns-in_default
returns-in_default c = λ i names. absurd (c.in_default.ensures i names)

-- where the router has a phase
pub returns-then-router-len : goal.returns-then-router-len
returns-then-router-len c = λ i names.
    let same = NamesItem-unique c.args.net.now c.args.word.now i c.in-Some.item c.requires.ascending names c.in-Some.ensures in
    omega (arith, c.if-router-len.true, c.len.ensures, c.args.start.now.ok.0, same)

pub returns : goal.returns
returns c =
    entry_taken c.args.net.now c.requires c.args.word.now c.in-Some.item c.args.start.now.items _ c.phase_behind.result c.args.start.now.len
    c.in-Some.ensures c.args.start.now.ok.0 (omega (arith, c.if-router-len.false, c.len.ensures)) c.phase_behind.ensures
    (c.in_ok-push.ensures.items ∙ ap (λ (l : List Phase). l ++ c.phase_behind.result ∷ []) c.in_ok-resize.ensures.items)
