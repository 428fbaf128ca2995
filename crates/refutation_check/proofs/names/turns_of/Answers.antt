use Rattle.std.proofs.Common.{arith}
use Rattle.std.proofs.lemmas.Grind.{common_steps}
use Rattle.std.proofs.Common.{ℕ, ◌+◌, List, [], take, sym, subst}
use Rattle.net_model.specs.Refusals.{IsNetwork}
use Rattle.order_core.specs.declared.turn.Turn.{Turn}
use Rattle.refutation_check.specs.TreeLines.{IsSomeEntry}
use Rattle.refutation_check.specs.steps.Names.{SayTurns, IsFurtherTurn, SaysNoFurtherTurn}
use Rattle.refutation_check.specs.steps.Spans.{span_texts}
use Rattle.refutation_check.proofs.NameFacts.{no_turns, turns_more, say_none}
use Rattle.refutation_check.proofs.SpanPlaces.{word_in, word_at, told_at, all_words}
use Rattle.refutation_check.proofs.names.turns_of.Goals as goal

pub loop-entry-init : goal.loop-entry-init
loop-entry-init c = subst (λ (l : List Turn). SayTurns c.args.net.now [] l) (sym c.new-turns.ensures.items) (say_none c.args.net.now)

pub returns-in-None : goal.returns-in-None
returns-in-None c =
    let i = c.loop-entry.entry-index in
    no_turns c.args.net.now (span_texts c.args.text.now c.args.entries.now) c.loop-entry.turns.items i
    (word_in c.args.text.now c.args.entries.now i c.loop-entry-test.true) c.loop-entry.invariant
    (told_at (SaysNoFurtherTurn c.args.net.now) c.args.text.now c.args.entries.now i c.loop-entry-test.true c.bytes_at.ensures c.as_slice.ensures.value
    c.in-None.ensures.said)
    (subst (λ (w : List ℕ). IsSomeEntry w → IsNetwork c.args.net.now)
    (word_at c.args.text.now c.args.entries.now i c.loop-entry-test.true c.bytes_at.ensures) c.further_turn.ensures.network)

pub loop-entry-preserved : goal.loop-entry-preserved
loop-entry-preserved c =
    let words = span_texts c.args.text.now c.args.entries.now in
    let i = c.loop-entry.entry-index in
    subst (λ (l : List Turn). SayTurns c.args.net.now (take (i + 1) words) l) (sym c.in_ok-add_turn-in-Some.ensures)
    (turns_more c.args.net.now words c.loop-entry.turns.items i c.in-Some.turn (word_in c.args.text.now c.args.entries.now i c.loop-entry-test.true)
    c.loop-entry.invariant
    (told_at (λ (w : List ℕ) (l : List Turn). IsFurtherTurn c.args.net.now w l c.in-Some.turn) c.args.text.now c.args.entries.now i c.loop-entry-test.true
    c.bytes_at.ensures c.as_slice.ensures.value c.in-Some.ensures.said))

pub returns : goal.returns
returns c = grind (arith, common_steps, all_words)
