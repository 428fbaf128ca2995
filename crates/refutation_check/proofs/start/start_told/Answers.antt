use Rattle.std.proofs.lemmas.Grind.{common_steps}
use Rattle.std.proofs.Common.{ℕ, List, arith, subst}
use Rattle.std.proofs.lemmas.List.{length-map}
use Rattle.refutation_check.specs.steps.Spans.{span_texts}
use Rattle.refutation_check.specs.steps.Starts.{NamesNoLaterRouter, TakesEntry}
use Rattle.refutation_check.proofs.SpanPlaces.{word_at, word_in}
use Rattle.refutation_check.proofs.StartReading.{all_told, more_tell, none_tell, none_told}
use Rattle.refutation_check.proofs.start.start_told.Goals as goal

pub loop-entry-init : goal.loop-entry-init
loop-entry-init c = grind (arith, common_steps, none_tell)

pub returns-then-not-taken : goal.returns-then-not-taken
returns-then-not-taken c =
    let i = c.loop-entry.entry-index in
    none_told c.args.net.now (span_texts c.args.text.now c.args.entries.now) i c.loop-entry.start.items c.loop-entry.invariant c.requires.network
    (word_in c.args.text.now c.args.entries.now i c.loop-entry-test.true)
    (subst (λ (w : List ℕ). NamesNoLaterRouter c.args.net.now w c.loop-entry.start.items)
    (word_at c.args.text.now c.args.entries.now i c.loop-entry-test.true c.bytes_at.ensures) (rw c.if-not-taken.true at c.in_ok-taken.ensures))

pub loop-entry-preserved : goal.loop-entry-preserved
loop-entry-preserved c =
    let i = c.loop-entry.entry-index in
    more_tell c.args.net.now (span_texts c.args.text.now c.args.entries.now) i c.loop-entry.start.items c.loop-entry.invariant
    c.take_entry.new.start.items (word_in c.args.text.now c.args.entries.now i c.loop-entry-test.true)
    (subst (λ (w : List ℕ). TakesEntry c.args.net.now w c.loop-entry.start.items c.take_entry.new.start.items)
    (word_at c.args.text.now c.args.entries.now i c.loop-entry-test.true c.bytes_at.ensures) (rw c.if-not-taken.false at c.in_ok-taken.ensures))

pub returns : goal.returns
returns c = grind (arith, common_steps, all_told, length-map)
