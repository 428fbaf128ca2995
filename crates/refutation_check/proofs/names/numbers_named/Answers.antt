use Rattle.std.proofs.Common.{arith}
use Rattle.std.proofs.lemmas.Grind.{common_steps}
use Rattle.std.proofs.Common.{ℕ, ◌+◌, List, [], take, sym, subst}
use Rattle.refutation_check.specs.steps.Names.{NameNumbers, IsFurtherNumber, NamesNoFurtherNumber}
use Rattle.refutation_check.specs.steps.Spans.{span_texts}
use Rattle.refutation_check.proofs.NameFacts.{no_numbers, numbers_more, name_none}
use Rattle.refutation_check.proofs.SpanPlaces.{word_in, told_at, all_words}
use Rattle.refutation_check.proofs.names.numbers_named.Goals as goal

pub loop-name-init : goal.loop-name-init
loop-name-init c = subst (λ (l : List ℕ). NameNumbers c.args.items c.args.net.now [] l) (sym c.new-numbers.ensures.items) (name_none c.args.items c.args.net.now)

pub returns-in-None : goal.returns-in-None
returns-in-None c =
    let i = c.loop-name.name-index in
    no_numbers c.args.items c.args.net.now c.requires.network (span_texts c.args.text.now c.args.names.now) c.loop-name.numbers.items i
    (word_in c.args.text.now c.args.names.now i c.loop-name-test.true) c.loop-name.invariant
    (told_at (NamesNoFurtherNumber c.args.items c.args.net.now) c.args.text.now c.args.names.now i c.loop-name-test.true c.bytes_at.ensures c.as_slice.ensures.value
    c.in-None.ensures)

pub loop-name-preserved : goal.loop-name-preserved
loop-name-preserved c =
    let words = span_texts c.args.text.now c.args.names.now in
    let i = c.loop-name.name-index in
    subst (λ (l : List ℕ). NameNumbers c.args.items c.args.net.now (take (i + 1) words) l) (sym c.in_ok-add_number-in-Some.ensures)
    (numbers_more c.args.items c.args.net.now words c.loop-name.numbers.items i c.in-Some.number (word_in c.args.text.now c.args.names.now i c.loop-name-test.true)
    c.loop-name.invariant
    (told_at (λ (w : List ℕ) (l : List ℕ). IsFurtherNumber c.args.items c.args.net.now w l c.in-Some.number) c.args.text.now c.args.names.now i c.loop-name-test.true
    c.bytes_at.ensures c.as_slice.ensures.value c.in-Some.ensures))

pub returns : goal.returns
returns c = grind (arith, common_steps, all_words)
