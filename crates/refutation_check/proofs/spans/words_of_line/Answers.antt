use Rattle.std.proofs.lemmas.Grind.{common_steps}
use Rattle.std.proofs.Common.{◌≡◌, ℕ, ◌+◌, ◌↔◌, List, length, arith}
use Rattle.std.specs.List.{count_by}
use Rattle.std.proofs.lemmas.List.{length-map}
use Rattle.net_addr.specs.Blanks.{is_blank}
use Rattle.net_addr.specs.Spans.{bytes_of}
use Rattle.net_addr.specs.declared.span.Span.{Span}
use Rattle.refutation_check.specs.steps.Spans.{span_texts}
use Rattle.refutation_check.proofs.LineWords.{joined_by_one, not_joined}
use Rattle.refutation_check.proofs.spans.words_of_line.Goals as goal

-- the spans are counted as the words are, and blanks are those of the line
counted : (text line shown : List ℕ) (words slice : List Span) (blanks : ℕ) → slice ≡ words → shown ≡ line → blanks ≡ count_by is_blank shown →
    (length slice ≡ blanks + 1) ↔ (length (span_texts text words) ≡ count_by is_blank line + 1)
counted text line shown words slice blanks as_slice as_line blanks_are = grind (arith, common_steps, length-map)

pub returns-then-as_slice-blanks_in-clause-words : goal.returns-then-as_slice-blanks_in-clause-words
returns-then-as_slice-blanks_in-clause-words c = grind (arith, common_steps, counted, joined_by_one)

pub returns-then-as_slice-blanks_in-clause-filled : goal.returns-then-as_slice-blanks_in-clause-filled
returns-then-as_slice-blanks_in-clause-filled c =
    let line = bytes_of c.args.text.now c.args.line in
    let words = c.in_ok-words.words in
    (joined_by_one line (span_texts c.args.text.now words) c.in_ok-words.ensures.texts ((counted c.args.text.now line c.bytes_at.result.now words
    c.as_slice.result.now c.blanks_in.result c.as_slice.ensures c.bytes_at.ensures c.blanks_in.ensures.value).0 c.if-as_slice-blanks_in.true)).1

pub returns-else-as_slice-blanks_in-clause-none : goal.returns-else-as_slice-blanks_in-clause-none
returns-else-as_slice-blanks_in-clause-none c =
    let line = bytes_of c.args.text.now c.args.line in
    let words = c.in_ok-words.words in
    not_joined line (span_texts c.args.text.now words) c.in_ok-words.ensures.texts
    (λ many. c.if-as_slice-blanks_in.false ((counted c.args.text.now line c.bytes_at.result.now words c.as_slice.result.now c.blanks_in.result
    c.as_slice.ensures c.bytes_at.ensures c.blanks_in.ensures.value).1 many))
