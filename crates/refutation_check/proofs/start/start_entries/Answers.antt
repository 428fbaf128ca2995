use Rattle.std.proofs.Common.{◌≡◌, ℕ, List, ◌∷◌, ap, codes, subst, sym, ◌∙◌}
use Rattle.std.proofs.lemmas.Bool.{false≢true}
use Rattle.std.proofs.lemmas.List.Elements.{All-rest}
use Rattle.net_addr.specs.Spans.{LiesIn, bytes_of}
use Rattle.net_addr.specs.declared.span.Span.{Span}
use Rattle.net_model.specs.Network.{Network}
use Rattle.refutation_check.specs.StartLines.{HasStartForm}
use Rattle.refutation_check.specs.steps.Spans.{span_texts}
use Rattle.refutation_check.specs.steps.Starts.{AreChangesInOrder}
use Rattle.refutation_check.proofs.SaidNodes.{first_word, later_words}
use Rattle.refutation_check.proofs.start.start_entries.Goals as goal
use Rattle.refutation_check.proofs.start.start_entries.Goals.{else-is_text-via-then-is_text+else-are_changes_in_order, else-is_text-via-else-is_text}

-- words of the form of a start's begin with its word, and the others are words of changes in order
form_parts : (net : Network) (text : List ℕ) (words entries : List Span) (first : Span) → words ≡ first ∷ entries →
    HasStartForm net (span_texts text words) → (bytes_of text first ≡ codes "start") × AreChangesInOrder net (span_texts text entries)
form_parts net text words entries first parts form =
    let cut = sym (ap (span_texts text) parts) ∙ form.words_are in
    let later = later_words (bytes_of text first) (codes "start") (span_texts text entries) form.entries cut in (
      first_word (bytes_of text first) (codes "start") (span_texts text entries) form.entries cut,
      subst (AreChangesInOrder net) (sym later) (record { changes = form.changes; in_order = form.in_order }),
    )

pub are_changes_in_order-requires-clause-inside : goal.are_changes_in_order-requires-clause-inside
are_changes_in_order-requires-clause-inside c =
    All-rest (LiesIn c.args.text.now) c.in_ok-first.first.now c.in_ok-first.entries.now c.args.words.now c.in_ok-first.ensures.cases.0
    c.requires.inside

pub returns-then-are_changes_in_order : goal.returns-then-are_changes_in_order
returns-then-are_changes_in_order c =
    let text = c.args.text.now in
    let held = c.are_changes_in_order.ensures.0 c.if-are_changes_in_order.true in
    let words_are : span_texts text c.args.words.now ≡ codes "start" ∷ span_texts text c.in_ok-first.entries.now =
    ap (span_texts text) c.in_ok-first.ensures.cases.0
    ∙ ap (λ (w : List ℕ). w ∷ span_texts text c.in_ok-first.entries.now) (sym c.bytes_at.ensures ∙ c.is_text.ensures.0 c.if-is_text.true) in
    record {
      words_are = words_are;
      form = record { entries = span_texts text c.in_ok-first.entries.now; words_are = words_are; changes = held.changes; in_order = held.in_order };
      inside = All-rest (LiesIn text) c.in_ok-first.first.now c.in_ok-first.entries.now c.args.words.now c.in_ok-first.ensures.cases.0 c.requires.inside;
    }

pub returns-else-is_text : goal.returns-else-is_text
returns-else-is_text c = λ form.
    let parts = form_parts c.args.net.now c.args.text.now c.args.words.now c.in_ok-first.entries.now c.in_ok-first.first.now
    c.in_ok-first.ensures.cases.0 form in
    elim c.else-is_text.branch [
      | else-is_text-via-then-is_text+else-are_changes_in_order w ↦
          absurd (false≢true (sym w.if-are_changes_in_order.false ∙ w.are_changes_in_order.ensures.1 parts.1))
      | else-is_text-via-else-is_text w ↦ absurd (false≢true (sym w.if-is_text.false ∙ c.is_text.ensures.1 (c.bytes_at.ensures ∙ parts.0)))
    ]
