-- Words as spans of a text, one after another.
use Rattle.std.proofs.Common.{◌≡◌, ℕ, ◌<◌, ◌≤◌, List, [], length, get_or, take, arith, sym, ◌∙◌, subst}
use Rattle.std.proofs.lemmas.List.{take_all, length-map, get_or-map}
use Rattle.net_addr.specs.Spans.{bytes_of}
use Rattle.net_addr.specs.declared.span.Span.{Span}
use Rattle.refutation_check.specs.steps.Spans.{span_texts}

-- the span that is read where there is none
abbrev pub no_span : Span
no_span = record { start = 0; stop = 0 }

-- where there is a span, there is a word
pub word_in : (text : List ℕ) (spans : List Span) (i : ℕ) → i < length spans → i < length (span_texts text spans)
word_in text spans i within = omega (arith, within, length-map spans (bytes_of text))

-- the bytes of a span are the word at its place
pub word_at : (text : List ℕ) (spans : List Span) (i : ℕ) {word : List ℕ} → i < length spans → word ≡ bytes_of text (get_or spans i no_span) →
    word ≡ get_or (span_texts text spans) i []
word_at text spans i within is = is ∙ sym (get_or-map (bytes_of text) spans i no_span [] within)

-- so what is told of these bytes and of what was read before them is told of that word
pub told_at : {A : Type 0} (P : List ℕ → A → Type 0) (text : List ℕ) (spans : List Span) (i : ℕ) {word : List ℕ} {shown front : A} →
    i < length spans → word ≡ bytes_of text (get_or spans i no_span) → shown ≡ front → P word shown → P (get_or (span_texts text spans) i []) front
told_at {A} P text spans i {word = word} {front = front} within is shows told =
    subst (λ (w : List ℕ). P w front) (word_at text spans i within is) (subst (λ (x : A). P word x) shows told)

-- behind the last span all words were taken
pub all_words : (text : List ℕ) (spans : List Span) (i : ℕ) → length spans ≤ i → take i (span_texts text spans) ≡ span_texts text spans
all_words text spans i past = take_all i (span_texts text spans) (omega (arith, past, length-map spans (bytes_of text)))
