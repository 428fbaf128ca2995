-- Words joined by one blank each.
use Rattle.std.proofs.lemmas.Grind.{common_steps}
use Rattle.std.proofs.Common.{◌≡◌, ◌≢◌, ℕ, ◌+◌, ◌<◌, ◌≤◌, ltb, List, [], ◌∷◌, length, arith, refl, sym, ap}
use Rattle.std.proofs.Common.{◌∙◌, subst}
use Rattle.std.specs.List.{filter, count_by}
use Rattle.std.proofs.lemmas.Bool.Decides.{Decides-ltb}
use Rattle.std.proofs.lemmas.List.Elements.{All-cons, All-nil, All-head, All-tail}
use Rattle.std.proofs.lemmas.List.Splits.{length-slice_split}
use Rattle.net_addr.specs.Blanks.{is_blank, words_in}
use Rattle.refutation_check.specs.TreeLines.{pieces_of}
use Rattle.refutation_check.specs.steps.Spans.{AreFilled}

-- the pieces that hold a byte
abbrev filled : List (List ℕ) → List (List ℕ)
filled pieces = filter (λ (piece : List ℕ). ltb 0 (length piece)) pieces

filled-cons : (b : ℕ) (piece : List ℕ) (pieces : List (List ℕ)) → filled ((b ∷ piece) ∷ pieces) ≡ (b ∷ piece) ∷ filled pieces
filled-cons b piece pieces = grind (arith, common_steps, Decides-ltb)

filled-few : (pieces : List (List ℕ)) → length (filled pieces) ≤ length pieces
filled-few [] = omega arith
filled-few ([] ∷ pieces) = omega (arith, filled-few pieces)
filled-few ((b ∷ piece) ∷ pieces) = omega (arith, filled-few pieces, ap (λ (l : List (List ℕ)). length l) (filled-cons b piece pieces))

-- where all pieces hold a byte, all are kept
filled-all : (pieces : List (List ℕ)) → AreFilled pieces → filled pieces ≡ pieces
filled-all [] all = refl
filled-all ([] ∷ pieces) all = absurd (omega (arith, All-head (λ (p : List ℕ). 0 < length p) [] pieces all))
filled-all ((b ∷ piece) ∷ pieces) all =
    filled-cons b piece pieces
    ∙ ap (λ (l : List (List ℕ)). (b ∷ piece) ∷ l) (filled-all pieces (All-tail (λ (p : List ℕ). 0 < length p) (b ∷ piece) pieces all))

-- where all are kept, all hold a byte
filled-whole : (pieces : List (List ℕ)) → length (filled pieces) ≡ length pieces → AreFilled pieces
filled-whole [] e = All-nil (λ (p : List ℕ). 0 < length p)
filled-whole ([] ∷ pieces) e = absurd (omega (arith, e, filled-few pieces))
filled-whole ((b ∷ piece) ∷ pieces) e =
    All-cons (λ (p : List ℕ). 0 < length p) (b ∷ piece) pieces (omega arith)
    (filled-whole pieces (omega (arith, e, ap (λ (l : List (List ℕ)). length l) (filled-cons b piece pieces))))

-- as many words as blanks and one: the words are the pieces, and none is empty
pub joined_by_one : (line : List ℕ) (words : List (List ℕ)) → words ≡ words_in line → length words ≡ count_by is_blank line + 1 →
    (words ≡ pieces_of line) × AreFilled words
joined_by_one line words are many =
    let long : length (filled (pieces_of line)) ≡ length (pieces_of line) = sym (ap (λ (l : List (List ℕ)). length l) are) ∙ many
    ∙ sym (length-slice_split is_blank line) in
    let full : AreFilled (pieces_of line) = filled-whole (pieces_of line) long in
    let same : words ≡ pieces_of line = are ∙ filled-all (pieces_of line) full in
    (same, subst AreFilled (sym same) full)

-- another count of words: some piece is empty
pub not_joined : (line : List ℕ) (words : List (List ℕ)) → words ≡ words_in line → length words ≢ count_by is_blank line + 1 →
    AreFilled (pieces_of line) →
    ⊥
not_joined line words are many full =
    many (ap (λ (l : List (List ℕ)). length l) (are ∙ filled-all (pieces_of line) full) ∙ length-slice_split is_blank line)
