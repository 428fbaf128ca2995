-- Lines that grow by words.
use Rattle.std.proofs.Common.{◌≡◌, ℕ, List, [], ◌∷◌, ◌++◌, sym, ap, ◌∙◌, append_assoc, append-nil}
use Rattle.std.proofs.lemmas.List.Concat.{flat_map-append}
use Rattle.printed_lines.specs.Words.{spaced}

-- a line of a word, and some words more
pub spaced_more : (word line longer : List ℕ) (xs ys : List (List ℕ)) → line ≡ word ++ spaced xs → longer ≡ line ++ spaced ys →
    longer ≡ word ++ spaced (xs ++ ys)
spaced_more word line longer xs ys was is =
    is
    ∙ ap (λ (l : List ℕ). l ++ spaced ys) was
    ∙ append_assoc word (spaced xs) (spaced ys)
    ∙ ap (λ (s : List ℕ). word ++ s) (sym (flat_map-append (λ (w : List ℕ). 32 ∷ w) xs ys))

-- a line of a word alone
pub spaced_none : (word line : List ℕ) → line ≡ word → line ≡ word ++ spaced []
spaced_none word line is = is ∙ sym (append-nil word)
