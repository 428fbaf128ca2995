-- Texts that grow by their lines, and that they are of whole lines.
use Rattle.std.proofs.Common.{◌≡◌, ◌<◌, ◌+◌, ℕ, true, List, [], ◌∷◌, ◌++◌, length, get_or, drop, append_assoc, append-nil, refl, ap}
use Rattle.std.proofs.Common.{sym, ◌∙◌}
use Rattle.std.specs.List.{flat_map}
use Rattle.std.proofs.lemmas.List.{drop_more}
use Rattle.std.proofs.lemmas.List.Concat.{flat_map-append}
use Rattle.net_addr.specs.JoinedLines.{is_of_whole_lines}
use Rattle.net_addr.proofs.JoinedFacts.{is_of_whole_lines-append}
use Rattle.printed_lines.specs.Texts.{text_of}

-- the text of some lines and then of others
pub text_of-append : (lines others : List (List ℕ)) → text_of (lines ++ others) ≡ text_of lines ++ text_of others
text_of-append lines others = flat_map-append (λ (line : List ℕ). line ++ 10 ∷ []) lines others

-- a text with some lines more, and then others
pub then_lines : (text longer : List ℕ) (lines others : List (List ℕ)) → longer ≡ text ++ text_of lines →
    longer ++ text_of others ≡ text ++ text_of (lines ++ others)
then_lines text longer lines others is =
    ap (λ t. t ++ text_of others) is
    ∙ append_assoc text (text_of lines) (text_of others)
    ∙ sym (ap (λ t. text ++ t) (text_of-append lines others))

-- a text with a line more, and then others
more_after : (text line : List ℕ) (others : List (List ℕ)) → ((text ++ line) ++ 10 ∷ []) ++ text_of others ≡ text ++ text_of (line ∷ others)
more_after text line others =
    append_assoc (text ++ line) (10 ∷ []) (text_of others)
    ∙ append_assoc text line (10 ∷ text_of others)
    ∙ sym (ap (λ t. text ++ t) (append_assoc line (10 ∷ []) (text_of others)))

-- the same, where they are known by what they are
pub then_line : (text line said longer : List ℕ) (others : List (List ℕ)) → line ≡ said → longer ≡ (text ++ line) ++ 10 ∷ [] →
    longer ++ text_of others ≡ text ++ text_of (said ∷ others)
then_line text line said longer others same is =
    ap (λ t. t ++ text_of others) is ∙ more_after text line others ∙ ap (λ l. text ++ text_of (l ∷ others)) same

-- a text with its last line
pub last_line : (text line said : List ℕ) → line ≡ said → (text ++ line) ++ 10 ∷ [] ≡ text ++ text_of (said ∷ [])
last_line text line said same = sym (append-nil _) ∙ more_after text line [] ∙ ap (λ l. text ++ text_of (l ∷ [])) same

-- the lines of one element more of a list
pub more_of : {X : Type 0} (lines_of : X → List (List ℕ)) (xs : List X) (i : ℕ) (x : X) (done longer all : List ℕ) → i < length xs →
    x ≡ get_or xs i x → longer ≡ done ++ text_of (lines_of x)
    → done ++ text_of (flat_map lines_of (drop i xs)) ≡ all → longer ++ text_of (flat_map lines_of (drop (i + 1) xs)) ≡ all
more_of lines_of xs i x done longer all within read is before =
    then_lines done longer (lines_of x) (flat_map lines_of (drop (i + 1) xs)) is
    ∙ ap (λ y. done ++ text_of (lines_of y ++ flat_map lines_of (drop (i + 1) xs))) read
    ∙ sym (ap (λ ys. done ++ text_of (flat_map lines_of ys)) (drop_more xs i x within))
    ∙ before

-- ---- whole lines ----

pub ends_whole : (xs : List ℕ) → is_of_whole_lines (xs ++ 10 ∷ []) ≡ true
ends_whole [] = refl
ends_whole (b ∷ []) = refl
ends_whole (b ∷ next ∷ more) = ends_whole (next ∷ more)

pub text_whole : (lines : List (List ℕ)) → is_of_whole_lines (text_of lines) ≡ true
text_whole [] = refl
text_whole (line ∷ lines) = is_of_whole_lines-append (line ++ 10 ∷ []) (text_of lines) (ends_whole line) (text_whole lines)
