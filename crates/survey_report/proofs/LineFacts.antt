-- Texts that grow by lines.
use Rattle.std.proofs.Common.{◌≡◌, ℕ, ◌+◌, ◌<◌, List, [], ◌∷◌, ◌++◌, length, map, take, get_or, sym, ap, ◌∙◌, append_assoc, append-nil}
use Rattle.std.specs.List.{flat_map}
use Rattle.std.proofs.lemmas.List.{map-append, take_more}
use Rattle.std.proofs.lemmas.List.Concat.{flat_map-append}
use Rattle.printed_lines.specs.Texts.{text_of}
use Rattle.printed_lines.proofs.TextSteps.{last_line, text_of-append}

-- a text with some lines, and then with more
pub text_grown : (start before after : List ℕ) (old more all : List (List ℕ)) → before ≡ start ++ text_of old → after ≡ before ++ text_of more →
    all ≡ old ++ more → after ≡ start ++ text_of all
text_grown start before after old more all was made is =
    made
    ∙ ap (λ (t : List ℕ). t ++ text_of more) was
    ∙ append_assoc start (text_of old) (text_of more)
    ∙ ap (λ (t : List ℕ). start ++ t) (sym (text_of-append old more) ∙ ap text_of (sym is))

-- one line more of a loop over some things
pub line_more : {A : Type 0} (line : A → List ℕ) (xs : List A) (i : ℕ) (x : A) (start before made after : List ℕ) → i < length xs →
    x ≡ get_or xs i x → before ≡ start ++ text_of (map line (take i xs)) → made ≡ line x → after ≡ (before ++ made) ++ 10 ∷ [] →
    after ≡ start ++ text_of (map line (take (i + 1) xs))
line_more {A} line xs i x start before made after within read was same is =
    text_grown start before after (map line (take i xs)) (line x ∷ []) (map line (take (i + 1) xs)) was
    (is ∙ last_line before made (line x) same)
    (ap (map line) (take_more xs i x within)
    ∙ map-append line (take i xs) (get_or xs i x ∷ [])
    ∙ ap (λ (y : A). map line (take i xs) ++ line y ∷ []) (sym read))

-- the lines of one thing more
pub lines_more : {A : Type 0} (lines : A → List (List ℕ)) (xs : List A) (i : ℕ) (x : A) (start before after : List ℕ) → i < length xs →
    x ≡ get_or xs i x → before ≡ start ++ text_of (flat_map lines (take i xs)) → after ≡ before ++ text_of (lines x) →
    after ≡ start ++ text_of (flat_map lines (take (i + 1) xs))
lines_more {A} lines xs i x start before after within read was is =
    text_grown start before after (flat_map lines (take i xs)) (lines x) (flat_map lines (take (i + 1) xs)) was is
    (ap (flat_map lines) (take_more xs i x within)
    ∙ flat_map-append lines (take i xs) (get_or xs i x ∷ [])
    ∙ ap (λ (w : List (List ℕ)). flat_map lines (take i xs) ++ w) (append-nil (lines (get_or xs i x)))
    ∙ ap (λ (y : A). flat_map lines (take i xs) ++ lines y) (sym read))
