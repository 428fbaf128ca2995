-- The lines of a text of whole lines and of another behind it.
use Rattle.std.proofs.lemmas.Grind.{common_steps}
use Rattle.std.proofs.Common.{◌≡◌, ℕ, ◌+◌, ◌<◌, Bool, true, cond, List, [], ◌∷◌, ◌++◌, length, map, arith, suc, refl, sym, ap, ◌∙◌}
use Rattle.std.specs.List.{slice_split, onto_first, position_or_len}
use Rattle.std.proofs.lemmas.List.{append-nil}
use Rattle.net_addr.specs.declared.line.Line.{Line}
use Rattle.net_addr.specs.Lines.{is_line_feed, without_empty_last, line_pieces, line_of, lines_of, text_lines}
use Rattle.net_addr.specs.JoinedLines.{is_of_whole_lines, line_further_on}
use Rattle.net_addr.proofs.PieceFacts.{some_pieces, keeps_first, last_stays, line_pieces-first}

-- ---- the pieces ----

abbrev split : List ℕ → List (List ℕ)
split xs = slice_split is_line_feed xs

one_line_feed : (t : Bool) (b : ℕ) (rest : List (List ℕ)) → t ≡ true →
    cond t ([] ∷ rest) (onto_first b rest) ≡ without_empty_last (cond t ([] ∷ [] ∷ []) (onto_first b ([] ∷ []))) ++ rest
one_line_feed t b rest e = grind (arith, common_steps)

last_kept : (t : Bool) (b : ℕ) (piece : List ℕ) → 0 < length (cond t [] (piece ∷ [])) → (b ∷ piece) ∷ [] ≡ onto_first b (cond t [] (piece ∷ []))
last_kept t b piece some = grind (arith, common_steps)

onto_kept : (b : ℕ) (pieces : List (List ℕ)) → 0 < length (without_empty_last pieces) →
    without_empty_last (onto_first b pieces) ≡ onto_first b (without_empty_last pieces)
onto_kept b pieces some = grind (arith, common_steps, last_kept, last_stays)

onto_append : (b : ℕ) (pieces others : List (List ℕ)) → 0 < length pieces → onto_first b (pieces ++ others) ≡ onto_first b pieces ++ others
onto_append b pieces others some = grind (arith, common_steps)

some_lines : (b : ℕ) (bs : List ℕ) → 0 < length (line_pieces (b ∷ bs))
some_lines b bs = omega (arith, ap length (line_pieces-first (b ∷ bs) (position_or_len is_line_feed (b ∷ bs)) refl (omega arith)))

one_byte_more : (t : Bool) (b : ℕ) (pieces whole others : List (List ℕ)) → 0 < length pieces → 0 < length (without_empty_last pieces) →
    whole ≡ without_empty_last pieces ++ others →
    cond t ([] ∷ whole) (onto_first b whole) ≡ without_empty_last (cond t ([] ∷ pieces) (onto_first b pieces)) ++ others
one_byte_more t b pieces whole others some lines e = grind (arith, common_steps, keeps_first, onto_append, onto_kept)

split-append : (xs ys : List ℕ) → is_of_whole_lines xs ≡ true → split (xs ++ ys) ≡ line_pieces xs ++ split ys
split-append [] ys whole = refl
split-append (b ∷ []) ys whole = one_line_feed (is_line_feed b) b (split ys) whole
split-append (b ∷ c ∷ more) ys whole =
    one_byte_more (is_line_feed b) b (split (c ∷ more)) (split ((c ∷ more) ++ ys)) (split ys) (some_pieces is_line_feed (c ∷ more)) (some_lines c more)
    (split-append (c ∷ more) ys whole)

last_of_append : (front pieces : List (List ℕ)) → 0 < length pieces → without_empty_last (front ++ pieces) ≡ front ++ without_empty_last pieces
last_of_append [] pieces some = refl
last_of_append (piece ∷ front) pieces some =
    let some_more : 0 < length (front ++ pieces) = longer front pieces some in
    keeps_first piece (front ++ pieces) some_more ∙ ap (λ (w : List (List ℕ)). piece ∷ w) (last_of_append front pieces some)
  where
    longer : (front pieces : List (List ℕ)) → 0 < length pieces → 0 < length (front ++ pieces)
    longer [] pieces some = some
    longer (piece ∷ front) pieces some = omega arith

pub line_pieces-append : (xs ys : List ℕ) → is_of_whole_lines xs ≡ true → line_pieces (xs ++ ys) ≡ line_pieces xs ++ line_pieces ys
line_pieces-append xs ys whole = grind (arith, common_steps, last_of_append, some_pieces, split-append)

whole_more : (b : ℕ) (ys : List ℕ) → is_of_whole_lines (b ∷ []) ≡ true → is_of_whole_lines ys ≡ true → is_of_whole_lines (b ∷ ys) ≡ true
whole_more b ys one whole = grind (arith, common_steps)

-- two texts of whole lines are one, together
pub is_of_whole_lines-append : (xs ys : List ℕ) → is_of_whole_lines xs ≡ true → is_of_whole_lines ys ≡ true → is_of_whole_lines (xs ++ ys) ≡ true
is_of_whole_lines-append [] ys one two = two
is_of_whole_lines-append (b ∷ []) ys one two = whole_more b ys one two
is_of_whole_lines-append (b ∷ c ∷ more) ys one two = is_of_whole_lines-append (c ∷ more) ys one two

-- ---- how many bytes they take ----

-- the bytes of some pieces, with one byte behind each
abbrev bytes_with_ends : List (List ℕ) → ℕ
bytes_with_ends [] = 0
bytes_with_ends (piece ∷ more) = length piece + 1 + bytes_with_ends more

onto_longer : (b : ℕ) (pieces : List (List ℕ)) → 0 < length pieces → bytes_with_ends (onto_first b pieces) ≡ bytes_with_ends pieces + 1
onto_longer b pieces some = grind (arith, common_steps)

one_longer : (t : Bool) (b : ℕ) (pieces : List (List ℕ)) → 0 < length pieces →
    bytes_with_ends (cond t ([] ∷ pieces) (onto_first b pieces)) ≡ bytes_with_ends pieces + 1
one_longer t b pieces some = grind (arith, common_steps, onto_longer)

split-bytes : (xs : List ℕ) → bytes_with_ends (split xs) ≡ length xs + 1
split-bytes [] = refl
split-bytes (b ∷ bs) = omega (arith, one_longer (is_line_feed b) b (split bs) (some_pieces is_line_feed bs), split-bytes bs)

bytes-append : (ps qs : List (List ℕ)) → bytes_with_ends (ps ++ qs) ≡ bytes_with_ends ps + bytes_with_ends qs
bytes-append [] qs = omega arith
bytes-append (p ∷ ps) qs = omega (arith, bytes-append ps qs)

lines-bytes : (xs : List ℕ) → is_of_whole_lines xs ≡ true → bytes_with_ends (line_pieces xs) ≡ length xs
lines-bytes xs whole =
    let parts : split xs ≡ line_pieces xs ++ [] ∷ [] = ap split (sym (append-nil xs)) ∙ split-append xs [] whole in
    omega (arith, split-bytes xs, ap bytes_with_ends parts, bytes-append (line_pieces xs) ([] ∷ []))

-- ---- the lines ----

pub lines_of-length : (number start : ℕ) (pieces : List (List ℕ)) → length (lines_of number start pieces) ≡ length pieces
lines_of-length number start [] = refl
lines_of-length number start (piece ∷ more) = ap suc (lines_of-length (number + 1) (start + length piece + 1) more)

lines_of-at : (n m s t : ℕ) (pieces : List (List ℕ)) → n ≡ m → s ≡ t → lines_of n s pieces ≡ lines_of m t pieces
lines_of-at n m s t pieces p q = ap (λ (k : ℕ). lines_of k s pieces) p ∙ ap (λ (k : ℕ). lines_of m k pieces) q

lines_of-append : (number start : ℕ) (ps qs : List (List ℕ)) →
    lines_of number start (ps ++ qs) ≡ lines_of number start ps ++ lines_of (number + length ps) (start + bytes_with_ends ps) qs
lines_of-append number start [] qs = lines_of-at number (number + 0) start (start + 0) qs (omega arith) (omega arith)
lines_of-append number start (p ∷ ps) qs =
    ap (λ (w : List Line). line_of number start p ∷ w)
    (lines_of-append (number + 1) (start + length p + 1) ps qs
    ∙ ap (λ (w : List Line). lines_of (number + 1) (start + length p + 1) ps ++ w)
    (lines_of-at (number + 1 + length ps) (number + length (p ∷ ps)) (start + length p + 1 + bytes_with_ends ps) (start + bytes_with_ends (p ∷ ps)) qs
    (omega arith) (omega arith)))

abbrev line_with : ℕ → ℕ → ℕ → ℕ → Line
line_with number indent start stop = record { number = number; indent = indent; span = record { start = start; stop = stop } }

line_of-further : (count bytes number start : ℕ) (piece : List ℕ) →
    line_of (count + number) (bytes + start) piece ≡ line_further_on count bytes (line_of number start piece)
line_of-further count bytes number start piece = grind (arith, common_steps)

lines_of-further : (count bytes number start : ℕ) (pieces : List (List ℕ)) →
    lines_of (count + number) (bytes + start) pieces ≡ map (line_further_on count bytes) (lines_of number start pieces)
lines_of-further count bytes number start [] = refl
lines_of-further count bytes number start (piece ∷ more) =
    ap (λ (l : Line). l ∷ lines_of (count + number + 1) (bytes + start + length piece + 1) more) (line_of-further count bytes number start piece)
    ∙ ap (λ (w : List Line). line_further_on count bytes (line_of number start piece) ∷ w)
    (lines_of-at (count + number + 1) (count + (number + 1)) (bytes + start + length piece + 1) (bytes + (start + length piece + 1)) more (omega arith)
    (omega arith)
    ∙ lines_of-further count bytes (number + 1) (start + length piece + 1) more)

-- the lines of a text of whole lines, and then those of the other, further on
pub text_lines-append : (xs ys : List ℕ) → is_of_whole_lines xs ≡ true →
    text_lines (xs ++ ys) ≡ text_lines xs ++ map (line_further_on (length (text_lines xs)) (length xs)) (text_lines ys)
text_lines-append xs ys whole =
    let count : length (text_lines xs) ≡ length (line_pieces xs) = lines_of-length 1 0 (line_pieces xs) in
    ap (lines_of 1 0) (line_pieces-append xs ys whole)
    ∙ lines_of-append 1 0 (line_pieces xs) (line_pieces ys)
    ∙ ap (λ (w : List Line). text_lines xs ++ w)
    (lines_of-at (1 + length (line_pieces xs)) (length (text_lines xs) + 1) (0 + bytes_with_ends (line_pieces xs)) (length xs + 0) (line_pieces ys)
    (omega arith) (omega (arith, lines-bytes xs whole))
    ∙ lines_of-further (length (text_lines xs)) (length xs) 1 0 (line_pieces ys))
