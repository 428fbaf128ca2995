-- How a text falls into pieces, taken from its start.
use Rattle.std.proofs.lemmas.Grind.{common_steps}
use Rattle.std.proofs.Common.{◌≡◌, ℕ, ◌+◌, ◌<◌, ◌≤◌, Bool, List, [], ◌∷◌, ◌++◌, length, take, drop, append_assoc}
use Rattle.std.proofs.Common.{arith, sym, ap, ◌∙◌}
use Rattle.std.specs.List.{slice_range, slice_split, position_or_len}
use Rattle.std.proofs.lemmas.Bool.{cases_lt}
use Rattle.std.proofs.lemmas.Bool.Decides.{nat_tests}
use Rattle.std.proofs.lemmas.List.{take_all, drop_all, drop-drop, length-take-le}
use Rattle.std.proofs.lemmas.List.Sums.{fails_before_first}
use Rattle.std.proofs.lemmas.List.Splits.{slice_split_first, slice_split_none, length-slice_split}
use Rattle.net_addr.specs.declared.line.Line.{Line}
use Rattle.net_addr.specs.Lines.{is_line_feed, without_empty_last, line_pieces, line_of, lines_of, text_lines}

pub no_separator : (p : ℕ → Bool) (xs : List ℕ) → length xs ≤ position_or_len p xs → slice_split p xs ≡ xs ∷ []
no_separator p xs none = slice_split_none p xs (λ k d below. fails_before_first p xs k d (omega arith))

pub some_pieces : (p : ℕ → Bool) (xs : List ℕ) → 0 < length (slice_split p xs)
some_pieces p xs = omega (arith, length-slice_split p xs)

pub keeps_first : (piece : List ℕ) (pieces : List (List ℕ)) → 0 < length pieces → without_empty_last (piece ∷ pieces) ≡ piece ∷ without_empty_last pieces
keeps_first piece pieces some = grind (arith, common_steps)

pub last_stays : (piece : List ℕ) → 0 < length piece → without_empty_last (piece ∷ []) ≡ piece ∷ []
last_stays piece some = grind (arith, nat_tests)

-- the first line of a text that isn't empty, and the others
pub line_pieces-first : (xs : List ℕ) (n : ℕ) → n ≡ position_or_len is_line_feed xs → 0 < length xs →
    line_pieces xs ≡ take n xs ∷ line_pieces (drop (n + 1) xs)
line_pieces-first xs n place some =
    grind (arith, common_steps, cases_lt, drop_all, keeps_first, last_stays, no_separator, slice_split_first, some_pieces, take_all)

-- the first line from a place on, and the lines behind it
pub lines_of-first : (text : List ℕ) (number start n : ℕ) → start < length text → n ≡ position_or_len is_line_feed (drop start text) →
    n ≤ length (drop start text) →
    lines_of number start (line_pieces (drop start text)) ≡ line_of number start (slice_range text start (start + n)) ∷ lines_of (number + 1)
    (start + n + 1) (line_pieces (drop (start + n + 1) text))
lines_of-first text number start n inside place within =
    grind (arith, common_steps, drop-drop, length-take-le, line_pieces-first)

-- one more line of a list that is filled from the left
pub one_more : {X : Type 0} (front rest all : List X) (x : X) (whole : List X) → front ++ whole ≡ all → whole ≡ x ∷ rest → (front ++ x ∷ []) ++ rest ≡ all
one_more front rest all x whole filled first = append_assoc front (x ∷ []) rest ∙ ap (λ w. front ++ w) (sym first) ∙ filled

-- at the end of the text no line is left
pub lines_of-end : (text : List ℕ) (front : List Line) (number start : ℕ) →
    front ++ lines_of number start (line_pieces (drop start text)) ≡ text_lines text → length text ≤ start → front ≡ text_lines text
lines_of-end text front number start filled end = grind (arith, common_steps, drop_all)
