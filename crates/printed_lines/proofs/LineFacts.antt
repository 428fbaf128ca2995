-- Lines that are printed one after another read as these lines.
use Rattle.std.proofs.Common.{◌≡◌, ◌≢◌, ℕ, ◌-◌, Bool, false, cond, eqb, List, [], ◌∷◌, ◌++◌, length, take, get_or, map}
use Rattle.std.proofs.Common.{append_assoc, refl, ap, ◌∙◌, arith}
use Rattle.std.specs.List.{All, slice_split}
use Rattle.std.specs.Str.Lines.{strip_carriage_return}
use Rattle.std.proofs.lemmas.Bool.Decides.{nat_tests}
use Rattle.std.proofs.lemmas.List.Elements.{All-head, All-tail, All-weaker}
use Rattle.std.proofs.lemmas.List.Splits.{slice_split_at}
use Rattle.net_addr.specs.Lines.{is_line_feed, without_empty_last, line_pieces, lines_of}
use Rattle.printed_lines.specs.Texts.{IsPrintedLine, text_of}
use Rattle.printed_lines.specs.ReadBack.{LinesReadBack}

other_byte : (a b : ℕ) → a ≢ b → eqb a b ≡ false
other_byte a b differ = grind (arith, nat_tests)

-- the pieces of a text are its lines, and an empty one behind its last line feed
text_of-pieces : (printed : List (List ℕ)) → All IsPrintedLine printed → slice_split is_line_feed (text_of printed) ≡ printed ++ [] ∷ []
text_of-pieces [] fine = refl
text_of-pieces (line ∷ more) fine =
    let clear : All (λ b. is_line_feed b ≡ false) line =
    All-weaker (λ b. b ≢ 10) (λ b. is_line_feed b ≡ false) (λ b. other_byte b 10) line (All-head IsPrintedLine line more fine).no_feed in
    ap (slice_split is_line_feed) (append_assoc line (10 ∷ []) (text_of more))
    ∙ slice_split_at is_line_feed line 10 (text_of more) clear refl
    ∙ ap (λ (pieces : List (List ℕ)). line ∷ pieces) (text_of-pieces more (All-tail IsPrintedLine line more fine))

last_dropped : (pieces : List (List ℕ)) → without_empty_last (pieces ++ [] ∷ []) ≡ pieces
last_dropped [] = refl
last_dropped (piece ∷ []) = refl
last_dropped (piece ∷ next ∷ more) = ap (λ (pieces : List (List ℕ)). piece ∷ pieces) (last_dropped (next ∷ more))

-- the pieces of a text that end with a line feed are its lines
pub line_pieces-text_of : (printed : List (List ℕ)) → All IsPrintedLine printed → line_pieces (text_of printed) ≡ printed
line_pieces-text_of printed fine = ap without_empty_last (text_of-pieces printed fine) ∙ last_dropped printed

kept_whole : (line : List ℕ) → IsPrintedLine line → strip_carriage_return line ≡ line
kept_whole line fine =
    ap (λ (b : Bool). cond b (take (length line - 1) line) line) (other_byte (get_or line (length line - 1) 0) 13 fine.no_return)

kept_all : (printed : List (List ℕ)) → All IsPrintedLine printed → map strip_carriage_return printed ≡ printed
kept_all [] fine = refl
kept_all (line ∷ more) fine =
    ap (λ (first : List ℕ). first ∷ map strip_carriage_return more) (kept_whole line (All-head IsPrintedLine line more fine))
    ∙ ap (λ (rest : List (List ℕ)). line ∷ rest) (kept_all more (All-tail IsPrintedLine line more fine))

-- printed lines, each ended by a line feed, read as just these lines
pub lines_read_back : LinesReadBack
lines_read_back printed fine =
    let pieces : line_pieces (text_of printed) ≡ printed = line_pieces-text_of printed fine in
    record { lines = ap (lines_of 1 0) pieces; texts = ap (map strip_carriage_return) pieces ∙ kept_all printed fine }
