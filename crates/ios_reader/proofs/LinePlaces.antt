-- Where the lines of a text begin that is put together from others.
use Rattle.std.proofs.lemmas.Grind.{common_steps}
use Rattle.std.proofs.Common.{◌≡◌, ℕ, ◌+◌, ◌-◌, ◌<◌, true, List, [], ◌∷◌, ◌++◌, length, map, refl}
use Rattle.std.proofs.Common.{ap, ◌∙◌, append-nil, arith}
use Rattle.std.specs.Prelude.{slice_get}
use Rattle.std.proofs.lemmas.List.{length-map}
use Rattle.std.proofs.lemmas.Option.{slice_get_past}
use Rattle.net_addr.specs.declared.line.Line.{Line}
use Rattle.net_addr.specs.Lines.{line_pieces, lines_of, text_lines}
use Rattle.net_addr.specs.JoinedLines.{is_of_whole_lines, line_further_on}
use Rattle.net_addr.proofs.JoinedFacts.{lines_of-length, text_lines-append}
use Rattle.ios_sections.specs.TextLines.{TextLine, text_line, lines_in}
use Rattle.ios_sections.specs.JoinedLines.{further_on}
use Rattle.ios_sections.proofs.JoinedFacts.{lines_in-append}
use Rattle.ios_reader.specs.Places.{begins_at, start_of}
use Rattle.ios_reader.proofs.RawLines.{IsWholeBefore, AreRaw, joined_raw, HasOneLine, one_line}

-- ---- where a line begins ----

get_behind : {X : Type 0} (xs ys : List X) → slice_get (xs ++ ys) (length xs) ≡ slice_get ys 0
get_behind [] ys = refl
get_behind (x ∷ xs) ys = get_behind xs ys

first_begins : (e count bytes : ℕ) (pieces : List (List ℕ)) → 0 < length pieces →
    begins_at e (slice_get (map (line_further_on count bytes) (lines_of 1 0 pieces)) 0) ≡ bytes
first_begins e count bytes [] some = absurd (omega (arith, some))
first_begins e count bytes (piece ∷ pieces) some = let here : bytes + 0 ≡ bytes = omega arith in here

some_pieces : (text : List ℕ) (line : TextLine) (behind : List TextLine) → lines_in text ≡ line ∷ behind → 0 < length (line_pieces text)
some_pieces text line behind is = grind (arith, common_steps, length-map, lines_of-length)

-- the first line behind a text of whole lines begins at its end
pub line_behind : (before rest : List ℕ) (number : ℕ) (line : TextLine) (behind : List TextLine) → is_of_whole_lines before ≡ true →
    lines_in rest ≡ line ∷ behind →
    number ≡ length (lines_in before) + 1 → start_of (before ++ rest) number ≡ length before
line_behind before rest number line behind whole is first =
    let n : ℕ = length (text_lines before) in
    let mapped : length (lines_in before) ≡ n = length-map (text_lines before) (text_line before) in
    let place : number - 1 ≡ n = omega (arith, mapped, first) in
    let e : ℕ = length (before ++ rest) in
    ap (λ (k : ℕ). begins_at e (slice_get (text_lines (before ++ rest)) k)) place
    ∙ ap (λ (l : List Line). begins_at e (slice_get l n)) (text_lines-append before rest whole)
    ∙ ap (begins_at e) (get_behind (text_lines before) (map (line_further_on n (length before)) (text_lines rest)))
    ∙ first_begins e n (length before) (line_pieces rest) (some_pieces rest line behind is)

-- behind the last line of a text is its end
pub past_last : (text : List ℕ) (number : ℕ) → number ≡ length (lines_in text) + 1 → start_of text number ≡ length text
past_last text number past = grind (arith, common_steps, length-map, slice_get_past)

-- where the line begins that follows on some lines
pub next_begins : (before : List ℕ) (raws : List (List ℕ)) (number : ℕ) → IsWholeBefore before raws → AreRaw raws → number ≡ length (lines_in before) + 1 →
    start_of (before ++ joined_raw raws) number ≡ length before
next_begins before [] number whole are first = ap (λ t. start_of t number) (append-nil before) ∙ past_last before number first
next_begins before (raw ∷ []) number whole are first =
    let single : HasOneLine raw = one_line raw are.0 in
    line_behind before (raw ++ []) number single.line [] whole (ap lines_in (append-nil raw) ∙ single.is) first
next_begins before (raw ∷ next ∷ raws) number whole are first =
    let single : HasOneLine raw = one_line raw are.0 in
    line_behind before (raw ++ joined_raw (next ∷ raws)) number single.line
    (map (further_on (length (lines_in raw))) (lines_in (joined_raw (next ∷ raws)))) whole
    (lines_in-append raw (joined_raw (next ∷ raws)) are.1.0
    ∙ ap (λ l. l ++ map (further_on (length (lines_in raw))) (lines_in (joined_raw (next ∷ raws)))) single.is) first
