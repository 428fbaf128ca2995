-- The pieces of a text stand in it one after another, so their spans hold just their bytes.
use Rattle.std.proofs.lemmas.Grind.{common_steps}
use Rattle.std.proofs.Common.{◌≡◌, ℕ, ◌+◌, ◌<◌, ◌≤◌, Bool, true, false, cond, eqb, List, [], ◌∷◌, ◌++◌, length, take, drop}
use Rattle.std.proofs.Common.{map, length-drop, length-append, arith, refl, sym, ap, subst, ◌∙◌}
use Rattle.std.specs.List.{slice_range, slice_split, onto_first, All}
use Rattle.std.specs.Str.Lines.{strip_carriage_return}
use Rattle.std.proofs.lemmas.List.{append-nil, take-append-drop, take_at, drop-drop}
use Rattle.std.proofs.lemmas.List.Elements.{All-cons, All-nil}
use Rattle.net_addr.specs.declared.line.Line.{Line}
use Rattle.net_addr.specs.Spans.{bytes_of, LiesIn}
use Rattle.net_addr.specs.Lines.{is_line_feed, without_empty_last, line_pieces, line_of, lines_of, line_texts, text_lines}
use Rattle.net_addr.proofs.PieceFacts.{some_pieces}

-- the text goes on with the piece from `start` on
pub record StandsAt (text : List ℕ) (start : ℕ) (piece : List ℕ) : Type 0 where
  pub rest : List ℕ
  pub here : drop start text ≡ piece ++ rest
  pub inside : start ≤ length text

-- the pieces stand in the text from `start` on, with one byte between each and the next
abbrev pub ArePlaced : List ℕ → ℕ → List (List ℕ) → Type 0
ArePlaced text start [] = Unit {0}
ArePlaced text start (piece ∷ more) = StandsAt text start piece × ArePlaced text (start + length piece + 1) more

StandsAt-end : (text : List ℕ) (start : ℕ) (piece : List ℕ) → StandsAt text start piece → start + length piece ≤ length text
StandsAt-end text start piece stands =
    let inside : start ≤ length text = stands.inside in
    omega (arith, length-drop start text, ap length stands.here, length-append piece stands.rest)

pub StandsAt-bytes : (text : List ℕ) (start : ℕ) (piece : List ℕ) → StandsAt text start piece → slice_range text start (start + length piece) ≡ piece
StandsAt-bytes text start piece stands = grind (arith, common_steps, take_at)

step_on : (text : List ℕ) (start x : ℕ) (xs : List ℕ) → start ≤ length text → drop start text ≡ x ∷ xs →
    (start + 1 ≤ length text) × (drop (start + 1) text ≡ xs)
step_on text start x xs inside e = (
  omega (arith, length-drop start text, ap length e),
  sym (drop-drop 1 start text) ∙ ap (drop 1) e,
)

placed_on : (text : List ℕ) (start later : ℕ) (pieces : List (List ℕ)) → later ≡ start → ArePlaced text later pieces → ArePlaced text start pieces
placed_on text start later pieces e placed = subst (λ (n : ℕ). ArePlaced text n pieces) e placed

onto_placed : (text : List ℕ) (start x : ℕ) (pieces : List (List ℕ)) → 0 < length pieces → start ≤ length text →
    drop start text ≡ x ∷ drop (start + 1) text → ArePlaced text (start + 1) pieces → ArePlaced text start (onto_first x pieces)
onto_placed text start x [] some inside e placed = absurd (omega arith)
onto_placed text start x (piece ∷ more) some inside e placed = (
  record { rest = placed.0.rest; here = e ∙ ap (λ (w : List ℕ). x ∷ w) placed.0.here; inside = inside },
  placed_on text (start + length (x ∷ piece) + 1) (start + 1 + length piece + 1) more (omega arith) placed.1,
)

-- what a test cuts a part of a text into stands there
pub ArePlaced-slice_split : (p : ℕ → Bool) (text : List ℕ) (start : ℕ) (xs ys : List ℕ) → start ≤ length text → drop start text ≡ xs ++ ys →
    ArePlaced text start (slice_split p xs)
ArePlaced-slice_split p text start [] ys inside e = (record { rest = ys; here = e; inside = inside }, tt)
ArePlaced-slice_split p text start (x ∷ xs) ys inside e =
    let next : (start + 1 ≤ length text) × (drop (start + 1) text ≡ xs ++ ys) = step_on text start x (xs ++ ys) inside e in
    let placed : ArePlaced text (start + 1) (slice_split p xs) = ArePlaced-slice_split p text (start + 1) xs ys next.0 next.1 in
    elim (p x) as (λ b. ArePlaced text start (cond b ([] ∷ slice_split p xs) (onto_first x (slice_split p xs)))) [
      | true ↦ (
        record { rest = x ∷ (xs ++ ys); here = e; inside = inside },
        placed_on text (start + 0 + 1) (start + 1) (slice_split p xs) (omega arith) placed,
      )
      | false ↦
          onto_placed text start x (slice_split p xs) (some_pieces p xs) inside (e ∙ ap (λ (w : List ℕ). x ∷ w) (sym next.1)) placed
    ]

-- the pieces of a text, without an empty last one, still stand in it
ArePlaced-without_empty_last : (text : List ℕ) (start : ℕ) (pieces : List (List ℕ)) → ArePlaced text start pieces →
    ArePlaced text start (without_empty_last pieces)
ArePlaced-without_empty_last text start [] placed = tt
ArePlaced-without_empty_last text start (piece ∷ []) placed =
    elim (eqb (length piece) 0) as (λ b. ArePlaced text start (cond b [] (piece ∷ []))) [ true ↦ tt | false ↦ placed ]
ArePlaced-without_empty_last text start (piece ∷ next ∷ more) placed =
    (placed.0, ArePlaced-without_empty_last text (start + length piece + 1) (next ∷ more) placed.1)

-- the lines of a text stand in it
pub line_pieces-placed : (text : List ℕ) → ArePlaced text 0 (line_pieces text)
line_pieces-placed text =
    ArePlaced-without_empty_last text 0 (slice_split is_line_feed text)
    (ArePlaced-slice_split is_line_feed text 0 text [] (omega arith) (sym (append-nil text)))

-- a piece without its carriage return is the start of the piece
pub record IsStartOf (piece part : List ℕ) : Type 0 where
  pub end : List ℕ
  pub joined : piece ≡ part ++ end

start_by_take : (n : ℕ) (piece : List ℕ) → IsStartOf piece (take n piece)
start_by_take n piece = record { end = drop n piece; joined = sym (take-append-drop n piece) }

strip-start : (piece : List ℕ) → IsStartOf piece (strip_carriage_return piece)
strip-start piece = grind (arith, common_steps, append-nil, start_by_take)

StandsAt-start : (text : List ℕ) (start : ℕ) (piece part : List ℕ) → IsStartOf piece part → StandsAt text start piece → StandsAt text start part
StandsAt-start text start piece part first stands = grind (arith, common_steps)

-- the spans of lines hold the bytes of their pieces without a carriage return
lines_of-texts : (text : List ℕ) (number start : ℕ) (pieces : List (List ℕ)) → ArePlaced text start pieces →
    map (λ (line : Line). bytes_of text line.span) (lines_of number start pieces) ≡ map strip_carriage_return pieces
lines_of-texts text number start [] placed = refl
lines_of-texts text number start (piece ∷ more) placed =
    let here : slice_range text start (start + length (strip_carriage_return piece)) ≡ strip_carriage_return piece =
    StandsAt-bytes text start (strip_carriage_return piece) (StandsAt-start text start piece (strip_carriage_return piece) (strip-start piece) placed.0) in
    let others : map (λ (line : Line). bytes_of text line.span) (lines_of (number + 1) (start + length piece + 1) more) ≡ map strip_carriage_return more =
    lines_of-texts text (number + 1) (start + length piece + 1) more placed.1 in
    ap (λ (w : List ℕ). w ∷ map (λ (line : Line). bytes_of text line.span) (lines_of (number + 1) (start + length piece + 1) more)) here
    ∙ ap (λ (ws : List (List ℕ)). strip_carriage_return piece ∷ ws) others

-- the spans of the lines of a text hold the bytes of its lines
pub text_lines-texts : (text : List ℕ) → map (λ (line : Line). bytes_of text line.span) (text_lines text) ≡ line_texts text
text_lines-texts text = lines_of-texts text 1 0 (line_pieces text) (line_pieces-placed text)

pub StandsAt-lies : (text : List ℕ) (start : ℕ) (piece : List ℕ) → StandsAt text start piece →
    LiesIn text (record { start = start; stop = start + length piece })
StandsAt-lies text start piece stands = record { ordered = omega arith; inside = StandsAt-end text start piece stands }

lines_of-inside : (text : List ℕ) (number start : ℕ) (pieces : List (List ℕ)) → ArePlaced text start pieces →
    All (λ (line : Line). LiesIn text line.span) (lines_of number start pieces)
lines_of-inside text number start [] placed = All-nil (λ (line : Line). LiesIn text line.span)
lines_of-inside text number start (piece ∷ more) placed =
    All-cons (λ (line : Line). LiesIn text line.span) (line_of number start piece) (lines_of (number + 1) (start + length piece + 1) more)
    (StandsAt-lies text start (strip_carriage_return piece) (StandsAt-start text start piece (strip_carriage_return piece) (strip-start piece) placed.0))
    (lines_of-inside text (number + 1) (start + length piece + 1) more placed.1)

-- the spans of the lines of a text lie in it
pub text_lines-inside : (text : List ℕ) → All (λ (line : Line). LiesIn text line.span) (text_lines text)
text_lines-inside text = lines_of-inside text 1 0 (line_pieces text) (line_pieces-placed text)
