-- A text with blocks put in, as bytes: its pieces up to each `end` line, each with its block, and a rest.
use Rattle.std.proofs.lemmas.Grind.{common_steps}
use Rattle.std.proofs.Common.{◌≡◌, ℕ, ◌+◌, Bool, true, false, not, ◌&&◌, ◌||◌, cond, List, [], ◌∷◌, ◌++◌, length, map, drop, refl, sym, ap}
use Rattle.std.proofs.Common.{subst, ◌∙◌, append_assoc, append-nil, length-append, arith}
use Rattle.std.specs.Prelude.{All}
use Rattle.std.proofs.lemmas.Bool.{and_parts, not-true}
use Rattle.std.proofs.lemmas.List.{take_at, drop_at, drop-drop}
use Rattle.std.proofs.lemmas.List.Elements.{All-cons, All-nil}
use Rattle.net_addr.specs.JoinedLines.{is_of_whole_lines}
use Rattle.ios_sections.specs.TextLines.{TextLine, Part, lines_in, is_end, parts_of}
use Rattle.ios_sections.specs.Sections.{sections_in}
use Rattle.ios_sections.specs.JoinedLines.{further_on, is_in_banner, begins_with_end, open_lines, open_sections}
use Rattle.ios_sections.specs.declared.section.Section.{Section}
use Rattle.ios_sections.proofs.JoinedFacts.{lines_in-append}
use Rattle.ios_reader.specs.InsertedLines.{IsOutsideBanners}
use Rattle.ios_reader.specs.Places.{between, start_of, raw_lines}
use Rattle.ios_reader.specs.PutBlocks.{ends_here, put_block, put_blocks, Piece, as_they_were, with_blocks, EndsAtEnd, IsCutAtEnds}
use Rattle.ios_reader.proofs.RawLines.{IsWholeBefore, AreRaw, joined_raw, HasOneLine, one_line, are_raw, raw_joined, parts_stay, parts_at_end}
use Rattle.ios_reader.proofs.RawLines.{part_with, whole_next, whole_start}
use Rattle.ios_reader.proofs.LinePlaces.{next_begins}

-- ---- up to the last `end` line ----

-- one of some lines behind a text is an `end` line outside banners
abbrev pub ends_among : List ℕ → List (List ℕ) → Bool
ends_among before [] = false
ends_among before (raw ∷ raws) = ends_here before raw || ends_among (before ++ raw) raws

-- what stands behind a text up to the last `end` line, with the blocks put in
abbrev pub put_to_last : (List Section → List ℕ) → List ℕ → List (List ℕ) → List ℕ
put_to_last block before [] = []
put_to_last block before (raw ∷ raws) =
    cond (ends_among before (raw ∷ raws)) (put_block block before raw ++ raw ++ put_to_last block (before ++ raw) raws) []

pub put_none : (block : List Section → List ℕ) (before : List ℕ) (raws : List (List ℕ)) → ends_among before raws ≡ false →
    put_to_last block before raws ≡ []
put_none block before [] none = refl
put_none block before (raw ∷ raws) none =
    ap (λ (b : Bool). cond b (put_block block before raw ++ raw ++ put_to_last block (before ++ raw) raws) []) none

-- ---- the places of the pieces ----

-- from a place of a text on, the `end` line of each part begins behind what stands before it in its piece, and the next part
-- behind its piece
abbrev pub ArePlaced : List ℕ → ℕ → List Piece → List Part → Type 0
ArePlaced text from [] [] = Unit {0}
ArePlaced text from [] (part ∷ parts) = ⊥
ArePlaced text from (piece ∷ pieces) [] = ⊥
ArePlaced text from (piece ∷ pieces) (part ∷ parts) =
    (start_of text part.ends ≡ from + length piece.before) × (start_of text (part.ends + 1) ≡ from + length piece.before + length piece.ends)
    × ArePlaced text (from + length piece.before + length piece.ends) pieces parts

-- what stands in front from a place of a text on, and what stands behind it
pub between_front : (text : List ℕ) (from : ℕ) (front back : List ℕ) → drop from text ≡ front ++ back → between text from (from + length front) ≡ front
between_front text from front back is = grind (arith, common_steps, take_at)

pub drop_front : (text : List ℕ) (from : ℕ) (front back : List ℕ) → drop from text ≡ front ++ back → drop (from + length front) text ≡ back
drop_front text from front back is =
    sym (drop-drop (length front) from text) ∙ ap (drop (length front)) is ∙ drop_at front back (length front) refl

-- ---- the pieces ----

-- what stands pending, a block and a line, before some more
three : (a b c more : List ℕ) → a ++ ((b ++ c) ++ more) ≡ ((a ++ b) ++ c) ++ more
three a b c more = sym (append_assoc a (b ++ c) more) ∙ ap (λ (l : List ℕ). l ++ more) (sym (append_assoc a b c))

module _ (block : List Section → List ℕ) where
  -- of some lines behind a text, and of what stands pending before them since the last `end` line
  record IsCutBehind (before pending : List ℕ) (raws : List (List ℕ)) : Type 0 where
    pieces : List Piece
    rest : List ℕ
    later : List Part
    was : pending ++ joined_raw raws ≡ as_they_were pieces ++ rest
    made : pending ++ put_blocks block before raws ≡ with_blocks pieces ++ rest
    ends : All EndsAtEnd pieces
    parts : parts_of (lines_in (before ++ joined_raw raws)) ≡ parts_of (lines_in before) ++ later
    blocks : map (λ (piece : Piece). piece.block) pieces ≡ map (λ (part : Part). block (sections_in part)) later
    placed : (from : ℕ) → from + length pending ≡ length before → ArePlaced (before ++ joined_raw raws) from pieces later
    some : ends_among before raws ≡ true → pending ++ put_to_last block before raws ≡ with_blocks pieces
    none : ends_among before raws ≡ false → pieces ≡ []

  -- behind all lines
  cut_none : (before pending : List ℕ) → IsCutBehind before pending []
  cut_none before pending = record {
    pieces = [];
    rest = pending;
    later = [];
    was = append-nil pending;
    made = append-nil pending;
    ends = All-nil EndsAtEnd;
    parts = ap (λ (t : List ℕ). parts_of (lines_in t)) (append-nil before) ∙ sym (append-nil (parts_of (lines_in before)));
    blocks = refl;
    placed = λ from at. tt;
    some = λ e. absurd cc;
    none = λ e. refl;
  }

  -- a line that is no `end` line outside banners
  cut_plain : (before pending raw : List ℕ) (raws : List (List ℕ)) (line : TextLine) → is_of_whole_lines before ≡ true →
      lines_in raw ≡ line ∷ [] → ends_here before raw ≡ false → IsCutBehind (before ++ raw) (pending ++ raw) raws →
      IsCutBehind before pending (raw ∷ raws)
  cut_plain before pending raw raws line whole is off next =
      grind (arith, common_steps, joined_raw, lines_in-append, parts_stay)

  -- an `end` line outside banners
  cut_end : (before pending raw : List ℕ) (raws : List (List ℕ)) (line : TextLine) → IsOutsideBanners before → AreRaw (raw ∷ raws) →
      lines_in raw ≡ line ∷ [] → line.number ≡ 1 → is_end line ≡ true → ends_here before raw ≡ true → IsCutBehind (before ++ raw) [] raws →
      IsCutBehind before pending (raw ∷ raws)
  cut_end before pending raw raws line outside are is first e here next =
      let n : ℕ = length (lines_in before) in
      let whole : (before ++ raw) ++ joined_raw raws ≡ before ++ (raw ++ joined_raw raws) = append_assoc before raw (joined_raw raws) in
      let counted : length (lines_in (before ++ raw)) ≡ n + 1 =
      ap (λ (ls : List TextLine). length ls)
      (lines_in-append before raw outside.whole ∙ ap (λ (ls : List TextLine). lines_in before ++ map (further_on n) ls) is)
      ∙ length-append (lines_in before) (further_on n line ∷ []) in
      let start : start_of (before ++ (raw ++ joined_raw raws)) (n + line.number) ≡ length before =
      next_begins before (raw ∷ raws) (n + line.number) outside.whole are (omega (arith, first)) in
      let behind : start_of (before ++ (raw ++ joined_raw raws)) (n + line.number + 1) ≡ length (before ++ raw) =
      sym (ap (λ (t : List ℕ). start_of t (n + line.number + 1)) whole)
      ∙ next_begins (before ++ raw) raws (n + line.number + 1) (whole_next before raw raws outside.whole are.1.0) are.1.1
      (omega (arith, first, counted)) in
      let own : List ℕ = block (open_sections before) in
      let piece : Piece = record { before = pending; block = own; ends = raw } in
      let part : Part = part_with (open_lines before) (length (lines_in before) + line.number) in
      record {
        pieces = piece ∷ next.pieces;
        rest = next.rest;
        later = part ∷ next.later;
        was =
            sym (append_assoc pending raw (joined_raw raws)) ∙ ap (λ (l : List ℕ). (pending ++ raw) ++ l) next.was
            ∙ sym (append_assoc (pending ++ raw) (as_they_were next.pieces) next.rest);
        made =
            ap (λ (b : Bool). pending ++ (cond b own [] ++ raw ++ put_blocks block (before ++ raw) raws)) here
            ∙ ap (λ (l : List ℕ). pending ++ (own ++ raw ++ l)) next.made
            ∙ three pending own raw (with_blocks next.pieces ++ next.rest)
            ∙ sym (append_assoc (pending ++ own ++ raw) (with_blocks next.pieces) next.rest);
        ends = All-cons EndsAtEnd piece next.pieces
            (record { one = ap (λ (ls : List TextLine). length ls) is; ends = ap begins_with_end is ∙ e }) next.ends;
        parts =
            ap (λ (t : List ℕ). parts_of (lines_in t)) (sym (append_assoc before raw (joined_raw raws)))
            ∙ next.parts
            ∙ ap (λ (ps : List Part). ps ++ next.later) (parts_at_end before raw line [] outside is e)
            ∙ append_assoc (parts_of (lines_in before)) (part ∷ []) next.later;
        blocks = ap (λ (l : List (List ℕ)). own ∷ l) next.blocks;
        placed = λ from at.
            let long : from + length pending + length raw ≡ length (before ++ raw) = omega (arith, at, length-append before raw) in (
              start ∙ sym at,
              behind ∙ sym long,
              subst (λ (t : List ℕ). ArePlaced t (from + length pending + length raw) next.pieces next.later) whole
                  (next.placed (from + length pending + length raw) (omega (arith, long))),
            );
        some = λ some.
            ap (λ (b : Bool). pending ++ cond (b || ends_among (before ++ raw) raws)
            (cond b own [] ++ raw ++ put_to_last block (before ++ raw) raws) []) here
            ∙ ap (λ (l : List ℕ). pending ++ (own ++ raw ++ l)) (after (ends_among (before ++ raw) raws) refl)
            ∙ three pending own raw (with_blocks next.pieces);
        none = λ none. absurd (let no : true ≡ false = sym (ap (λ (b : Bool). b || ends_among (before ++ raw) raws) here) ∙ none in cc);
      }
    where
      after : (b : Bool) → ends_among (before ++ raw) raws ≡ b → put_to_last block (before ++ raw) raws ≡ with_blocks next.pieces
      after true more = next.some more
      after false more = put_none block (before ++ raw) raws more ∙ sym (ap with_blocks (next.none more))

  cut_behind : (raws : List (List ℕ)) (before pending : List ℕ) → IsWholeBefore before raws → AreRaw raws → IsCutBehind before pending raws
  cut_behind [] before pending whole are = cut_none before pending
  cut_behind (raw ∷ raws) before pending whole are =
      by_here (λ next. cut_behind raws (before ++ raw) next (whole_next before raw raws whole are.1.0) are.1.1)
      (ends_here before raw) refl
    where
      single : HasOneLine raw
      single = one_line raw are.0

      by_here : ((next : List ℕ) → IsCutBehind (before ++ raw) next raws) → (b : Bool) → ends_here before raw ≡ b →
          IsCutBehind before pending (raw ∷ raws)
      by_here behind false off = cut_plain before pending raw raws single.line whole single.is off (behind (pending ++ raw))
      by_here behind true here =
          let two = and_parts (not (is_in_banner (lines_in before))) (is_end single.line)
          (ap (λ (ls : List TextLine). not (is_in_banner (lines_in before)) && begins_with_end ls) (sym single.is) ∙ here) in
          cut_end before pending raw raws single.line (record { whole = whole; outside = not-true (is_in_banner (lines_in before)) two.0 })
          are single.is single.first two.1 here (behind [])

  -- ---- a text ----

  -- a text, cut at its `end` lines, with its blocks up to the last of them or to its own end
  pub record IsCutText (text : List ℕ) : Type 0 where
    pub pieces : List Piece
    pub rest : List ℕ
    pub cut : IsCutAtEnds block text pieces rest
    pub placed : ArePlaced text 0 pieces (parts_of (lines_in text))
    pub whole : put_blocks block [] (raw_lines text) ≡ with_blocks pieces ++ rest
    pub to_last : ends_among [] (raw_lines text) ≡ true → put_to_last block [] (raw_lines text) ≡ with_blocks pieces

  pub cut_text : (text : List ℕ) → IsCutText text
  cut_text text =
      let all : IsCutBehind [] [] (raw_lines text) = cut_behind (raw_lines text) [] [] (whole_start (raw_lines text)) (are_raw text) in
      let parts : all.later ≡ parts_of (lines_in text) =
      sym all.parts ∙ ap (λ (t : List ℕ). parts_of (lines_in t)) (raw_joined text) in
      record {
        pieces = all.pieces;
        rest = all.rest;
        cut = record {
          text_is = sym (raw_joined text) ∙ all.was;
          ends = all.ends;
          blocks = all.blocks ∙ ap (map (λ (part : Part). block (sections_in part))) parts;
        };
        placed =
            subst (λ (ps : List Part). ArePlaced text 0 all.pieces ps) parts
            (subst (λ (t : List ℕ). ArePlaced t 0 all.pieces all.later) (raw_joined text) (all.placed 0 refl));
        whole = all.made;
        to_last = all.some;
      }
