-- Lines put into a text before each of its `end` lines outside banners: a block for the configuration that this line ends, by its
-- sections.
use Rattle.std.specs.Prelude.{◌≡◌, ℕ, Bool, true, false, ◌&&◌, not, All, List, [], ◌∷◌, ◌++◌, if◌then◌else◌, length, map}
use Rattle.std.specs.List.{flat_map}
use Rattle.ios_sections.specs.TextLines.{Part, lines_in, parts_of}
use Rattle.ios_sections.specs.Sections.{sections_in}
use Rattle.ios_sections.specs.JoinedLines.{is_in_banner, begins_with_end, open_sections}
use Rattle.ios_sections.specs.declared.section.Section.{Section}

-- a line behind a text is an `end` line outside banners
abbrev pub ends_here : List ℕ → List ℕ → Bool
ends_here before raw = not (is_in_banner (lines_in before)) && begins_with_end (lines_in raw)

-- what is put between a text and the line behind it
abbrev pub put_block : (List Section → List ℕ) → List ℕ → List ℕ → List ℕ
put_block block before raw = if ends_here before raw then block (open_sections before) else []

-- the lines behind a text, with these blocks put in
abbrev pub put_blocks : (List Section → List ℕ) → List ℕ → List (List ℕ) → List ℕ
put_blocks block before [] = []
put_blocks block before (raw ∷ raws) = put_block block before raw ++ raw ++ put_blocks block (before ++ raw) raws

-- the last one of the lines behind a text is an `end` line outside banners
abbrev pub ends_last : List ℕ → List (List ℕ) → Bool
ends_last before [] = false
ends_last before (raw ∷ []) = ends_here before raw
ends_last before (raw ∷ next ∷ raws) = ends_last (before ++ raw) (next ∷ raws)

-- ---- bytes: what stays and what is new ----

-- a piece of a text: what stands before an `end` line, the block that is put before this line, and the line
pub record Piece : Type 0 where
  pub before : List ℕ
  pub block : List ℕ
  pub ends : List ℕ

-- pieces end to end, as they were
abbrev pub as_they_were : List Piece → List ℕ
as_they_were pieces = flat_map (λ (piece : Piece). piece.before ++ piece.ends) pieces

-- and with their blocks
abbrev pub with_blocks : List Piece → List ℕ
with_blocks pieces = flat_map (λ (piece : Piece). piece.before ++ piece.block ++ piece.ends) pieces

-- a piece ends with one line, which is an `end` line
pub record EndsAtEnd (piece : Piece) : Type 0 where
  pub one : length (lines_in piece.ends) ≡ 1
  pub ends : begins_with_end (lines_in piece.ends) ≡ true

-- a text is these pieces and a rest, a piece for each of its configurations, with the block for the configuration's sections
pub record IsCutAtEnds (block : List Section → List ℕ) (text : List ℕ) (pieces : List Piece) (rest : List ℕ) : Type 0 where
  pub text_is : text ≡ as_they_were pieces ++ rest
  pub ends : All EndsAtEnd pieces
  pub blocks : map (λ (piece : Piece). piece.block) pieces ≡ map (λ (part : Part). block (sections_in part)) (parts_of (lines_in text))
