-- The new lines of a prepared text alone, those of each configuration behind a comment that names its router.
use Rattle.std.specs.Prelude.{◌≡◌, ℕ, List, [], ◌∷◌, ◌++◌, codes, map, unwrap_or}
use Rattle.std.specs.List.{flat_map}
use Rattle.net_model.specs.Configuration.{Configuration}
use Rattle.net_model.specs.Network.{Network}
use Rattle.printed_lines.specs.Words.{joined}
use Rattle.printed_lines.specs.Texts.{text_of}
use Rattle.ios_lines.specs.Words.{Word}
use Rattle.ios_lines.specs.Lookups.{last_of}
use Rattle.ios_sections.specs.TextLines.{Part, lines_in, parts_of}
use Rattle.ios_sections.specs.Sections.{sections_in}
use Rattle.ios_sections.specs.Processes.{as_hostname}
use Rattle.ios_sections.specs.declared.section.Section.{Section}
use Rattle.ios_reader.specs.PutBlocks.{Piece}
use Rattle.ios_reader.specs.Texts.{ReadsText}
use Rattle.design_file.specs.declared.settled.SettledRouter.{SettledRouter}
use Rattle.isis_writer.specs.Prepared.{IsPreparedByPieces, new_lines}

-- the comment that names a router
abbrev pub router_comment : Word → List ℕ
router_comment name = joined (codes "!" ∷ codes "router" ∷ name ∷ [])

-- the comment and the new lines of a configuration, by its sections
abbrev pub delta_block : Network → List SettledRouter → List Section → List ℕ
delta_block net settled sections = text_of (router_comment (unwrap_or (last_of as_hostname sections) []) ∷ new_lines net settled sections)

-- those of some configurations
abbrev pub delta_parts : Network → List SettledRouter → List Part → List ℕ
delta_parts net settled parts = flat_map (λ (part : Part). delta_block net settled (sections_in part)) parts

-- and of all that a text has
abbrev pub delta_text : List ℕ → Network → List SettledRouter → List ℕ
delta_text text net settled = delta_parts net settled (parts_of (lines_in text))

-- blocks of lines, each behind the comment that names its router
abbrev pub named_blocks : List Word → List (List ℕ) → List ℕ
named_blocks [] blocks = []
named_blocks (name ∷ names) [] = []
named_blocks (name ∷ names) (block ∷ blocks) = text_of (router_comment name ∷ []) ++ block ++ named_blocks names blocks

-- a text is prepared by pieces, each with the block that is put before its `end` line: these blocks are printed, each behind the
-- name of the router whose configuration the piece is, and nothing else is
pub record IsDeltaOfPieces (text : List ℕ) (net : Network) (settled : List SettledRouter) (configurations : List Configuration) : Type 0 where
  pub prepared : IsPreparedByPieces text net settled
  pub printed :
      delta_text text net settled
      ≡ named_blocks (map (λ (c : Configuration). c.name) configurations) (map (λ (piece : Piece). piece.block) prepared.pieces)

-- that is so of each text that is read
abbrev pub DeltaLaw : Type 0
DeltaLaw =
    (text : List ℕ) (net : Network) (settled : List SettledRouter) (configurations : List Configuration) →
    ReadsText text configurations → IsDeltaOfPieces text net settled configurations
