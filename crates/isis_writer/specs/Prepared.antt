-- Prepared texts: the lines of each router stand before its `end` line, and what stood behind the last one is left out.
use Rattle.std.specs.Prelude.{◌≡◌, ℕ, ◌+◌, List, [], ◌∷◌, ◌++◌, Option, Some, None, bytes_eq, if◌then◌else◌, slice_get, unwrap_or}
use Rattle.net_model.specs.Network.{Network}
use Rattle.printed_lines.specs.Texts.{text_of}
use Rattle.ios_lines.specs.Words.{Word}
use Rattle.ios_lines.specs.Lookups.{last_of}
use Rattle.ios_sections.specs.TextLines.{Part, lines_in, parts_of}
use Rattle.ios_sections.specs.Sections.{sections_in}
use Rattle.ios_sections.specs.Processes.{as_hostname, interfaces_in}
use Rattle.ios_sections.specs.declared.section.InterfaceSection.{InterfaceSection}
use Rattle.ios_sections.specs.declared.section.Section.{Section}
use Rattle.ios_reader.specs.Places.{between, start_of}
use Rattle.ios_reader.specs.PutBlocks.{Piece, IsCutAtEnds, with_blocks}
use Rattle.design_file.specs.declared.settled.SettledRouter.{SettledRouter}
use Rattle.isis_writer.specs.RouterLines.{router_lines}

-- ---- the lines of a configuration ----

-- the number of the first router of this name, counted from this one
abbrev pub numbered_from : ℕ → Word → Network → Option ℕ
numbered_from u name [] = None
numbered_from u name (config ∷ more) = if bytes_eq config.name name then Some u else numbered_from (u + 1) name more

-- the lines of a router for which this is settled, and whose old interfaces are these
abbrev pub settled_lines : List InterfaceSection → ℕ → Option SettledRouter → List (List ℕ)
settled_lines old number None = []
settled_lines old number (Some router) = router_lines old number router

-- the lines of the router of this number
abbrev pub numbered_lines : List InterfaceSection → List SettledRouter → Option ℕ → List (List ℕ)
numbered_lines old settled None = []
numbered_lines old settled (Some number) = settled_lines old number (slice_get settled number)

-- the lines of the router whose configuration these sections make
abbrev pub new_lines : Network → List SettledRouter → List Section → List (List ℕ)
new_lines net settled sections =
    numbered_lines (interfaces_in sections) settled (numbered_from 0 (unwrap_or (last_of as_hostname sections) []) net)

-- the same as a block of text
abbrev pub new_block : Network → List SettledRouter → List Section → List ℕ
new_block net settled sections = text_of (new_lines net settled sections)

-- ---- the text ----

-- a part with the block for its sections: what stands before its `end` line, the block, and the `end` line
abbrev pub prepared_part : (List Section → List ℕ) → List ℕ → ℕ → Part → List ℕ
prepared_part block text from part =
    between text from (start_of text part.ends) ++ block (sections_in part) ++ between text (start_of text part.ends) (start_of text (part.ends + 1))

-- the parts with their blocks, from a place of the text on
abbrev pub prepared_parts : (List Section → List ℕ) → List ℕ → ℕ → List Part → List ℕ
prepared_parts block text from [] = []
prepared_parts block text from (part ∷ more) =
    prepared_part block text from part ++ prepared_parts block text (start_of text (part.ends + 1)) more

-- the prepared text
abbrev pub prepared_text : List ℕ → Network → List SettledRouter → List ℕ
prepared_text text net settled = prepared_parts (new_block net settled) text 0 (parts_of (lines_in text))

-- ---- its bytes ----

-- the pieces of a text up to each of its `end` lines, each with the lines of its router put in before this line: so the prepared
-- text is written, and what stands behind the last of them is left out
pub record IsPreparedByPieces (text : List ℕ) (net : Network) (settled : List SettledRouter) : Type 0 where
  pub pieces : List Piece
  pub rest : List ℕ
  pub cut : IsCutAtEnds (new_block net settled) text pieces rest
  pub written : prepared_text text net settled ≡ with_blocks pieces

-- up to its last `end` line every byte of a text stays, and besides the lines before its `end` lines none is new
abbrev pub PreparedBytesLaw : Type 0
PreparedBytesLaw = (text : List ℕ) (net : Network) (settled : List SettledRouter) → IsPreparedByPieces text net settled
