-- What the lines of changes make of a router's configuration.
use Rattle.std.specs.Prelude.{◌≡◌, ℕ, List, [], ◌++◌, map, if◌then◌else◌, is_some}
use Rattle.net_model.specs.Configuration.{Configuration}
use Rattle.net_model.specs.declared.bounds.TheConstants.{ISIS_DISTANCE, MOST_DISTANCE}
use Rattle.igp_theory.specs.declared.phase.Phase.{Phase}
use Rattle.igp_theory.specs.declared.phase.Phase.TheVariants.{Old, Middle, New}
use Rattle.ios_sections.specs.declared.section.Section.{Section}
use Rattle.ios_reader.specs.Configurations.{configuration_of}
use Rattle.ios_reader.specs.Places.{raw_lines}
use Rattle.ios_reader.specs.PutBlocks.{Piece, IsCutAtEnds, put_blocks, with_blocks}
use Rattle.ios_reader.specs.Texts.{ReadsText}
use Rattle.printed_lines.specs.Texts.{text_of}
use Rattle.step_scripts.specs.Scripts.{isis_change_lines, ospf_change_lines}

-- the lines that take a router from the start to a phase: those of its first change, then those of its second
abbrev pub lines_to : Phase → Configuration → List (List ℕ)
lines_to Old c = []
lines_to Middle c = isis_change_lines c
lines_to New c = isis_change_lines c ++ ospf_change_lines c.process

-- a configuration with other distances
abbrev pub with_distances : ℕ → ℕ → Configuration → Configuration
with_distances ospf isis c = record c { distances = record { ospf = ospf; isis = isis } }

-- after its first change a router has IS-IS at 115, where it has IS-IS; nothing else differs
abbrev pub after_first : Configuration → Configuration
after_first c = if c.isis then with_distances c.distances.ospf ISIS_DISTANCE c else c

-- after its second change it has OSPF at 255, where it has an OSPF process; nothing else differs
abbrev pub after_second : Configuration → Configuration
after_second c = if is_some c.process then with_distances MOST_DISTANCE c.distances.isis c else c

-- its configuration in a phase
abbrev pub in_phase : Phase → Configuration → Configuration
in_phase Old c = c
in_phase Middle c = after_first c
in_phase New c = after_second (after_first c)

-- ---- texts with the lines of changes put in ----

-- the lines that take the router of a configuration to its phase, by its name
abbrev pub block_for : (List ℕ → Phase) → Configuration → List ℕ
block_for phases c = text_of (lines_to (phases c.name) c)

-- the lines for the configuration of these sections
abbrev pub block_in : (List ℕ → Phase) → List Section → List ℕ
block_in phases sections = block_for phases (configuration_of sections)

-- a text with the lines put before each `end` line that take the router of its configuration to its phase
abbrev pub applied_text : (List ℕ → Phase) → List ℕ → List ℕ
applied_text phases text = put_blocks (block_in phases) [] (raw_lines text)

-- read, it has the configurations of the text, each router in its phase
abbrev pub AppliedTextLaw : Type 0
AppliedTextLaw =
    (phases : List ℕ → Phase) (text : List ℕ) (configurations : List Configuration) → ReadsText text configurations →
    ReadsText (applied_text phases text) (map (λ (c : Configuration). in_phase (phases c.name) c) configurations)

-- the pieces of a text up to each of its `end` lines, each with the lines of its configuration put in before this line, and a
-- rest: so the text with the lines put in is written
pub record IsAppliedByPieces (phases : List ℕ → Phase) (text : List ℕ) : Type 0 where
  pub pieces : List Piece
  pub rest : List ℕ
  pub cut : IsCutAtEnds (block_in phases) text pieces rest
  pub written : applied_text phases text ≡ with_blocks pieces ++ rest

-- every byte of a text stays, and besides the lines before its `end` lines none is new
abbrev pub AppliedBytesLaw : Type 0
AppliedBytesLaw = (phases : List ℕ → Phase) (text : List ℕ) → IsAppliedByPieces phases text
