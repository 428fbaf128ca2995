-- The parts of a text, read one after the other.
use Rattle.std.specs.Prelude.{◌≡◌, ℕ, Bool, ◌&&◌, nat_eq, List, [], ◌∷◌, ◌++◌, length, Option, Some, map, flat_map}
use Rattle.net_model.specs.Configuration.{Configuration}
use Rattle.ios_sections.specs.TextLines.{TextLine, Part, lines_in, parts_after, rest_after}
use Rattle.ios_sections.specs.Sections.{sections_in}
use Rattle.ios_reader.specs.Faults.{part_faults, faults_in}
use Rattle.ios_reader.specs.Configurations.{configuration_of, configurations_in}
use Rattle.ios_lines.specs.declared.fault.Fault.{Fault}

-- the lines before an `end` line of this number
abbrev pub part_at : List TextLine → ℕ → Part
part_at lines ends = record { lines = lines; ends = ends }

-- what was read of a part
pub record PartRead : Type 0 where
  pub config : Option Configuration
  pub faults : List Fault

-- a part is read: its faults, and where there is none its configuration
pub record IsPartRead (part : Part) (read : PartRead) : Type 0 where
  pub faults : read.faults ≡ part_faults part
  pub config : read.faults ≡ [] → read.config ≡ Some (configuration_of (sections_in part))

-- what was read of some parts
pub record Reading : Type 0 where
  pub configs : List Configuration
  pub faults : List Fault

-- some parts are read: their faults, and where there is none their configurations
pub record IsReadingOf (parts : List Part) (reading : Reading) : Type 0 where
  pub faults : reading.faults ≡ flat_map part_faults parts
  pub configs : reading.faults ≡ [] → reading.configs ≡ map (λ (part : Part). configuration_of (sections_in part)) parts

-- nothing was read
abbrev pub is_nothing : Reading → Bool
is_nothing reading = nat_eq (length reading.configs) 0 && nat_eq (length reading.faults) 0

-- of some lines those that are left aren't read yet: the parts that the others end are, and the lines of the open part are at hand
pub record IsReadBut (all left part : List TextLine) (reading : Reading) : Type 0 where
  pub done : List Part
  pub parts : done ++ parts_after part left ≡ parts_after [] all
  pub rest : rest_after part left ≡ rest_after [] all
  pub read : IsReadingOf done reading

-- one more line is taken in
abbrev pub TakesInLine : List TextLine → Reading → TextLine → List TextLine → Reading → Type 0
TakesInLine part reading line after now = (all left : List TextLine) → IsReadBut all (line ∷ left) part reading → IsReadBut all left after now

-- a text is read: its faults, and where there is none its configurations
pub record IsTextReading (text : List ℕ) (reading : Reading) : Type 0 where
  pub faults : reading.faults ≡ faults_in (lines_in text)
  pub configs : reading.faults ≡ [] → reading.configs ≡ configurations_in (lines_in text)
