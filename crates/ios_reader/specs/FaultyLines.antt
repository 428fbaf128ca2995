-- The faulty lines of a text, all of them.
use Rattle.std.specs.Prelude.{◌≡◌, ◌↔◌, ℕ, ◌<◌, ◌≤◌, List, ◌∷◌, length, All, Contains}
use Rattle.std.specs.List.{AllPairs}
use Rattle.ios_lines.specs.FaultOrder.{rank}
use Rattle.ios_lines.specs.declared.fault.Fault.{Fault}
use Rattle.ios_sections.specs.TextLines.{lines_in}
use Rattle.ios_reader.specs.Faults.{faults_in}
use Rattle.ios_reader.specs.Texts.{IsRefusedText}

-- the line is faulty with this kind, and with no lesser one
pub record IsLeastOnLine (faults : List Fault) (fault : Fault) : Type 0 where
  pub among : Contains faults fault
  pub least : All (λ (other : Fault). other.line ≡ fault.line → rank fault.kind ≤ rank other.kind) faults

-- the faulty lines, ascending, each once with its least kind
pub record AreLeastOnLines (faults told : List Fault) : Type 0 where
  pub ascending : AllPairs (λ (f g : Fault). f.line < g.line) told
  pub each : (fault : Fault) → Contains told fault ↔ IsLeastOnLine faults fault

-- the text has faulty lines, and these are they
pub record AreFaultyLines (text : List ℕ) (told : List Fault) : Type 0 where
  pub some : 0 < length told
  pub all : AreLeastOnLines (faults_in (lines_in text)) told

-- the first of the faulty lines of a text is the one that the text is refused for
abbrev pub FirstFaultyLineLaw : Type 0
FirstFaultyLineLaw =
    (text : List ℕ) (first : Fault) (more : List Fault) → AreFaultyLines text (first ∷ more) → IsRefusedText text first.line first.kind
