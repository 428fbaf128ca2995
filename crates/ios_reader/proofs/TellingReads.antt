-- A text is read by the lines that tell something.
use Rattle.std.proofs.Common.{arith}
use Rattle.std.proofs.lemmas.Grind.{common_steps}
use Rattle.std.proofs.Common.{◌≡◌, Bool, false, ◌||◌, List, [], ◌∷◌, ◌++◌, map, refl, ap, sym, subst, append-nil, ◌∙◌}
use Rattle.std.specs.Prelude.{flat_map}
use Rattle.std.specs.List.{list_any}
use Rattle.net_model.specs.Configuration.{Configuration}
use Rattle.ios_lines.specs.declared.fault.Fault.{Fault}
use Rattle.ios_sections.specs.TextLines.{TextLine, Part, parts_after, rest_after, is_empty, begins_configuration}
use Rattle.ios_sections.specs.TellingLines.{telling_lines}
use Rattle.ios_sections.specs.Sections.{sections_in}
use Rattle.ios_sections.proofs.TellingFacts.{told_part, parts_told, rest_told, begins_told, none_told, first_told, statements_told}
use Rattle.ios_reader.specs.Faults.{part_faults}
use Rattle.ios_reader.specs.Configurations.{configuration_of, configuration_by}
use Rattle.ios_reader.specs.steps.Parts.{Reading, IsReadingOf, IsReadBut, is_nothing}
use Rattle.ios_reader.proofs.PartFacts.{nothing_read}

faults_of_told : (part : Part) → part_faults (told_part part) ≡ part_faults part
faults_of_told part = grind (arith, common_steps, first_told, statements_told)

abbrev made : Part → Configuration
made part = configuration_of (sections_in part)

made_told : (part : Part) → made (told_part part) ≡ made part
made_told part = ap configuration_by (statements_told part)

faults_told : (parts : List Part) → flat_map part_faults (map told_part parts) ≡ flat_map part_faults parts
faults_told [] = refl
faults_told (part ∷ parts) =
    ap (λ (w : List Fault). w ++ flat_map part_faults (map told_part parts)) (faults_of_told part)
    ∙ ap (λ (w : List Fault). part_faults part ++ w) (faults_told parts)

all_told : (parts : List Part) → map made (map told_part parts) ≡ map made parts
all_told [] = refl
all_told (part ∷ parts) =
    ap (λ (c : Configuration). c ∷ map made (map told_part parts)) (made_told part) ∙ ap (λ (cs : List Configuration). made part ∷ cs) (all_told parts)

-- what is read of parts without the lines that tell nothing is read of the parts
pub reading_told : (parts : List Part) (r : Reading) → IsReadingOf (map told_part parts) r → IsReadingOf parts r
reading_told parts r h = record { faults = h.faults ∙ faults_told parts; configs = λ none. h.configs none ∙ all_told parts }

-- an `end` line is missing exactly where it is among those lines
pub lacks_told : (lines : List TextLine) →
    (is_empty (parts_after [] (telling_lines false lines)) || list_any begins_configuration (rest_after [] (telling_lines false lines)))
    ≡ (is_empty (parts_after [] lines) || list_any begins_configuration (rest_after [] lines))
lacks_told lines =
    ap (λ (ps : List Part). is_empty ps || list_any begins_configuration (rest_after [] (telling_lines false lines))) (parts_told [] lines)
    ∙ ap (λ (b : Bool). b || list_any begins_configuration (rest_after [] (telling_lines false lines))) (none_told (parts_after [] lines))
    ∙ ap (λ (ls : List TextLine). is_empty (parts_after [] lines) || list_any begins_configuration ls) (rest_told [] lines)
    ∙ ap (λ (b : Bool). is_empty (parts_after [] lines) || b) (begins_told false (rest_after [] lines))

-- ---- where no line is left ----

module _ (lines left part : List TextLine) (r : Reading) (none : left ≡ []) (before : IsReadBut (telling_lines false lines) left part r) where
  abbrev told : List TextLine
  told = telling_lines false lines

  now : IsReadBut told [] part r
  now = subst (λ (ls : List TextLine). IsReadBut told ls part r) none before

  whole : IsReadingOf (parts_after [] told) r
  whole = subst (λ (ps : List Part). IsReadingOf ps r) (sym (append-nil now.done) ∙ now.parts) now.read

  -- the parts of the lines are read
  pub parts_read : IsReadingOf (parts_after [] lines) r
  parts_read = reading_told (parts_after [] lines) r (subst (λ (ps : List Part). IsReadingOf ps r) (parts_told [] lines) whole)

  -- whether an `end` line is missing
  pub lacks_read : (is_nothing r || list_any begins_configuration part)
      ≡ (is_empty (parts_after [] lines) || list_any begins_configuration (rest_after [] lines))
  lacks_read =
      ap (λ (b : Bool). b || list_any begins_configuration part) (nothing_read (parts_after [] told) r whole)
      ∙ ap (λ (ls : List TextLine). is_empty (parts_after [] told) || list_any begins_configuration ls) now.rest
      ∙ lacks_told lines
