-- A configuration whose lines stand further on: it is read as the same, and it has a fault where it had one.
use Rattle.std.proofs.Common.{arith}
use Rattle.std.proofs.lemmas.Grind.{common_steps}
use Rattle.std.proofs.Common.{◌≡◌, ℕ, Bool, List, [], ◌∷◌, refl, sym, ap, ◌∙◌, map}
use Rattle.std.specs.Prelude.{flat_map}
use Rattle.ios_lines.specs.FaultOrder.{fault_at, faults_if}
use Rattle.ios_lines.specs.declared.fault.Fault.{Fault}
use Rattle.ios_lines.specs.declared.kind.ReadKind.TheVariants.{NoHostname}
use Rattle.ios_sections.specs.TextLines.{TextLine, Part}
use Rattle.ios_sections.specs.Sections.{head_number, counted_from, own_lines, sections_among, sections_from_first, sections_in}
use Rattle.ios_sections.specs.declared.section.Section.{Section}
use Rattle.ios_sections.proofs.FurtherFacts.{part_further, sections_in-further}
use Rattle.ios_reader.specs.Faults.{section_faults, fault_further, part_faults}
use Rattle.ios_reader.specs.Configurations.{configuration_of}
use Rattle.ios_reader.proofs.LookedUp.{two_none, none_left, none_right}

-- ---- no fault ----

name_if : (t : Bool) (line other : ℕ) → faults_if t line NoHostname ≡ [] → faults_if t other NoHostname ≡ []
name_if t line other e = grind (arith, common_steps)

-- whether sections have a fault isn't a matter of the number of the `end` line
pub faultless_at : (ss : List Section) (line other : ℕ) → section_faults ss line ≡ [] → section_faults ss other ≡ []
faultless_at ss line other e = grind (arith, common_steps, name_if, none_left, none_right, two_none)

pub none_mapped : (k : ℕ) (fs : List Fault) → map (fault_further k) fs ≡ [] → fs ≡ []
none_mapped k [] e = refl
none_mapped k (f ∷ fs) e = absurd cc

-- a part has no fault exactly where its sections have none, at whatever number its `end` line stands
pub sections_faultless : (part : Part) (ends : ℕ) → part_faults part ≡ [] → section_faults (sections_in part) ends ≡ []
sections_faultless part ends e = grind (arith, common_steps, faultless_at, none_mapped)

pub part_faultless : (part : Part) (ends : ℕ) → section_faults (sections_in part) ends ≡ [] → part_faults part ≡ []
part_faultless part ends e = grind (arith, common_steps, faultless_at)

pub faultless_further : (k : ℕ) (parts : List Part) → flat_map part_faults parts ≡ [] → flat_map part_faults (map (part_further k) parts) ≡ []
faultless_further k [] e = refl
faultless_further k (p ∷ ps) e =
    two_none (part_faults (part_further k p)) (flat_map part_faults (map (part_further k) ps))
    (part_faultless (part_further k p) 0
    (ap (λ (ss : List Section). section_faults ss 0) (sections_in-further k p)
    ∙ sections_faultless p 0 (none_left (part_faults p) (flat_map part_faults ps) e)))
    (faultless_further k ps (none_right (part_faults p) (flat_map part_faults ps) e))

pub faultless_back : (k : ℕ) (parts : List Part) → flat_map part_faults (map (part_further k) parts) ≡ [] → flat_map part_faults parts ≡ []
faultless_back k [] e = refl
faultless_back k (p ∷ ps) e =
    two_none (part_faults p) (flat_map part_faults ps)
    (part_faultless p 0
    (sym (ap (λ (ss : List Section). section_faults ss 0) (sections_in-further k p))
    ∙ sections_faultless (part_further k p) 0 (none_left (part_faults (part_further k p)) (flat_map part_faults (map (part_further k) ps)) e)))
    (faultless_back k ps (none_right (part_faults (part_further k p)) (flat_map part_faults (map (part_further k) ps)) e))

-- a part further on is read as the same configuration
pub part-further : (k : ℕ) (part : Part) → configuration_of (sections_in (part_further k part)) ≡ configuration_of (sections_in part)
part-further k part = ap configuration_of (sections_in-further k part)

-- ---- a configuration without a fault has a first line ----

pub record HasFirst (lines : List TextLine) : Type 0 where
  pub first : TextLine
  pub more : List TextLine
  pub is : own_lines lines ≡ first ∷ more

never_none : (f : Fault) → f ∷ [] ≡ [] → ⊥
never_none f e = cc

pub has_first : (lines : List TextLine) (ends : ℕ) → section_faults (sections_from_first lines) ends ≡ [] → HasFirst lines
has_first lines ends e = by_own (own_lines lines) refl
  where
    by_own : (own : List TextLine) → own_lines lines ≡ own → HasFirst lines
    by_own [] none =
        absurd (never_none (fault_at ends NoHostname)
        (sym (ap (λ (ls : List TextLine). section_faults (sections_among (map (counted_from (head_number ls)) ls)) ends) none) ∙ e))
    by_own (first ∷ more) is = record { first = first; more = more; is = is }
