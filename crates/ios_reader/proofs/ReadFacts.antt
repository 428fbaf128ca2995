-- The answer to a text, from what was read of its parts.
use Rattle.std.proofs.lemmas.Grind.{common_steps}
use Rattle.std.proofs.Common.{sym, ◌≡◌, ℕ, ◌+◌, ◌-◌, Bool, true, false, List, [], ◌∷◌, ◌++◌, length, Option, Some, None, refl, ap, subst, ◌∙◌, cond}
use Rattle.std.proofs.Common.{arith, zero, suc, inr}
use Rattle.std.specs.Prelude.{map, All, is_none, is_some}
use Rattle.std.proofs.lemmas.List.Elements.{All-nil, All-cons, All-weaker}
use Rattle.net_model.specs.Configuration.{Configuration, IsConfiguration}
use Rattle.ios_lines.specs.Words.{Word}
use Rattle.ios_sections.specs.TextLines.{Part, lines_in, parts_of, lacks_end}
use Rattle.ios_lines.specs.FaultOrder.{faults_if, is_before, lesser_fault, least_fault}
use Rattle.ios_reader.specs.Faults.{section_faults, fault_further, faults_in}
use Rattle.ios_sections.specs.Sections.{first_number, sections_in}
use Rattle.ios_sections.specs.Processes.{as_hostname}
use Rattle.ios_lines.specs.Lookups.{last_of}
use Rattle.ios_reader.specs.Configurations.{IsNotAfter, IsLeastFault, configuration_by}
use Rattle.ios_sections.specs.Statements.{Statements, statements_of}
use Rattle.ios_reader.specs.steps.FaultsBy.{faults_by}
use Rattle.ios_reader.specs.steps.Parts.{PartRead, IsPartRead, Reading, IsReadingOf, IsTextReading}
use Rattle.ios_reader.specs.Texts.{ReadsText, IsRefusedText}
use Rattle.ios_lines.specs.declared.kind.ReadKind.TheVariants.{NoHostname, NoEnd}
use Rattle.ios_lines.specs.declared.fault.Fault.{Fault}
use Rattle.ios_sections.specs.declared.section.Section.{Section}
use Rattle.ios_reader.proofs.LeastFaults.{by_before, by_not_before, none_least}
use Rattle.ios_sections.proofs.GoodSections.{sections_good}
use Rattle.ios_reader.proofs.KeptFacts.{configuration_kept}
use Rattle.ios_reader.proofs.LookedUp.{none_left, none_right}
use Rattle.ios_reader.proofs.FurtherReading.{none_mapped}

no_fault : (t : Bool) (line : ℕ) → faults_if t line NoHostname ≡ [] → t ≡ false
no_fault t line e = grind (arith, common_steps)

-- ---- a part ----

some_name : (o : Option Word) → is_none o ≡ false → is_some o ≡ true
some_name o e = grind (arith, common_steps)

part_named : (sections : List Section) (ends : ℕ) → section_faults sections ends ≡ [] → is_some (last_of as_hostname sections) ≡ true
part_named sections ends e = grind (arith, common_steps, no_fault, none_right, some_name)

-- the number of the `end` line of a part, counted from the part's first line
abbrev pub ends_in : Part → ℕ
ends_in part = part.ends - first_number part.lines

-- the faults of a part, by what its sections say
pub faults_of_part : (part : Part) (s : Statements) → s ≡ statements_of (sections_in part) → faults_by s (ends_in part) ≡ section_faults (sections_in part) (ends_in part)
faults_of_part part s e = ap (λ (t : Statements). faults_by t (ends_in part)) e

sections_fine : (part : Part) (s : Statements) → s ≡ statements_of (sections_in part) → faults_by s (ends_in part) ≡ [] →
    section_faults (sections_in part) (ends_in part) ≡ []
sections_fine part s e none = sym (faults_of_part part s e) ∙ none

-- the configuration of a part without a fault keeps the facts of a configuration
pub part_kept : (part : Part) (s : Statements) → s ≡ statements_of (sections_in part) → faults_by s (ends_in part) ≡ [] →
    IsConfiguration (configuration_by s)
part_kept part s e none =
    let named : is_some (last_of as_hostname (sections_in part)) ≡ true =
    part_named (sections_in part) (ends_in part) (sections_fine part s e none) in
    subst (λ (t : Statements). IsConfiguration (configuration_by t)) (sym e) (configuration_kept (sections_in part) (sections_good part) named)

-- a part without a fault is read into its configuration
pub part_made : (part : Part) (s : Statements) (r : PartRead) (c : Configuration) → s ≡ statements_of (sections_in part) →
    faults_by s (ends_in part) ≡ [] → c ≡ configuration_by s → r.config ≡ Some c → r.faults ≡ [] → IsPartRead part r
part_made part s r c e none made one clean = grind (arith, common_steps, sections_fine)

-- a faulty part is read into its faults
pub part_faulty : (part : Part) (s : Statements) (r : PartRead) (found : List Fault) → s ≡ statements_of (sections_in part) →
    found ≡ faults_by s (ends_in part) → (found ≡ [] → ⊥) → r.faults ≡ map (fault_further (first_number part.lines)) found → IsPartRead part r
part_faulty part s r found e is some further = grind (arith, common_steps, faults_of_part, none_mapped)

-- ---- the least fault of some ----

not_after_trans : (f g h : Fault) → IsNotAfter f g → IsNotAfter g h → IsNotAfter f h
not_after_trans f g h p q = grind arith

not_after_same : (f : Fault) → IsNotAfter f f
not_after_same f = inr (refl, omega arith)

first_least : (g : Fault) (gs : List Fault) → All (IsNotAfter g) gs → IsLeastFault (g ∷ gs) g
first_least g gs h = record { among = (zero, omega arith, refl); least = All-cons (IsNotAfter g) g gs (not_after_same g) h }

later_least : (g h : Fault) (gs : List Fault) → IsNotAfter h g → IsLeastFault gs h → IsLeastFault (g ∷ gs) h
later_least g h gs before found = record {
  among = (suc (found.among.0), omega (arith, found.among.1), found.among.2);
  least = All-cons (IsNotAfter h) g gs before found.least;
}

least_choice : (g h f : Fault) (gs : List Fault) (t : Bool) → is_before h g ≡ t → IsLeastFault gs h → cond t (Some h) (Some g) ≡ Some f →
    IsLeastFault (g ∷ gs) f
least_choice g h f gs true before found e =
    let same : h ≡ f = cc in
    subst (IsLeastFault (g ∷ gs)) same (later_least g h gs (by_before h g before) found)
least_choice g h f gs false before found e =
    let same : g ≡ f = cc in
    let after : IsNotAfter g h = by_not_before g h before in
    subst (IsLeastFault (g ∷ gs)) same (first_least g gs (All-weaker (IsNotAfter h) (IsNotAfter g) (λ x n. not_after_trans g h x after n) gs found.least))

least_cases : (g f : Fault) (gs : List Fault) (o : Option Fault) → least_fault gs ≡ o → ((h : Fault) → least_fault gs ≡ Some h → IsLeastFault gs h) →
    lesser_fault (Some g) o ≡ Some f → IsLeastFault (g ∷ gs) f
least_cases g f gs None r later e =
    let same : g ≡ f = cc in
    let none : gs ≡ [] = none_least gs r in
    subst (IsLeastFault (g ∷ gs)) same (first_least g gs (subst (λ (w : List Fault). All (IsNotAfter g) w) (sym none) (All-nil (IsNotAfter g))))
least_cases g f gs (Some h) r later e = least_choice g h f gs (is_before h g) refl (later h r) e

-- the least of some faults is on the least line, with the least kind on it
pub least_is : (fs : List Fault) (f : Fault) → least_fault fs ≡ Some f → IsLeastFault fs f
least_is [] f e = absurd cc
least_is (g ∷ gs) f e = least_cases g f gs (least_fault gs) refl (λ h r. least_is gs h r) e

-- ---- a text ----

-- a text is read by its parts, and by whether an `end` line is missing
pub text_reading : (text : List ℕ) (parts r : Reading) (lacks : Bool) (behind : ℕ) → IsReadingOf (parts_of (lines_in text)) parts →
    lacks ≡ lacks_end (lines_in text) → behind ≡ length (lines_in text) + 1 → r.faults ≡ parts.faults ++ faults_if lacks behind NoEnd →
    r.configs ≡ parts.configs → IsTextReading text r
text_reading text parts r lacks behind h missing place found kept = grind (arith, common_steps, none_left)

-- a text without a faulty line is read into its configurations
pub text_read : (text : List ℕ) (r : Reading) → IsTextReading text r → r.faults ≡ [] → ReadsText text r.configs
text_read text r h none = record { faultless = sym h.faults ∙ none; made = h.configs none }

-- a text with a faulty line is refused at the first one
pub text_refused : (text : List ℕ) (r : Reading) (f : Fault) → IsTextReading text r → least_fault r.faults ≡ Some f → IsRefusedText text f.line f.kind
text_refused text r f h some = least_is (faults_in (lines_in text)) f (sym (ap least_fault h.faults) ∙ some)
