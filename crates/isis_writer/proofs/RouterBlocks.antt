-- The text that is written for a router: a block, with a section of the IS-IS process and one of each interface.
use Rattle.std.proofs.Common.{◌≡◌, ℕ, ◌+◌, Bool, true, false, cond, List, [], ◌∷◌, ◌++◌, length, map, Some, None, refl, sym, ap, subst}
use Rattle.std.proofs.Common.{◌∙◌}
use Rattle.std.proofs.Common.{bytes_eq}
use Rattle.std.specs.Prelude.{fold}
use Rattle.std.specs.List.{list_all, flat_map}
use Rattle.std.proofs.lemmas.Bool.{or_parts}
use Rattle.std.proofs.lemmas.List.Concat.{flat_map-append}
use Rattle.printed_lines.specs.Texts.{text_of}
use Rattle.ios_lines.specs.Words.{Word}
use Rattle.ios_lines.specs.Heads.{is_interface_name}
use Rattle.ios_lines.specs.InterfaceLines.{interface_line}
use Rattle.ios_lines.specs.IsisLines.{isis_line}
use Rattle.ios_lines.specs.declared.interface_line.InterfaceStatement.{InterfaceStatement}
use Rattle.ios_lines.specs.declared.isis_line.IsisLine.{IsisLine}
use Rattle.ios_lines.specs.declared.isis_line.IsisStatement.{IsisStatement}
use Rattle.ios_sections.specs.TextLines.{lines_in}
use Rattle.ios_sections.specs.Sections.{interface_statements, isis_statements, section_with}
use Rattle.ios_sections.specs.JoinedLines.{sections_further_on}
use Rattle.ios_sections.specs.declared.section.Section.{Section}
use Rattle.ios_sections.specs.declared.section.Section.TheVariants.{Interface, Isis}
use Rattle.ios_sections.specs.declared.section.InterfaceSection.{InterfaceSection}
use Rattle.ios_sections.specs.declared.section.IsisSection.{IsisSection}
use Rattle.ios_reader.specs.InsertedLines.{IsLineBlock}
use Rattle.ios_reader.proofs.InsertedFacts.{joined_blocks, block_by_block}
use Rattle.design_file.specs.Designs.{IsMetric}
use Rattle.design_file.specs.Values.{is_area}
use Rattle.design_file.specs.declared.settled.SettledInterface.{SettledInterface}
use Rattle.design_file.specs.declared.settled.SettledRouter.{SettledRouter}
use Rattle.isis_writer.specs.RouterLines.{has_old_line, interface_lines, process_lines, router_lines}
use Rattle.isis_writer.specs.PreparedConfigurations.{settled_for}
use Rattle.printed_sections.specs.PrintedSections.{is_fine_line, section_lines_from, section_text}
use Rattle.printed_sections.proofs.SectionFacts.{section_fits, section_says}
use Rattle.isis_writer.proofs.RouterWords.{interface_bodies, interface_head, interface_written, interface_says, interface_read, interface_bodies_fine}
use Rattle.isis_writer.proofs.RouterWords.{interface_head_fine, interface_head_reads, process_bodies, process_head_words, process_written, process_says}
use Rattle.isis_writer.proofs.RouterWords.{process_read, process_bodies_fine, AreNamed}
use Rattle.isis_writer.proofs.InterfaceFacts.{says_from}
use Rattle.isis_writer.proofs.MoreSections.{has, Apart, grown, new_sections, same_name, name_same}
use Rattle.isis_writer.proofs.GrownInterfaces.{with_written}
use Rattle.isis_writer.proofs.SettledFacts.{names_in, HaveMetrics}

-- ---- the lines of a section, each with its number ----

interface_numbered : (n : ℕ) (bodies : List (List Word)) → interface_statements (section_lines_from n bodies) ≡ says_from n (map interface_line bodies)
interface_numbered n [] = refl
interface_numbered n (words ∷ more) = ap (λ (l : List InterfaceStatement). record { line = n; says = interface_line words } ∷ l)
    (interface_numbered (n + 1) more)

-- lines of an IS-IS process, numbered from here
abbrev pub isis_says_from : ℕ → List IsisLine → List IsisStatement
isis_says_from n [] = []
isis_says_from n (says ∷ more) = record { line = n; says = says } ∷ isis_says_from (n + 1) more

isis_numbered : (n : ℕ) (bodies : List (List Word)) → isis_statements (section_lines_from n bodies) ≡ isis_says_from n (map isis_line bodies)
isis_numbered n [] = refl
isis_numbered n (words ∷ more) = ap (λ (l : List IsisStatement). record { line = n; says = isis_line words } ∷ l) (isis_numbered (n + 1) more)

-- ---- the process ----

abbrev pub process_text : ℕ → SettledRouter → List ℕ
process_text number router = text_of (process_lines number router)

-- the section of the process, behind so many lines
abbrev pub written_process : ℕ → ℕ → SettledRouter → IsisSection
written_process count number router = record { line = count + 1; tag = []; lines = isis_says_from (count + 2) (process_says number router) }

-- a block, and the sections that it has behind so many lines
record IsWritten (block : List ℕ) (sections : ℕ → List Section) : Type 0 where
  fits : IsLineBlock block
  says : (count : ℕ) → sections_further_on count block ≡ sections count

process_block : (number : ℕ) (router : SettledRouter) → is_area router.area ≡ true → AreNamed router.interfaces →
    IsWritten (process_text number router) (λ count. Isis (written_process count number router) ∷ [])
process_block number router area named =
    let bodies : List (List Word) = process_bodies number router in
    let fine : list_all is_fine_line bodies ≡ true = process_bodies_fine number router area named in
    let text : section_text process_head_words bodies ≡ process_text number router = sym (ap text_of (process_written number router)) in
    record {
      fits = subst IsLineBlock text (section_fits process_head_words bodies refl refl fine);
      says = λ count.
          ap (sections_further_on count) (sym text)
          ∙ section_says process_head_words bodies refl refl fine count
          ∙ ap (λ (l : List IsisStatement). Isis (record { line = count + 1; tag = []; lines = l }) ∷ [])
          (isis_numbered (count + 2) bodies ∙ ap (isis_says_from (count + 2)) (process_read number router area named));
    }

-- ---- the interfaces ----

abbrev pub interface_text : List InterfaceSection → SettledInterface → List ℕ
interface_text old t = text_of (interface_lines (has_old_line old t.name) t)

abbrev pub written_interface : List InterfaceSection → ℕ → SettledInterface → InterfaceSection
written_interface old count t =
    record { line = count + 1; name = t.name; lines = says_from (count + 2) (interface_says (has_old_line old t.name) t.passive t.circuit t.metric) }

-- how many lines stand before what is behind the lines of an interface
abbrev pub behind : List InterfaceSection → ℕ → SettledInterface → ℕ
behind old count t = count + length (lines_in (interface_text old t))

-- the sections of the interfaces, behind so many lines
abbrev pub written_interfaces : List InterfaceSection → ℕ → List SettledInterface → List InterfaceSection
written_interfaces old count [] = []
written_interfaces old count (t ∷ ts) = written_interface old count t ∷ written_interfaces old (behind old count t) ts

interface_block : (old : List InterfaceSection) (t : SettledInterface) → is_interface_name t.name ≡ true → IsMetric t.metric →
    IsWritten (interface_text old t) (λ count. Interface (written_interface old count t) ∷ [])
interface_block old t name metric =
    let stands : Bool = has_old_line old t.name in
    let head : List Word = interface_head t.name in
    let bodies : List (List Word) = interface_bodies stands t.passive t.circuit t.metric in
    let fine : list_all is_fine_line bodies ≡ true = interface_bodies_fine stands t.passive t.circuit t.metric metric in
    let text : section_text head bodies ≡ interface_text old t = sym (ap text_of (interface_written stands t)) in
    record {
      fits = subst IsLineBlock text (section_fits head bodies (interface_head_fine t.name name) refl fine);
      says = λ count.
          ap (sections_further_on count) (sym text)
          ∙ section_says head bodies (interface_head_fine t.name name) refl fine count
          ∙ ap (λ h. section_with h (count + 1) (section_lines_from (count + 2) bodies) ∷ []) (interface_head_reads t.name name)
          ∙ ap (λ (l : List InterfaceStatement). Interface (record { line = count + 1; name = t.name; lines = l }) ∷ [])
          (interface_numbered (count + 2) bodies ∙ ap (says_from (count + 2)) (interface_read stands t.passive t.circuit t.metric metric));
    }

nothing_written : IsWritten [] (λ count. [])
nothing_written = record { fits = record { whole = refl; opens = refl; no_banner = refl; no_end = refl }; says = λ count. refl }

abbrev interfaces_text : List InterfaceSection → List SettledInterface → List ℕ
interfaces_text old ts = text_of (flat_map (λ (i : SettledInterface). interface_lines (has_old_line old i.name) i) ts)

text_joined : (xs ys : List (List ℕ)) → text_of (xs ++ ys) ≡ text_of xs ++ text_of ys
text_joined xs ys = flat_map-append (λ (line : List ℕ). line ++ 10 ∷ []) xs ys

interfaces_block : (old : List InterfaceSection) (ts : List SettledInterface) → AreNamed ts → HaveMetrics ts →
    IsWritten (interfaces_text old ts) (λ count. map (λ (j : InterfaceSection). Interface j) (written_interfaces old count ts))
interfaces_block old [] named metrics = nothing_written
interfaces_block old (t ∷ ts) named metrics =
    let one : IsWritten (interface_text old t) (λ count. Interface (written_interface old count t) ∷ []) = interface_block old t named.0 metrics.0 in
    let rest : IsWritten (interfaces_text old ts)
    (λ count. map (λ (j : InterfaceSection). Interface j) (written_interfaces old count ts)) = interfaces_block old ts named.1 metrics.1 in
    let text : interfaces_text old (t ∷ ts) ≡ interface_text old t ++ interfaces_text old ts =
    text_joined (interface_lines (has_old_line old t.name) t) (flat_map (λ (i : SettledInterface). interface_lines (has_old_line old i.name) i) ts) in
    record {
      fits = subst IsLineBlock (sym text) (joined_blocks (interface_text old t) (interfaces_text old ts) one.fits rest.fits);
      says = λ count.
          ap (sections_further_on count) text
          ∙ block_by_block count (interface_text old t) (interfaces_text old ts) one.fits rest.fits
          ∙ ap (λ (l : List Section). l ++ sections_further_on (behind old count t) (interfaces_text old ts)) (one.says count)
          ∙ ap (λ (l : List Section). Interface (written_interface old count t) ∷ l) (rest.says (behind old count t));
    }

-- ---- all lines of a router ----

-- where the sections of the interfaces begin
abbrev pub behind_process : ℕ → ℕ → SettledRouter → ℕ
behind_process count number router = count + length (lines_in (process_text number router))

-- the text of a router is a block with these sections
pub record RouterBlock (old : List InterfaceSection) (number : ℕ) (router : SettledRouter) : Type 0 where
  pub fits : IsLineBlock (text_of (router_lines old number router))
  pub says : (count : ℕ) →
      sections_further_on count (text_of (router_lines old number router))
      ≡ new_sections (written_process count number router) (written_interfaces old (behind_process count number router) router.interfaces)

pub router_block : (old : List InterfaceSection) (number : ℕ) (router : SettledRouter) → is_area router.area ≡ true →
    AreNamed router.interfaces → HaveMetrics router.interfaces →
    RouterBlock old number router
router_block old number router area named metrics =
    let one : IsWritten (process_text number router) (λ count. Isis (written_process count number router) ∷ []) = process_block number router area named in
    let its : List ℕ = interfaces_text old router.interfaces in
    let rest : IsWritten (interfaces_text old router.interfaces)
    (λ count. map (λ (j : InterfaceSection). Interface j) (written_interfaces old count router.interfaces)) =
    interfaces_block old router.interfaces named metrics in
    let text : text_of (router_lines old number router) ≡ process_text number router ++ its =
    text_joined (process_lines number router) (flat_map (λ (i : SettledInterface). interface_lines (has_old_line old i.name) i) router.interfaces) in
    record {
      fits = subst IsLineBlock (sym text) (joined_blocks (process_text number router) its one.fits rest.fits);
      says = λ count.
          ap (sections_further_on count) text
          ∙ block_by_block count (process_text number router) its one.fits rest.fits
          ∙ ap (λ (l : List Section). l ++ sections_further_on (behind_process count number router) its) (one.says count)
          ∙ ap (λ (l : List Section). Isis (written_process count number router) ∷ l) (rest.says (behind_process count number router));
    }

-- ---- what becomes of a section of an interface ----

pub not_written : (old : List InterfaceSection) (s : InterfaceSection) (count : ℕ) (ts : List SettledInterface) → settled_for s.name ts ≡ None →
    fold grown s (written_interfaces old count ts) ≡ s
not_written old s count [] none = refl
not_written old s count (t ∷ ts) none = by_name (bytes_eq t.name s.name) refl none (λ h. not_written old s (behind old count t) ts h)
  where
    by_name : (b : Bool) → bytes_eq t.name s.name ≡ b → cond b (Some t) (settled_for s.name ts) ≡ None →
        (settled_for s.name ts ≡ None → fold grown s (written_interfaces old (behind old count t) ts) ≡ s) →
        fold grown (grown s (written_interface old count t)) (written_interfaces old (behind old count t) ts) ≡ s
    by_name true e none later = absurd cc
    by_name false e none later =
        ap (λ (b : Bool). fold grown (cond b (with_written s (count + 2) (has_old_line old t.name) t) s) (written_interfaces old (behind old count t) ts)) e
        ∙ later none

-- the lines for its name are written from some line on
pub record WrittenFor (old : List InterfaceSection) (s : InterfaceSection) (t : SettledInterface) (js : List InterfaceSection) : Type 0 where
  pub from : ℕ
  pub is : fold grown s js ≡ with_written s from (has_old_line old t.name) t

pub none_behind : (name : Word) (ts : List SettledInterface) → has name (names_in ts) ≡ false → settled_for name ts ≡ None
none_behind name [] none = refl
none_behind name (t ∷ ts) none =
    let parts = or_parts (bytes_eq name t.name) (has name (names_in ts)) none in
    by_test (bytes_eq t.name name) refl parts.0 (none_behind name ts parts.1)
  where
    by_test : (b : Bool) → bytes_eq t.name name ≡ b → bytes_eq name t.name ≡ false → settled_for name ts ≡ None →
        cond b (Some t) (settled_for name ts) ≡ None
    by_test false e off rest = rest
    by_test true e off rest =
        let again : bytes_eq t.name t.name ≡ false = subst (λ (n : Word). bytes_eq n t.name ≡ false) (sym (same_name t.name name e)) off in
        absurd (let no : true ≡ false = sym (name_same t.name) ∙ again in cc)

pub written_for : (old : List InterfaceSection) (s : InterfaceSection) (count : ℕ) (ts : List SettledInterface) (t : SettledInterface) →
    Apart (names_in ts) → settled_for s.name ts ≡ Some t →
    WrittenFor old s t (written_interfaces old count ts)
written_for old s count [] t apart found = absurd cc
written_for old s count (u ∷ ts) t apart found = by_name (bytes_eq u.name s.name) refl found (λ h. written_for old s (behind old count u) ts t apart.1 h)
  where
    by_name : (b : Bool) → bytes_eq u.name s.name ≡ b → cond b (Some u) (settled_for s.name ts) ≡ Some t →
        (settled_for s.name ts ≡ Some t → WrittenFor old s t (written_interfaces old (behind old count u) ts)) →
        WrittenFor old s t (written_interface old count u ∷ written_interfaces old (behind old count u) ts)
    by_name true e found later =
        let same : u ≡ t = cc in
        let whole : InterfaceSection = with_written s (count + 2) (has_old_line old u.name) u in
        let none : settled_for s.name ts ≡ None =
        none_behind s.name ts (subst (λ (n : Word). has n (names_in ts) ≡ false) (same_name u.name s.name e) apart.0) in
        subst (λ (v : SettledInterface). WrittenFor old s v (written_interface old count u ∷ written_interfaces old (behind old count u) ts)) same
        (record {
          from = count + 2;
          is =
              ap (λ (b : Bool). fold grown (cond b whole s) (written_interfaces old (behind old count u) ts)) e
              ∙ not_written old whole (behind old count u) ts none;
        })
    by_name false e found later =
        let rest : WrittenFor old s t (written_interfaces old (behind old count u) ts) = later found in
        record {
          from = rest.from;
          is = ap (λ (b : Bool). fold grown (cond b (with_written s (count + 2) (has_old_line old u.name) u) s)
              (written_interfaces old (behind old count u) ts)) e ∙ rest.is;
        }
