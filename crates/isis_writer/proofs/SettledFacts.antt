-- What is settled for a router, and the sections of its interfaces: names, each once, that are words.
use Rattle.std.proofs.lemmas.Grind.{common_steps}
use Rattle.std.proofs.Common.{◌≡◌, ◌≢◌, ℕ, zero, suc, Bool, true, false, not, ◌&&◌, ◌||◌, cond, List, [], ◌∷◌, get_or, map}
use Rattle.std.proofs.Common.{Some, None, Ok, Err, refl, sym, ap, subst, ◌∙◌, arith, bytes_eq}
use Rattle.std.specs.Prelude.{All, AllPairs, IfSome, IsSome, filter, filter_map, codes}
use Rattle.std.specs.List.{list_any}
use Rattle.std.proofs.Common.{⊎_elim}
use Rattle.std.proofs.lemmas.Bool.{or_parts, or_from}
use Rattle.std.proofs.lemmas.List.Elements.{All-nil, All-cons, All-head, All-tail, All-map, All-filter}
use Rattle.net_model.specs.declared.interface.Interface.{Interface}
use Rattle.ios_lines.specs.Words.{Word, says, begins_with_two}
use Rattle.ios_lines.specs.Heads.{is_interface_name, interface_name, interface_of, router_head, head_of}
use Rattle.ios_lines.specs.Lookups.{first_seen}
use Rattle.ios_lines.specs.declared.head.Head.{Head}
use Rattle.ios_lines.specs.declared.head.Head.TheVariants.{Interface as InterfaceHead}
use Rattle.ios_lines.specs.declared.kind.ReadKind.TheVariants.{Unsupported}
use Rattle.ios_lines.specs.declared.interface_line.InterfaceStatement.{InterfaceStatement}
use Rattle.ios_lines.proofs.Picked.{by_if, all_taken, names_apart}
use Rattle.ios_sections.specs.TextLines.{TextLine, Part, sections_of}
use Rattle.ios_sections.specs.Sections.{section_with, section_of, from_first, sections_among, sections_in}
use Rattle.ios_sections.specs.Processes.{as_interface, merged, interfaces_in}
use Rattle.ios_sections.specs.declared.section.Section.{Section}
use Rattle.ios_sections.specs.declared.section.Section.TheVariants.{Interface as InterfaceShown}
use Rattle.ios_sections.specs.declared.section.InterfaceSection.{InterfaceSection}
use Rattle.design_file.specs.Designs.{IsMetric}
use Rattle.design_file.specs.Settling.{AreForSome, IsFor}
use Rattle.design_file.specs.declared.settled.SettledInterface.{SettledInterface}
use Rattle.isis_writer.specs.RouterLines.{is_old_line, has_old_line}
use Rattle.isis_writer.specs.PreparedConfigurations.{settled_for}
use Rattle.isis_writer.proofs.RouterWords.{AreNamed}
use Rattle.isis_writer.proofs.MoreSections.{has, Apart, names_of, same_name, name_same}

-- ---- the names of sections ----

abbrev IsNamedHead : Head → Type 0
IsNamedHead (InterfaceHead (Ok name)) = is_interface_name name ≡ true
IsNamedHead _ = Unit {0}

abbrev IsNamedSection : Section → Type 0
IsNamedSection (InterfaceShown s) = is_interface_name s.name ≡ true
IsNamedSection _ = Unit {0}

interface_named : (name : Word) → IsNamedHead (InterfaceHead (interface_of name))
interface_named name = choice (is_interface_name name) refl
  where
    choice : (t : Bool) → is_interface_name name ≡ t → IsNamedHead (InterfaceHead (cond t (Ok name) (Err Unsupported)))
    choice true e = e
    choice false e = tt

router_named : (words : List Word) → IsNamedHead (router_head words)
router_named words = grind (arith, common_steps, by_if)

head_named : (words : List Word) → IsNamedHead (head_of words)
head_named words =
    by_if IsNamedHead (says words 0 (codes "hostname")) _ _ tt
    (by_if IsNamedHead (says words 0 (codes "interface")) _ _ (interface_named (interface_name words))
    (by_if IsNamedHead (says words 0 (codes "router")) _ _ (router_named words)
    (by_if IsNamedHead (begins_with_two words (codes "ip") (codes "route") && not (says words 2 (codes "vrf"))) _ _ tt tt)))

with_named : (h : Head) (line : ℕ) (body : List TextLine) → IsNamedHead h → IsNamedSection (section_with h line body)
with_named head line body h = grind arith

among_named : (lines : List TextLine) → All IsNamedSection (sections_among lines)
among_named lines =
    All-map IsNamedSection section_of (sections_of lines)
    (λ k d lt. with_named (head_of (get_or (sections_of lines) k d).head.words) (get_or (sections_of lines) k d).head.number
    (get_or (sections_of lines) k d).body (head_named (get_or (sections_of lines) k d).head.words))

as_interface_named : (s : Section) → IsNamedSection s → IfSome (as_interface s) (λ (i : InterfaceSection). is_interface_name i.name ≡ true)
as_interface_named s h = grind arith

seen_named : (ns : List Word) → All (λ (n : Word). is_interface_name n ≡ true) ns → All (λ (n : Word). is_interface_name n ≡ true) (first_seen ns)
seen_named [] all = All-nil (λ (n : Word). is_interface_name n ≡ true)
seen_named (n ∷ ns) all =
    All-cons (λ (m : Word). is_interface_name m ≡ true) n (filter (λ (m : Word). not (bytes_eq n m)) (first_seen ns))
    (All-head (λ (m : Word). is_interface_name m ≡ true) n ns all)
    (All-filter (λ (m : Word). not (bytes_eq n m)) (λ (m : Word). is_interface_name m ≡ true) (first_seen ns)
    (seen_named ns (All-tail (λ (m : Word). is_interface_name m ≡ true) n ns all)))

-- the interfaces of a configuration have names that an `interface` line can give
pub interfaces_named : (part : Part) → All (λ (s : InterfaceSection). is_interface_name s.name ≡ true) (interfaces_in (sections_in part))
interfaces_named part =
    let ss : List Section = sections_in part in
    let parts : List InterfaceSection = filter_map as_interface ss in
    let all : All (λ (i : InterfaceSection). is_interface_name i.name ≡ true) (filter_map as_interface ss) =
    all_taken as_interface IsNamedSection (λ (i : InterfaceSection). is_interface_name i.name ≡ true) as_interface_named ss
    (among_named (from_first part.lines)) in
    All-map (λ (s : InterfaceSection). is_interface_name s.name ≡ true) (merged parts) (first_seen (map (λ (s : InterfaceSection). s.name) parts))
    (seen_named (map (λ (s : InterfaceSection). s.name) parts)
    (All-map (λ (n : Word). is_interface_name n ≡ true) (λ (s : InterfaceSection). s.name) parts all))

-- ---- no name stands twice ----

none_has : (n : Word) (ns : List Word) → All (λ (m : Word). n ≢ m) ns → has n ns ≡ false
none_has n [] all = refl
none_has n (m ∷ ns) all =
    or_from (bytes_eq n m) (has n ns) (by_test (bytes_eq n m) refl) (none_has n ns (All-tail (λ (x : Word). n ≢ x) m ns all))
  where
    by_test : (t : Bool) → bytes_eq n m ≡ t → bytes_eq n m ≡ false
    by_test false e = e
    by_test true e = absurd (All-head (λ (x : Word). n ≢ x) m ns all (same_name n m e))

apart_from : (ns : List Word) → AllPairs (λ (n m : Word). n ≢ m) ns → Apart ns
apart_from [] pairs = tt
apart_from (n ∷ ns) pairs = (
  none_has n ns (λ k d lt. pairs zero (suc k) d (omega arith) (omega arith)),
  apart_from ns
      (λ i j d p q. pairs (suc i) (suc j) d (omega arith) (omega arith)),
)

merged_names : (parts : List InterfaceSection) (ns : List Word) → names_of (map (merged parts) ns) ≡ ns
merged_names parts [] = refl
merged_names parts (n ∷ ns) = ap (λ (l : List Word). n ∷ l) (merged_names parts ns)

pub interfaces_apart : (ss : List Section) → Apart (names_of (interfaces_in ss))
interfaces_apart ss = grind (arith, common_steps, apart_from, merged_names, names_apart)

-- ---- what is settled ----

abbrev pub names_in : List SettledInterface → List Word
names_in ts = map (λ (t : SettledInterface). t.name) ts

abbrev pub AreIn : List SettledInterface → List Word → Type 0
AreIn [] ns = Unit {0}
AreIn (t ∷ ts) ns = (has t.name ns ≡ true) × AreIn ts ns

abbrev pub HaveMetrics : List SettledInterface → Type 0
HaveMetrics [] = Unit {0}
HaveMetrics (t ∷ ts) = IsMetric t.metric × HaveMetrics ts

more_in : (n : Word) (ts : List SettledInterface) (ns : List Word) → AreIn ts ns → AreIn ts (n ∷ ns)
more_in n [] ns all = tt
more_in n (t ∷ ts) ns all = (by_first (bytes_eq t.name n) (has t.name ns) all.0, more_in n ts ns all.1)
  where
    by_first : (a b : Bool) → b ≡ true → (a || b) ≡ true
    by_first true b e = refl
    by_first false b e = e

not_in : (n : Word) (ts : List SettledInterface) (ns : List Word) → has n ns ≡ false → AreIn ts ns → settled_for n ts ≡ None
not_in n [] ns none all = refl
not_in n (t ∷ ts) ns none all = by_test (bytes_eq t.name n) refl (not_in n ts ns none all.1)
  where
    by_test : (b : Bool) → bytes_eq t.name n ≡ b → settled_for n ts ≡ None → cond b (Some t) (settled_for n ts) ≡ None
    by_test false e later = later
    by_test true e later =
        let wrong : has n ns ≡ true = subst (λ (m : Word). has m ns ≡ true) (same_name t.name n e) all.0 in
        absurd (let no : false ≡ true = sym none ∙ wrong in cc)

absent : (n : Word) (ts : List SettledInterface) (ns : List Word) → has n ns ≡ false → AreIn ts ns → has n (names_in ts) ≡ false
absent n [] ns none all = refl
absent n (t ∷ ts) ns none all = or_from (bytes_eq n t.name) (has n (names_in ts)) (by_test (bytes_eq n t.name) refl) (absent n ts ns none all.1)
  where
    by_test : (b : Bool) → bytes_eq n t.name ≡ b → bytes_eq n t.name ≡ false
    by_test false e = e
    by_test true e =
        let wrong : has n ns ≡ true = subst (λ (m : Word). has m ns ≡ true) (sym (same_name n t.name e)) all.0 in
        absurd (let no : false ≡ true = sym none ∙ wrong in cc)

module _ (read : InterfaceSection → Interface) (named : (s : InterfaceSection) → (read s).name ≡ s.name) where
  -- what is settled for the name of a section is for an interface with an address
  abbrev pub IsAddressed : List SettledInterface → InterfaceSection → Type 0
  IsAddressed ts s = (t : SettledInterface) → settled_for s.name ts ≡ Some t → IsSome (read s).subnet

  -- what is settled for some interfaces
  pub record SettledWell (is : List InterfaceSection) (ts : List SettledInterface) : Type 0 where
    pub words : AreNamed ts
    pub among : AreIn ts (names_of is)
    pub apart : Apart (names_in ts)
    pub metrics : HaveMetrics ts
    pub addressed : All (IsAddressed ts) is

  none_settled : (is : List InterfaceSection) → All (IsAddressed []) is
  none_settled is = λ k d lt t e. absurd cc

  nothing_well : (is : List InterfaceSection) → SettledWell is []
  nothing_well is = record { words = tt; among = tt; apart = tt; metrics = tt; addressed = none_settled is }

  -- one more interface, for which something is settled
  first_well : (s : InterfaceSection) (is : List InterfaceSection) (t : SettledInterface) (ts : List SettledInterface) →
      is_interface_name s.name ≡ true → has s.name (names_of is) ≡ false →
      IsFor (read s) t → SettledWell is ts → SettledWell (s ∷ is) (t ∷ ts)
  first_well s is t ts word none for well =
      let same : s.name ≡ t.name = sym (named s) ∙ for.name in
      let none_t : has t.name (names_of is) ≡ false = subst (λ (n : Word). has n (names_of is) ≡ false) same none in
      let first : bytes_eq t.name s.name ≡ true = subst (λ (n : Word). bytes_eq t.name n ≡ true) (sym same) (name_same t.name) in
      record {
        words = (subst (λ (n : Word). is_interface_name n ≡ true) same word, well.words);
        among = (ap (λ (b : Bool). b || has t.name (names_of is)) first, more_in s.name ts (names_of is) well.among);
        apart = (absent t.name ts (names_of is) none_t well.among, well.apart);
        metrics = (for.metric, well.metrics);
        addressed = All-cons (IsAddressed (t ∷ ts)) s is (λ u e. for.address) (others is none_t well.addressed);
      }
    where
      skip : (b : Bool) (u : SettledInterface) (n : Word) → b ≡ false → cond b (Some t) (settled_for n ts) ≡ Some u → settled_for n ts ≡ Some u
      skip false u n off e = e
      skip true u n off e = absurd cc

      others : (is : List InterfaceSection) → has t.name (names_of is) ≡ false → All (IsAddressed ts) is → All (IsAddressed (t ∷ ts)) is
      others [] none all = All-nil (IsAddressed (t ∷ ts))
      others (x ∷ is) none all =
          let parts = or_parts (bytes_eq t.name x.name) (has t.name (names_of is)) none in
          All-cons (IsAddressed (t ∷ ts)) x is (λ u e. All-head (IsAddressed ts) x is all u (skip (bytes_eq t.name x.name) u x.name parts.0 e))
          (others is parts.1 (All-tail (IsAddressed ts) x is all))

  -- one more interface, for which nothing is settled
  other_well : (s : InterfaceSection) (is : List InterfaceSection) (ts : List SettledInterface) → has s.name (names_of is) ≡ false →
      SettledWell is ts → SettledWell (s ∷ is) ts
  other_well s is ts none well = grind (arith, common_steps, All-cons, more_in, names_of, not_in)

  -- what is settled for interfaces with names of their own
  pub settled_well : (is : List InterfaceSection) (ts : List SettledInterface) →
      All (λ (s : InterfaceSection). is_interface_name s.name ≡ true) is → Apart (names_of is) → AreForSome (map read is) ts → SettledWell is ts
  settled_well [] [] words apart for = nothing_well []
  settled_well (s ∷ is) [] words apart for = nothing_well (s ∷ is)
  settled_well [] (t ∷ ts) words apart for = absurd for
  settled_well (s ∷ is) (t ∷ ts) words apart for =
      let later : All (λ (x : InterfaceSection). is_interface_name x.name ≡ true) is =
      All-tail (λ (x : InterfaceSection). is_interface_name x.name ≡ true) s is words in
      ⊎_elim
      (λ (own : IsFor (read s) t × AreForSome (map read is) ts). first_well s is t ts
      (All-head (λ (x : InterfaceSection). is_interface_name x.name ≡ true) s is words) apart.0 own.0 (settled_well is ts later apart.1 own.1))
      (λ (other : AreForSome (map read is) (t ∷ ts)). other_well s is (t ∷ ts) apart.0 (settled_well is (t ∷ ts) later apart.1 other))
      for

-- ---- old lines ----

any_at : {A : Type 0} (p : A → Bool) (xs : List A) → list_any p xs ≡ false → All (λ (x : A). p x ≡ false) xs
any_at p [] none = All-nil (λ x. p x ≡ false)
any_at p (x ∷ xs) none =
    let parts = or_parts (p x) (list_any p xs) none in
    All-cons (λ y. p y ≡ false) x xs parts.0 (any_at p xs parts.1)

and_second : (a b : Bool) → (a && b) ≡ false → a ≡ true → b ≡ false
and_second a b e t = grind (arith, common_steps)

-- where the old configuration has no old line for a name, the section of this name has none
pub no_old_line : (is : List InterfaceSection) (name : Word) → has_old_line is name ≡ false →
    All (λ (s : InterfaceSection). bytes_eq s.name name ≡ true → list_any (λ (l : InterfaceStatement). is_old_line l.says) s.lines ≡ false) is
no_old_line is name none = grind (arith, common_steps, and_second, any_at)
