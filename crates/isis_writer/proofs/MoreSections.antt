-- Sections with an IS-IS process and more sections of interfaces behind them.
use Rattle.std.proofs.Common.{◌≡◌, Bool, true, false, ◌||◌, cond, List, [], ◌∷◌, ◌++◌, map, refl, sym, ap}
use Rattle.std.proofs.Common.{subst, ◌∙◌, append-nil, bytes_eq}
use Rattle.std.specs.Prelude.{filter_map, fold}
use Rattle.std.specs.List.{list_any}
use Rattle.std.proofs.lemmas.Bool.{or_parts}
use Rattle.std.proofs.lemmas.Grind.{fold-append}
use Rattle.std.proofs.lemmas.List.Elements.{filter_map-append}
use Rattle.std.proofs.lemmas.Slice.Eq.{bytes_eq-Decides}
use Rattle.ios_lines.specs.Words.{Word}
use Rattle.ios_lines.specs.Lookups.{last_of}
use Rattle.ios_lines.specs.declared.fault.Fault.{Fault}
use Rattle.ios_sections.specs.Gathering.{Gathering, gathering_of, with_interface, with_section, nothing_gathered}
use Rattle.ios_sections.specs.Processes.{as_hostname, as_ospf, as_isis, as_fault, interfaces_in}
use Rattle.ios_sections.specs.declared.section.Section.{Section}
use Rattle.ios_sections.specs.declared.section.Section.TheVariants.{Interface, Isis}
use Rattle.ios_sections.specs.declared.section.InterfaceSection.{InterfaceSection}
use Rattle.ios_sections.specs.declared.section.IsisSection.{IsisSection}
use Rattle.ios_sections.proofs.GatheringFacts.{gathered_all}
use Rattle.isis_writer.proofs.ListFacts.{map_twice}

-- ---- what they say, gathered ----

gathered_more : (ss ts : List Section) → gathering_of (ss ++ ts) ≡ fold with_section (gathering_of ss) ts
gathered_more ss ts =
    sym (gathered_all (ss ++ ts)) ∙ fold-append with_section nothing_gathered ss ts ∙ ap (λ (g : Gathering). fold with_section g ts) (gathered_all ss)

interfaces_gathered : (g : Gathering) (js : List InterfaceSection) →
    fold with_section g (map (λ (j : InterfaceSection). Interface j) js) ≡ record g { interfaces = fold with_interface g.interfaces js }
interfaces_gathered g [] = refl
interfaces_gathered g (j ∷ js) = interfaces_gathered (record g { interfaces = with_interface g.interfaces j }) js

-- an IS-IS process, and sections of interfaces
abbrev pub new_sections : IsisSection → List InterfaceSection → List Section
new_sections p js = Isis p ∷ map (λ (j : InterfaceSection). Interface j) js

abbrev grown_gathering : Gathering → IsisSection → List InterfaceSection → Gathering
grown_gathering g p js = record g { interfaces = fold with_interface g.interfaces js; isis = g.isis ++ p ∷ [] }

all_gathered : (ss : List Section) (p : IsisSection) (js : List InterfaceSection) →
    gathering_of (ss ++ new_sections p js) ≡ grown_gathering (gathering_of ss) p js
all_gathered ss p js = gathered_more ss (new_sections p js) ∙ interfaces_gathered (record (gathering_of ss) { isis = (gathering_of ss).isis ++ p ∷ [] }) js

no_heads : (js : List InterfaceSection) → filter_map as_fault (map (λ (j : InterfaceSection). Interface j) js) ≡ []
no_heads [] = refl
no_heads (j ∷ js) = no_heads js

module _ (ss : List Section) (p : IsisSection) (js : List InterfaceSection) where
  pub name_stays : last_of as_hostname (ss ++ new_sections p js) ≡ last_of as_hostname ss
  name_stays = ap (λ (g : Gathering). g.name) (all_gathered ss p js)

  pub ospf_stays : filter_map as_ospf (ss ++ new_sections p js) ≡ filter_map as_ospf ss
  ospf_stays = ap (λ (g : Gathering). g.ospf) (all_gathered ss p js)

  pub isis_grows : filter_map as_isis (ss ++ new_sections p js) ≡ filter_map as_isis ss ++ p ∷ []
  isis_grows = ap (λ (g : Gathering). g.isis) (all_gathered ss p js)

  pub interfaces_grow : interfaces_in (ss ++ new_sections p js) ≡ fold with_interface (interfaces_in ss) js
  interfaces_grow = ap (λ (g : Gathering). g.interfaces) (all_gathered ss p js)

  pub heads_stay : filter_map as_fault (ss ++ new_sections p js) ≡ filter_map as_fault ss
  heads_stay =
      filter_map-append as_fault ss (new_sections p js) ∙ ap (λ (fs : List Fault). filter_map as_fault ss ++ fs) (no_heads js)
      ∙ append-nil (filter_map as_fault ss)

-- ---- names ----

abbrev pub has : Word → List Word → Bool
has n ns = list_any (λ (m : Word). bytes_eq n m) ns

-- no name stands twice
abbrev pub Apart : List Word → Type 0
Apart [] = Unit {0}
Apart (n ∷ ns) = (has n ns ≡ false) × Apart ns

abbrev pub names_of : List InterfaceSection → List Word
names_of is = map (λ (s : InterfaceSection). s.name) is

pub same_name : (n m : Word) → bytes_eq n m ≡ true → n ≡ m
same_name n m e = (bytes_eq-Decides n m).0 e

pub name_same : (n : Word) → bytes_eq n n ≡ true
name_same n = (bytes_eq-Decides n n).1 refl

-- ---- a section of an interface more ----

abbrev grown_whole : InterfaceSection → InterfaceSection → InterfaceSection
grown_whole s j = record { line = s.line; name = s.name; lines = s.lines ++ j.lines }

-- a section of an interface with the lines of another one, where this is of its name
abbrev pub grown : InterfaceSection → InterfaceSection → InterfaceSection
grown s j = cond (bytes_eq j.name s.name) (record { line = s.line; name = s.name; lines = s.lines ++ j.lines }) s

grown_name : (s j : InterfaceSection) → (grown s j).name ≡ s.name
grown_name s j = by_name (bytes_eq j.name s.name)
  where
    by_name : (t : Bool) → (cond t (grown_whole s j) s).name ≡ s.name
    by_name true = refl
    by_name false = refl

names_stay : (j : InterfaceSection) (is : List InterfaceSection) → names_of (map (λ (s : InterfaceSection). grown s j) is) ≡ names_of is
names_stay j [] = refl
names_stay j (s ∷ is) = ap (λ (n : Word). n ∷ names_of (map (λ (x : InterfaceSection). grown x j) is)) (grown_name s j)
    ∙ ap (λ (ns : List Word). s.name ∷ ns) (names_stay j is)

-- sections of other names stay
others_stay : (j : InterfaceSection) (is : List InterfaceSection) → has j.name (names_of is) ≡ false →
    map (λ (s : InterfaceSection). grown s j) is ≡ is
others_stay j [] none = refl
others_stay j (s ∷ is) none =
    let parts = or_parts (bytes_eq j.name s.name) (has j.name (names_of is)) none in
    ap (λ (b : Bool). cond b (record { line = s.line; name = s.name; lines = s.lines ++ j.lines }) s ∷ map (λ (x : InterfaceSection). grown x j) is)
    parts.0
    ∙ ap (λ (xs : List InterfaceSection). s ∷ xs) (others_stay j is parts.1)

one_more : (j : InterfaceSection) (is : List InterfaceSection) → Apart (names_of is) → has j.name (names_of is) ≡ true →
    with_interface is j ≡ map (λ (s : InterfaceSection). grown s j) is
one_more j [] apart there = absurd cc
one_more j (s ∷ is) apart there = by_name (bytes_eq j.name s.name) refl there (λ h. one_more j is apart.1 h)
  where
    by_name : (t : Bool) → bytes_eq j.name s.name ≡ t → (t || has j.name (names_of is)) ≡ true →
        (has j.name (names_of is) ≡ true → with_interface is j ≡ map (λ (x : InterfaceSection). grown x j) is) →
        cond t (record { line = s.line; name = s.name; lines = s.lines ++ j.lines } ∷ is) (s ∷ with_interface is j)
        ≡ cond t (record { line = s.line; name = s.name; lines = s.lines ++ j.lines }) s ∷ map (λ (x : InterfaceSection). grown x j) is
    by_name true e there later =
        let none : has j.name (names_of is) ≡ false = subst (λ (n : Word). has n (names_of is) ≡ false) (sym (same_name j.name s.name e)) apart.0 in
        ap (λ (xs : List InterfaceSection). record { line = s.line; name = s.name; lines = s.lines ++ j.lines } ∷ xs) (sym (others_stay j is none))
    by_name false e there later = ap (λ (xs : List InterfaceSection). s ∷ xs) (later there)

-- each of these names is there
abbrev pub AreAmong : List InterfaceSection → List Word → Type 0
AreAmong [] ns = Unit {0}
AreAmong (j ∷ js) ns = (has j.name ns ≡ true) × AreAmong js ns

map_same : (is : List InterfaceSection) → is ≡ map (λ (s : InterfaceSection). s) is
map_same [] = refl
map_same (s ∷ is) = ap (λ (xs : List InterfaceSection). s ∷ xs) (map_same is)

-- more sections of interfaces that are there make each of these longer by those of its name
pub all_grown : (js is : List InterfaceSection) → Apart (names_of is) → AreAmong js (names_of is) →
    fold with_interface is js ≡ map (λ (s : InterfaceSection). fold grown s js) is
all_grown [] is apart among = map_same is
all_grown (j ∷ js) is apart among =
    let longer : List InterfaceSection = map (λ (s : InterfaceSection). grown s j) is in
    let names : names_of longer ≡ names_of is = names_stay j is in
    ap (λ (xs : List InterfaceSection). fold with_interface xs js) (one_more j is apart among.0)
    ∙ all_grown js longer (subst Apart (sym names) apart) (subst (AreAmong js) (sym names) among.1)
    ∙ map_twice (λ (s : InterfaceSection). fold grown s js) (λ (s : InterfaceSection). grown s j) is
