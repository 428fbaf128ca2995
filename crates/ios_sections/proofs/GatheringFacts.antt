-- The sections gathered one after the other are the sections looked up by what they say.
use Rattle.std.proofs.lemmas.Grind.{common_steps}
use Rattle.std.proofs.Common.{sym, ◌≡◌, ℕ, Bool, true, false, not, ◌&&◌, ◌||◌, List, [], ◌∷◌, ◌++◌, Option, refl, ap, subst, ◌∙◌, cond, map, bytes_eq}
use Rattle.std.proofs.Common.{append_assoc, append-nil, arith}
use Rattle.std.specs.Prelude.{filter, filter_map, flat_map, fold}
use Rattle.std.specs.List.{list_any, list_all}
use Rattle.std.proofs.lemmas.List.Elements.{filter-append, filter_map-append}
use Rattle.std.proofs.lemmas.List.Concat.{flat_map-append}
use Rattle.std.proofs.lemmas.List.{map-append}
use Rattle.std.proofs.lemmas.Slice.Eq.{bytes_eq-Decides}
use Rattle.std.proofs.lemmas.Bool.{false≢true}
use Rattle.ios_lines.specs.Words.{Word}
use Rattle.ios_lines.specs.Lookups.{later, last_of, first_seen}
use Rattle.ios_sections.specs.Processes.{named, first_line, merged, merged_interfaces, as_hostname, as_interface, as_ospf, as_isis, as_fault}
use Rattle.ios_sections.specs.Gathering.{Gathering, gathering_of, with_interface, with_section, nothing_gathered}
use Rattle.ios_lines.specs.declared.fault.Fault.{Fault}
use Rattle.ios_sections.specs.declared.section.InterfaceSection.{InterfaceSection}
use Rattle.ios_sections.specs.declared.section.Section.{Section}
use Rattle.ios_sections.specs.declared.section.OspfSection.{OspfSection}
use Rattle.ios_sections.specs.declared.section.IsisSection.{IsisSection}
use Rattle.ios_lines.specs.declared.interface_line.InterfaceStatement.{InterfaceStatement}
use Rattle.ios_lines.proofs.NumberFacts.{and_left, and_right}
use Rattle.ios_lines.proofs.LineLookups.{last_of-push}

-- ---- the interfaces, one more section at a time ----

same_name : (n m : Word) → bytes_eq n m ≡ true → n ≡ m
same_name n m e = (bytes_eq-Decides n m).0 e

name_same : (n : Word) → bytes_eq n n ≡ true
name_same n = (bytes_eq-Decides n n).1 refl

other_name : (n m : Word) → bytes_eq n m ≡ false → bytes_eq m n ≡ false
other_name n m e = flip (bytes_eq m n) refl
  where
    flip : (t : Bool) → bytes_eq m n ≡ t → bytes_eq m n ≡ false
    flip false r = r
    flip true r = absurd (let same : m ≡ n = same_name m n r in let again : bytes_eq n m
        ≡ true = subst (λ (w : Word). bytes_eq n w ≡ true) (sym same) (name_same n) in cc)

abbrev names_of : List InterfaceSection → List Word
names_of xs = map (λ (s : InterfaceSection). s.name) xs

abbrev has : Word → List Word → Bool
has n ns = list_any (bytes_eq n) ns

abbrev made : ℕ → Word → List InterfaceStatement → InterfaceSection
made line name lines = record { line = line; name = name; lines = lines }

abbrev all_lines : List InterfaceSection → List InterfaceStatement
all_lines ss = flat_map (λ (s : InterfaceSection). s.lines) ss

named-same : (n : Word) (xs : List InterfaceSection) (i : InterfaceSection) → bytes_eq n i.name ≡ true → named n (xs ++ i ∷ []) ≡ named n xs ++ i ∷ []
named-same n xs i e = grind (arith, common_steps, filter-append)

named-other : (n : Word) (xs : List InterfaceSection) (i : InterfaceSection) → bytes_eq n i.name ≡ false → named n (xs ++ i ∷ []) ≡ named n xs
named-other n xs i e = grind (arith, common_steps, filter-append)

merged-other : (n : Word) (xs : List InterfaceSection) (i : InterfaceSection) → bytes_eq n i.name ≡ false → merged (xs ++ i ∷ []) n ≡ merged xs n
merged-other n xs i e = ap (λ (ss : List InterfaceSection). made (first_line ss) n (all_lines ss)) (named-other n xs i e)

first_cases : (t b : Bool) (x i : InterfaceSection) (ss : List InterfaceSection) → (b ≡ true → first_line (ss ++ i ∷ []) ≡ first_line ss) → (t || b) ≡ true →
    first_line (cond t (x ∷ ss) ss ++ i ∷ []) ≡ first_line (cond t (x ∷ ss) ss)
first_cases t b x i ss later h = grind (arith, common_steps)

first-push : (n : Word) (xs : List InterfaceSection) (i : InterfaceSection) → has n (names_of xs) ≡ true → first_line (named n xs ++ i ∷ [])
    ≡ first_line (named n xs)
first-push n [] i h = absurd (false≢true h)
first-push n (x ∷ xs) i h = first_cases (bytes_eq n x.name) (has n (names_of xs)) x i (named n xs) (λ g. first-push n xs i g) h

merged-same : (n : Word) (xs : List InterfaceSection) (i : InterfaceSection) → bytes_eq n i.name ≡ true → has n (names_of xs) ≡ true →
    merged (xs ++ i ∷ []) n ≡ made (first_line (named n xs)) n (all_lines (named n xs) ++ i.lines)
merged-same n xs i e h = grind (arith, common_steps, first-push, flat_map-append, named-same)

none_cases : (t b : Bool) (x : InterfaceSection) (ss : List InterfaceSection) → (b ≡ false → ss ≡ []) → (t || b) ≡ false → cond t (x ∷ ss) ss ≡ []
none_cases t b x ss later h = grind (arith, common_steps)

named-none : (n : Word) (xs : List InterfaceSection) → has n (names_of xs) ≡ false → named n xs ≡ []
named-none n [] h = refl
named-none n (x ∷ xs) h = none_cases (bytes_eq n x.name) (has n (names_of xs)) x (named n xs) (λ g. named-none n xs g) h

merged-new : (xs : List InterfaceSection) (i : InterfaceSection) → has i.name (names_of xs) ≡ false → merged (xs ++ i ∷ []) i.name ≡ i
merged-new xs i h = grind (arith, common_steps, name_same, named-none, named-same)

abbrev distinct : List Word → Bool
distinct [] = true
distinct (n ∷ ns) = not (has n ns) && distinct ns

or_left : (a b : Bool) → (a || b) ≡ false → a ≡ false
or_left a b h = grind (arith, common_steps)

or_right : (a b : Bool) → (a || b) ≡ false → b ≡ false
or_right a b h = grind (arith, common_steps)

not_true : (a : Bool) → not a ≡ true → a ≡ false
not_true a h = grind (arith, common_steps)

map-others : (ns : List Word) (xs : List InterfaceSection) (i : InterfaceSection) → has i.name ns ≡ false → map (merged xs) ns ≡ map (merged (xs ++ i ∷ [])) ns
map-others [] xs i h = refl
map-others (m ∷ ms) xs i h =
    let head : merged (xs ++ i ∷ []) m ≡ merged xs m = merged-other m xs i (other_name i.name m (or_left (bytes_eq i.name m) (has i.name ms) h)) in
    ap (λ (s : InterfaceSection). s ∷ map (merged xs) ms) (sym head)
    ∙ ap (λ (ss : List InterfaceSection). merged (xs ++ i ∷ []) m ∷ ss) (map-others ms xs i (or_right (bytes_eq i.name m) (has i.name ms) h))

map_cond : (b : Bool) (f : Word → InterfaceSection) (n x : Word) (ns : List Word) → f n ∷ map f (cond b ns (ns ++ x ∷ []))
    ≡ map f (cond b (n ∷ ns) ((n ∷ ns) ++ x ∷ []))
map_cond b f n x ns = grind (arith, common_steps)

table_cases : (t : Bool) (n : Word) (ns : List Word) (xs : List InterfaceSection) (i : InterfaceSection) → bytes_eq i.name n ≡ t →
    (not (has n ns) && distinct ns) ≡ true → (has n (names_of xs) && list_all (λ (m : Word). has m (names_of xs)) ns) ≡ true →
    (t || has i.name ns) ≡ has i.name (names_of xs) →
    (has i.name ns ≡ has i.name (names_of xs) → with_interface (map (merged xs) ns) i
    ≡ map (merged (xs ++ i ∷ [])) (cond (has i.name ns) ns (ns ++ i.name ∷ []))) →
    cond t (made (first_line (named n xs)) n (all_lines (named n xs) ++ i.lines) ∷ map (merged xs) ns) (merged xs n ∷ with_interface (map (merged xs) ns) i)
    ≡ map (merged (xs ++ i ∷ [])) (cond (t || has i.name ns) (n ∷ ns) ((n ∷ ns) ++ i.name ∷ []))
table_cases t n ns xs i e apart seen same later =
    grind (arith, common_steps, and_left, map-others, map_cond, merged-other, merged-same, name_same, not_true, other_name, same_name)

table-push : (ns : List Word) (xs : List InterfaceSection) (i : InterfaceSection) → distinct ns ≡ true → list_all (λ (m : Word). has m (names_of xs)) ns
    ≡ true →
    has i.name ns ≡ has i.name (names_of xs) → with_interface (map (merged xs) ns) i
    ≡ map (merged (xs ++ i ∷ [])) (cond (has i.name ns) ns (ns ++ i.name ∷ []))
table-push [] xs i apart seen same = ap (λ (s : InterfaceSection). s ∷ []) (sym (merged-new xs i (sym same)))
table-push (n ∷ ns) xs i apart seen same =
    table_cases (bytes_eq i.name n) n ns xs i refl apart seen same
    (λ again. table-push ns xs i (and_right (not (has n ns)) (distinct ns) apart)
    (and_right (has n (names_of xs)) (list_all (λ (m : Word). has m (names_of xs)) ns) seen) again)

-- ---- names, each once ----

abbrev but : Word → List Word → List Word
but m ns = filter (λ (o : Word). not (bytes_eq m o)) ns

but_cases : (t : Bool) (n m x : Word) (xs : List Word) → bytes_eq m x ≡ t → bytes_eq n m ≡ false → has n (but m xs) ≡ has n xs →
    has n (cond (not t) (x ∷ but m xs) (but m xs)) ≡ (bytes_eq n x || has n xs)
but_cases true n m x xs e apart later =
    let differs : bytes_eq n x ≡ false = subst (λ (w : Word). bytes_eq n w ≡ false) (same_name m x e) apart in
    later ∙ ap (λ (b : Bool). b || has n xs) (sym differs)
but_cases false n m x xs e apart later = ap (λ (b : Bool). bytes_eq n x || b) later

has-but : (n m : Word) (xs : List Word) → bytes_eq n m ≡ false → has n (but m xs) ≡ has n xs
has-but n m [] apart = refl
has-but n m (x ∷ xs) apart = but_cases (bytes_eq m x) n m x xs refl apart (has-but n m xs apart)

gone_cases : (t : Bool) (m x : Word) (xs : List Word) → bytes_eq m x ≡ t → has m (but m xs) ≡ false → has m (cond (not t) (x ∷ but m xs) (but m xs)) ≡ false
gone_cases t m x xs e later = grind (arith, common_steps)

has-gone : (m : Word) (xs : List Word) → has m (but m xs) ≡ false
has-gone m [] = refl
has-gone m (x ∷ xs) = gone_cases (bytes_eq m x) m x xs refl (has-gone m xs)

fewer_cases : (t : Bool) (n m x : Word) (xs : List Word) → (bytes_eq n x || has n xs) ≡ false → (has n xs ≡ false → has n (but m xs) ≡ false) →
    has n (cond t (x ∷ but m xs) (but m xs)) ≡ false
fewer_cases t n m x xs h later = grind arith

has-fewer : (n m : Word) (xs : List Word) → has n xs ≡ false → has n (but m xs) ≡ false
has-fewer n m [] h = refl
has-fewer n m (x ∷ xs) h = fewer_cases (not (bytes_eq m x)) n m x xs h (λ g. has-fewer n m xs g)

apart_cases : (t : Bool) (m x : Word) (xs : List Word) → (not (has x xs) && distinct xs) ≡ true → (distinct xs ≡ true → distinct (but m xs) ≡ true) →
    distinct (cond t (x ∷ but m xs) (but m xs)) ≡ true
apart_cases t m x xs h later = grind (arith, common_steps, and_left, and_right, has-fewer, not_true)

distinct-but : (m : Word) (xs : List Word) → distinct xs ≡ true → distinct (but m xs) ≡ true
distinct-but m [] h = refl
distinct-but m (x ∷ xs) h = apart_cases (not (bytes_eq m x)) m x xs h (λ g. distinct-but m xs g)

distinct-seen : (ns : List Word) → distinct (first_seen ns) ≡ true
distinct-seen [] = refl
distinct-seen (m ∷ ms) =
    ap (λ (b : Bool). not b && distinct (but m (first_seen ms))) (has-gone m (first_seen ms)) ∙ distinct-but m (first_seen ms) (distinct-seen ms)

seen_cases : (t : Bool) (n m : Word) (ms : List Word) → bytes_eq n m ≡ t → has n (first_seen ms) ≡ has n ms → (t || has n (but m (first_seen ms)))
    ≡ (t || has n ms)
seen_cases t n m ms e later = grind (arith, common_steps, has-but)

has-seen : (n : Word) (ns : List Word) → has n (first_seen ns) ≡ has n ns
has-seen n [] = refl
has-seen n (m ∷ ms) = seen_cases (bytes_eq n m) n m ms refl (has-seen n ms)

or_true : (a b : Bool) → b ≡ true → (a || b) ≡ true
or_true a b h = grind (arith, common_steps)

all-has : (ys zs : List Word) → ((m : Word) → has m ys ≡ true → has m zs ≡ true) → list_all (λ (m : Word). has m zs) ys ≡ true
all-has [] zs f = refl
all-has (y ∷ ys) zs f =
    let head : has y zs ≡ true = f y (ap (λ (b : Bool). b || has y ys) (name_same y)) in
    ap (λ (b : Bool). b && list_all (λ (m : Word). has m zs) ys) head ∙ all-has ys zs (λ m h. f m (or_true (bytes_eq m y) (has m ys) h))

push_cases : (t b : Bool) (n m : Word) (fs : List Word) → bytes_eq n m ≡ t →
    m ∷ but m (cond b fs (fs ++ n ∷ [])) ≡ cond (t || b) (m ∷ but m fs) ((m ∷ but m fs) ++ n ∷ [])
push_cases t b n m fs e = grind (arith, common_steps, filter-append, name_same, other_name, same_name)

seen-push : (ns : List Word) (n : Word) → first_seen (ns ++ n ∷ []) ≡ cond (has n ns) (first_seen ns) (first_seen ns ++ n ∷ [])
seen-push [] n = refl
seen-push (m ∷ ms) n =
    ap (λ (w : List Word). m ∷ but m w) (seen-push ms n) ∙ push_cases (bytes_eq n m) (has n ms) n m (first_seen ms) refl

-- one more section of an interface
interfaces-push : (xs : List InterfaceSection) (i : InterfaceSection) → with_interface (merged_interfaces xs) i ≡ merged_interfaces (xs ++ i ∷ [])
interfaces-push xs i =
    let seen : has i.name (first_seen (names_of xs)) ≡ has i.name (names_of xs) = has-seen i.name (names_of xs) in
    let names : names_of (xs ++ i ∷ []) ≡ names_of xs ++ i.name ∷ [] = map-append (λ (s : InterfaceSection). s.name) xs (i ∷ []) in
    table-push (first_seen (names_of xs)) xs i (distinct-seen (names_of xs))
    (all-has (first_seen (names_of xs)) (names_of xs) (λ m h. sym (has-seen m (names_of xs)) ∙ h))
    seen
    ∙ ap (λ (b : Bool). map (merged (xs ++ i ∷ [])) (cond b (first_seen (names_of xs)) (first_seen (names_of xs) ++ i.name ∷ []))) seen
    ∙ ap (map (merged (xs ++ i ∷ []))) (sym (seen-push (names_of xs) i.name))
    ∙ ap (λ (ns : List Word). map (merged (xs ++ i ∷ [])) (first_seen ns)) (sym names)

-- ---- one more section ----

abbrev gathered : Option Word → List InterfaceSection → List OspfSection → List IsisSection → List Fault → Gathering
gathered name interfaces ospf isis faults = record { name = name; interfaces = interfaces; ospf = ospf; isis = isis; faults = faults }

five : (n m : Option Word) (i j : List InterfaceSection) (o p : List OspfSection) (s t : List IsisSection) (f g : List Fault) →
    n ≡ m → i ≡ j → o ≡ p → s ≡ t → f ≡ g → gathered n i o s f ≡ gathered m j p t g
five n m i j o p s t f g a b c d e = cc

module _ (ss : List Section) (x : Section) where
  name_now : last_of as_hostname (ss ++ x ∷ []) ≡ later (last_of as_hostname ss) (as_hostname x)
  name_now = last_of-push as_hostname ss x

  interface_now : filter_map as_interface (ss ++ x ∷ []) ≡ filter_map as_interface ss ++ filter_map as_interface (x ∷ [])
  interface_now = filter_map-append as_interface ss (x ∷ [])

  ospf_now : filter_map as_ospf (ss ++ x ∷ []) ≡ filter_map as_ospf ss ++ filter_map as_ospf (x ∷ [])
  ospf_now = filter_map-append as_ospf ss (x ∷ [])

  isis_now : filter_map as_isis (ss ++ x ∷ []) ≡ filter_map as_isis ss ++ filter_map as_isis (x ∷ [])
  isis_now = filter_map-append as_isis ss (x ∷ [])

  fault_now : filter_map as_fault (ss ++ x ∷ []) ≡ filter_map as_fault ss ++ filter_map as_fault (x ∷ [])
  fault_now = filter_map-append as_fault ss (x ∷ [])

same_interfaces : (xs : List InterfaceSection) → merged_interfaces xs ≡ merged_interfaces (xs ++ [])
same_interfaces xs = ap merged_interfaces (sym (append-nil xs))

section-push : (ss : List Section) (x : Section) → with_section (gathering_of ss) x ≡ gathering_of (ss ++ x ∷ [])
section-push ss x =
    grind (arith, common_steps, fault_now, five, interface_now, interfaces-push, isis_now, name_now, ospf_now, same_interfaces)

gathered-after : (ss ts : List Section) → fold with_section (gathering_of ss) ts ≡ gathering_of (ss ++ ts)
gathered-after ss [] = ap gathering_of (sym (append-nil ss))
gathered-after ss (t ∷ ts) =
    ap (λ (g : Gathering). fold with_section g ts) (section-push ss t) ∙ gathered-after (ss ++ t ∷ []) ts ∙ ap gathering_of (append_assoc ss (t ∷ []) ts)

-- the sections gathered one after the other are those looked up by what they say
pub gathered_all : (sections : List Section) → fold with_section nothing_gathered sections ≡ gathering_of sections
gathered_all sections = gathered-after [] sections
