-- The table of interfaces by name: where one more section goes.
use Rattle.std.proofs.lemmas.Grind.{common_steps}
use Rattle.std.proofs.Common.{◌≡◌, ℕ, suc, ◌+◌, ◌<◌, Bool, true, false, not, ◌||◌, List, [], ◌∷◌, ◌++◌, refl, ap, cond, map}
use Rattle.std.proofs.Common.{bytes_eq, length}
use Rattle.std.proofs.Common.{get_or, set, arith, nat_lt, Some, None, sym, ◌∙◌}
use Rattle.std.specs.Prelude.{position}
use Rattle.std.proofs.lemmas.Bool.Decides.{nat_tests}
use Rattle.ios_lines.proofs.Places.{no_place}
use Rattle.std.specs.List.{list_any, position_or_len}
use Rattle.std.proofs.lemmas.Bool.{false≢true}
use Rattle.std.proofs.lemmas.List.{map-append, length-map}
use Rattle.ios_lines.specs.Words.{Word}
use Rattle.ios_sections.specs.Gathering.{with_interface}
use Rattle.ios_sections.specs.declared.section.InterfaceSection.{InterfaceSection}

pub place-map : {X : Type 0} (f : X → Word) (p : Word → Bool) (xs : List X) →
    position_or_len (λ x. p (f x)) xs ≡ position_or_len p (map f xs)
place-map f p [] = refl
place-map f p (x ∷ xs) = ap (λ (n : ℕ). cond (not (p (f x))) (1 + n) 0) (place-map f p xs)

pub any-map : {X : Type 0} (f : X → Word) (p : Word → Bool) (xs : List X) → list_any (λ x. p (f x)) xs ≡ list_any p (map f xs)
any-map f p [] = refl
any-map f p (x ∷ xs) = ap (λ (b : Bool). p (f x) || b) (any-map f p xs)

pub map-insert : {X : Type 0} (f : X → Word) (b : Bool) (xs : List X) (x : X) →
    map f (cond b xs (xs ++ x ∷ [])) ≡ cond b (map f xs) (map f xs ++ f x ∷ [])
map-insert f b xs x = grind (arith, common_steps, map-append)

abbrev pub names_of : List InterfaceSection → List Word
names_of xs = map (λ (s : InterfaceSection). s.name) xs

abbrev pub joined : InterfaceSection → InterfaceSection → InterfaceSection
joined s more = record { line = s.line; name = s.name; lines = s.lines ++ more.lines }

new_cases : (t b : Bool) (x s : InterfaceSection) (xs rest : List InterfaceSection) → (b ≡ false → rest ≡ xs ++ s ∷ []) →
    (t || b) ≡ false →
    cond t (joined x s ∷ xs) (x ∷ rest) ≡ (x ∷ xs) ++ s ∷ []
new_cases t b x s xs rest later h = grind (arith, common_steps, false≢true)

-- a section of a new name goes last
pub table_new : (xs : List InterfaceSection) (s : InterfaceSection) → list_any (bytes_eq s.name) (names_of xs) ≡ false →
    with_interface xs s ≡ xs ++ s ∷ []
table_new [] s h = refl
table_new (x ∷ xs) s h = new_cases (bytes_eq s.name x.name) (list_any (bytes_eq s.name) (names_of xs)) x s xs (with_interface xs s) (λ g. table_new xs s g) h

old_cases : (t b : Bool) (x s d : InterfaceSection) (xs rest : List InterfaceSection) (n : ℕ) →
    (b ≡ true → rest ≡ set xs n (joined (get_or xs n d) s)) → (t || b) ≡ true →
    cond t (joined x s ∷ xs) (x ∷ rest) ≡ set (x ∷ xs) (cond (not t) (1 + n) 0) (joined (get_or (x ∷ xs) (cond (not t) (1 + n) 0) d) s)
old_cases t b x s d xs rest n later h = grind (arith, common_steps)

-- a section of a name that is there goes to that name's place
pub table_old : (xs : List InterfaceSection) (s d : InterfaceSection) → list_any (bytes_eq s.name) (names_of xs) ≡ true →
    with_interface xs s ≡ set xs (position_or_len (bytes_eq s.name) (names_of xs)) (joined (get_or xs (position_or_len (bytes_eq s.name) (names_of xs)) d) s)
table_old [] s d h = absurd (false≢true h)
table_old (x ∷ xs) s d h =
    old_cases (bytes_eq s.name x.name) (list_any (bytes_eq s.name) (names_of xs)) x s d xs (with_interface xs s)
    (position_or_len (bytes_eq s.name) (names_of xs)) (λ g. table_old xs s d g) h

name_cases : (t b : Bool) (x s : InterfaceSection) (xs rest : List InterfaceSection) →
    names_of rest ≡ cond b (names_of xs) (names_of xs ++ s.name ∷ []) →
    names_of (cond t (joined x s ∷ xs) (x ∷ rest)) ≡ cond (t || b) (names_of (x ∷ xs)) (names_of (x ∷ xs) ++ s.name ∷ [])
name_cases t b x s xs rest later = grind arith

-- the names after one more section
pub names-table : (xs : List InterfaceSection) (s : InterfaceSection) → names_of (with_interface xs s)
    ≡ cond (list_any (bytes_eq s.name) (names_of xs)) (names_of xs) (names_of xs ++ s.name ∷ [])
names-table [] s = refl
names-table (x ∷ xs) s = name_cases (bytes_eq s.name x.name) (list_any (bytes_eq s.name) (names_of xs)) x s xs (with_interface xs s) (names-table xs s)

place_cases : (t b : Bool) (n m : ℕ) → (b ≡ true → n < m) → (t || b) ≡ true → cond (not t) (1 + n) 0 < suc m
place_cases t b n m later h = grind (arith, common_steps)

-- the place of a name that is there
pub place_within : (ns : List Word) (n : Word) → list_any (bytes_eq n) ns ≡ true → position_or_len (bytes_eq n) ns < length ns
place_within [] n h = absurd (false≢true h)
place_within (m ∷ ms) n h = place_cases (bytes_eq n m) (list_any (bytes_eq n) ms) (position_or_len (bytes_eq n) ms) (length ms) (λ g. place_within ms n g) h

-- the names go with the table
pub names_after : (xs ys : List InterfaceSection) (s : InterfaceSection) (ns ms : List Word) → ys ≡ with_interface xs s →
    ns ≡ names_of xs → ms
    ≡ cond (list_any (bytes_eq s.name) ns) ns (ns ++ s.name ∷ []) → ms ≡ names_of ys
names_after xs ys s ns ms table before after = grind (arith, common_steps, names-table)

-- what stands at a place short of all passes a test, and past them nothing does
pub any_place : (p : Word → Bool) (ns : List Word) → list_any p ns ≡ nat_lt (position_or_len p ns) (length ns)
any_place p [] = refl
any_place p (n ∷ ns) = cases (p n) (any_place p ns)
  where
    cases : (t : Bool) → list_any p ns ≡ nat_lt (position_or_len p ns) (length ns) →
        (t || list_any p ns) ≡ nat_lt (cond (not t) (1 + position_or_len p ns) 0) (suc (length ns))
    cases true later = grind (arith, nat_tests)
    cases false later = grind (arith, nat_tests)

names_count : (xs : List InterfaceSection) → length (names_of xs) ≡ length xs
names_count xs = grind (arith, common_steps, length-map)

chosen : (t : Bool) (place n : ℕ) → cond t (Some place) None ≡ Some n → (t ≡ true) × (n ≡ place)
chosen t place n e = grind (arith, common_steps)

refused : (t : Bool) (place : ℕ) → cond t (Some place) None ≡ None → t ≡ false
refused t place e = grind (arith, common_steps)

-- the place of the first interface of a name, where one has it
pub named : (xs : List InterfaceSection) (name : Word) (n : ℕ) →
    position (λ (s : InterfaceSection). bytes_eq name s.name) xs ≡ Some n →
    (n ≡ position_or_len (bytes_eq name) (names_of xs)) × (list_any (bytes_eq name) (names_of xs) ≡ true)
named xs name n e =
    let there = chosen _ (position_or_len (λ (s : InterfaceSection). bytes_eq name s.name) xs) n e in
    let place = place-map (λ (s : InterfaceSection). s.name) (bytes_eq name) xs in (
      there.1 ∙ place,
      any_place (bytes_eq name) (names_of xs)
          ∙ ap (λ (k : ℕ). nat_lt k (length (names_of xs))) (sym place)
          ∙ ap (nat_lt (position_or_len (λ (s : InterfaceSection). bytes_eq name s.name) xs)) (names_count xs)
          ∙ there.0,
    )

-- no interface has the name
pub not_named : (xs : List InterfaceSection) (name : Word) → position (λ (s : InterfaceSection). bytes_eq name s.name) xs ≡ None →
    (length xs ≡ position_or_len (bytes_eq name) (names_of xs)) × (list_any (bytes_eq name) (names_of xs) ≡ false)
not_named xs name e =
    let beyond = refused _ (position_or_len (λ (s : InterfaceSection). bytes_eq name s.name) xs) e in
    let place = place-map (λ (s : InterfaceSection). s.name) (bytes_eq name) xs in (
      no_place (λ (s : InterfaceSection). bytes_eq name s.name) xs e ∙ place,
      any_place (bytes_eq name) (names_of xs)
          ∙ ap (λ (k : ℕ). nat_lt k (length (names_of xs))) (sym place)
          ∙ ap (nat_lt (position_or_len (λ (s : InterfaceSection). bytes_eq name s.name) xs)) (names_count xs)
          ∙ beyond,
    )
