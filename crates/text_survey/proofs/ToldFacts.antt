-- Lines as they are told: from a number on, and with the same names.
use Rattle.std.proofs.Common.{◌≡◌, ◌<◌, ◌≤◌, ◌+◌, ℕ, suc, Bool, true, false, List, [], ◌∷◌, ◌++◌, append-nil, append_assoc, cond, drop, get_or, length, nat_lt, refl, sym, take, ap, ◌∙◌, arith}
use Rattle.std.specs.List.{prefix_len}
use Rattle.std.proofs.lemmas.Bool.Decides.{nat_tests}
use Rattle.std.proofs.lemmas.List.Concat.{flat_map-append}
use Rattle.ios_reader.proofs.PartFacts.{parts_more}
use Rattle.text_survey.proofs.NameFacts.{sections_at, sections_on}
use Rattle.ios_lines.specs.Words.{Word}
use Rattle.ios_lines.specs.Heads.{head_of}
use Rattle.ios_lines.specs.declared.head.Head.{Head}
use Rattle.ios_lines.specs.declared.head.Head.TheVariants.{Hostname, Interface as InterfaceHead, Ospf, Isis, Faulty, Other}
use Rattle.std.specs.Prelude.{Ok, Err, flat_map}
use Rattle.ios_sections.specs.TextLines.{TextLine, TextSection, Part, is_end, opens_section, parts_after, rest_after, section_lines, sections_of}
use Rattle.text_survey.specs.ToldLines.{ToldLine, from_line, place_below, told_section, told_below, top_line}
use Rattle.text_survey.specs.declared.told_line.LinePlace.{LinePlace}
use Rattle.text_survey.specs.declared.told_line.LinePlace.TheVariants.{Elsewhere, Interface}
use Rattle.text_survey.specs.steps.Inside.{HaveSameNames}

abbrev is_lower : ℕ → ToldLine → Bool
is_lower n line = nat_lt line.number n

-- the lines from a number on, by the place of the first one
pub from_count : (lines : List ToldLine) (n : ℕ) → drop (prefix_len (λ (line : ToldLine). nat_lt line.number n) lines) lines ≡ from_line n lines
from_count [] n = refl
from_count (x ∷ xs) n = by_first (nat_lt x.number n) (from_count xs n)
  where
    by_first : (t : Bool) → drop (prefix_len (is_lower n) xs) xs ≡ from_line n xs →
        drop (cond t (1 + prefix_len (is_lower n) xs) 0) (x ∷ xs) ≡ cond t (from_line n xs) (x ∷ xs)
    by_first false rest = refl
    by_first true rest =
        let one : 1 + prefix_len (is_lower n) xs ≡ suc (prefix_len (is_lower n) xs) = omega arith in
        ap (λ (k : ℕ). drop k (x ∷ xs)) one ∙ rest

lower_too : (k n m : ℕ) → n ≤ m → nat_lt k n ≡ true → nat_lt k m ≡ true
lower_too k n m up low = grind (arith, nat_tests)

-- from a number on, of those from a lower one on
pub from_again : (lines : List ToldLine) (n m : ℕ) → n ≤ m → from_line m (from_line n lines) ≡ from_line m lines
from_again [] n m up = refl
from_again (x ∷ xs) n m up = by_first (nat_lt x.number n) refl (from_again xs n m up)
  where
    by_first : (t : Bool) → nat_lt x.number n ≡ t → from_line m (from_line n xs) ≡ from_line m xs →
        from_line m (cond t (from_line n xs) (x ∷ xs)) ≡ from_line m (x ∷ xs)
    by_first false is rest = refl
    by_first true is rest =
        rest ∙ sym (ap (λ (b : Bool). cond b (from_line m xs) (x ∷ xs)) (lower_too x.number n m up is))

-- what lines stand below goes by the names, in whichever list they stand
pub same_place : (one other : List Word) → HaveSameNames one other → (head : Head) → place_below one head ≡ place_below other head
same_place one other same (Hostname _) = refl
same_place one other same (InterfaceHead (Ok name)) = ap (λ (b : Bool). cond b Elsewhere Interface) (same name)
same_place one other same (InterfaceHead (Err _)) = refl
same_place one other same (Ospf (Ok _)) = refl
same_place one other same (Ospf (Err _)) = refl
same_place one other same (Isis _) = refl
same_place one other same (Faulty _) = refl
same_place one other same Other = refl

pub same_told : (one other : List Word) → HaveSameNames one other → (sections : List TextSection) →
    flat_map (told_section one) sections ≡ flat_map (told_section other) sections
same_told one other same [] = refl
same_told one other same (s ∷ ss) =
    ap (λ (p : LinePlace). (top_line s.head.number s.head.bytes ∷ told_below p s.head.bytes s.body) ++ flat_map (told_section one) ss)
    (same_place one other same (head_of s.head.words))
    ∙ ap (λ (more : List ToldLine). told_section other s ++ more) (same_told one other same ss)

-- ---- section by section ----

module _ (lines : List TextLine) (i : ℕ) (x : TextLine) (within : i < length lines) (read : x ≡ get_or lines i x)
    (tell : TextSection → List ToldLine) where
  -- one more section is told
  pub section_more : (old new all : List ToldLine) → opens_section x ≡ true →
      new ≡ old ++ tell (record { head = x; body = section_lines (drop (i + 1) lines) }) →
      old ++ flat_map tell (sections_of (drop i lines)) ≡ all → new ++ flat_map tell (sections_of (drop (i + 1) lines)) ≡ all
  section_more old new all opens is before =
      let section : TextSection = record { head = x; body = section_lines (drop (i + 1) lines) } in
      let rest : List ToldLine = flat_map tell (sections_of (drop (i + 1) lines)) in
      ap (λ (t : List ToldLine). t ++ rest) is
      ∙ append_assoc old (tell section) rest
      ∙ ap (λ (ss : List TextSection). old ++ flat_map tell ss) (sym (sections_at lines i x within read opens))
      ∙ before

  pub section_passed : (old all : List ToldLine) → opens_section x ≡ false →
      old ++ flat_map tell (sections_of (drop i lines)) ≡ all → old ++ flat_map tell (sections_of (drop (i + 1) lines)) ≡ all
  section_passed old all other before =
      ap (λ (ss : List TextSection). old ++ flat_map tell ss) (sym (sections_on lines i x within read other)) ∙ before

module _ (lines : List TextLine) (i : ℕ) (x : TextLine) (within : i < length lines) (read : x ≡ get_or lines i x) (names : List Word) where
  -- the same with what it stands below
  pub section_told : (place : LinePlace) (old new all : List ToldLine) → opens_section x ≡ true → place ≡ place_below names (head_of x.words) →
      new ≡ old ++ top_line x.number x.bytes ∷ told_below place x.bytes (section_lines (drop (i + 1) lines)) →
      old ++ flat_map (told_section names) (sections_of (drop i lines)) ≡ all →
      new ++ flat_map (told_section names) (sections_of (drop (i + 1) lines)) ≡ all
  section_told place old new all opens at is before =
      section_more lines i x within read (told_section names) old new all opens
      (is ∙ ap (λ (p : LinePlace). old ++ top_line x.number x.bytes ∷ told_below p x.bytes (section_lines (drop (i + 1) lines))) at) before

-- ---- configuration by configuration ----

module _ (lines : List TextLine) (i : ℕ) (x : TextLine) (within : i < length lines) (read : x ≡ get_or lines i x)
    (tell : Part → List ToldLine) where
  abbrev part_here : List TextLine → ℕ → Part
  part_here before number = record { lines = before; ends = number }

  -- at an `end` line one more is told
  pub part_told : (slice : List TextLine) (number : ℕ) (old new : List ToldLine) → is_end x ≡ true → slice ≡ rest_after [] (take i lines) →
      number ≡ x.number → old ≡ flat_map tell (parts_after [] (take i lines)) →
      new ≡ old ++ tell (record { lines = slice; ends = number }) → new ≡ flat_map tell (parts_after [] (take (i + 1) lines))
  part_told slice number old new ends before same was is =
      let parts : parts_after [] (take i lines) ++ part_here slice number ∷ [] ≡ parts_after [] (take (i + 1) lines) =
      ap (λ (w : List TextLine). parts_after [] (take i lines) ++ part_here w number ∷ []) before
      ∙ ap (λ (n : ℕ). parts_after [] (take i lines) ++ part_here (rest_after [] (take i lines)) n ∷ []) same
      ∙ sym (parts_more lines i x within read ∙ ap (λ (b : Bool). parts_after [] (take i lines)
      ++ cond b (part_here (rest_after [] (take i lines)) x.number ∷ []) []) ends) in
      is
      ∙ ap (λ (t : List ToldLine). t ++ tell (part_here slice number)) was
      ∙ ap (λ (t : List ToldLine). flat_map tell (parts_after [] (take i lines)) ++ t) (sym (append-nil (tell (part_here slice number))))
      ∙ sym (flat_map-append tell (parts_after [] (take i lines)) (part_here slice number ∷ []))
      ∙ ap (flat_map tell) parts

  -- at another line nothing more is told
  pub part_on : (old : List ToldLine) → is_end x ≡ false → old ≡ flat_map tell (parts_after [] (take i lines)) →
      old ≡ flat_map tell (parts_after [] (take (i + 1) lines))
  part_on old on was =
      let parts : parts_after [] (take i lines) ≡ parts_after [] (take (i + 1) lines) =
      sym (append-nil (parts_after [] (take i lines)))
      ∙ sym (parts_more lines i x within read ∙ ap (λ (b : Bool). parts_after [] (take i lines)
      ++ cond b (part_here (rest_after [] (take i lines)) x.number ∷ []) []) on) in
      was ∙ ap (flat_map tell) parts
