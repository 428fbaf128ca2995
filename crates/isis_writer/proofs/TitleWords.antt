-- The network entity title that is written reads as its area and its system id.
use Rattle.std.proofs.lemmas.Grind.{common_steps}
use Rattle.std.proofs.Common.{◌≡◌, ℕ, ◌+◌, ◌-◌, ◌*◌, ◌/◌, ◌%◌, ◌<◌, ◌≤◌, Bool, true, false, ◌&&◌, cond, List, []}
use Rattle.std.proofs.Common.{◌∷◌, ◌++◌, length, take}
use Rattle.std.proofs.Common.{drop, Some, refl, ap, ◌∙◌, append_assoc, length-append, arith, codes, bytes_eq, nat_eq, nat_le}
use Rattle.std.proofs.Common.{nat_lt}
use Rattle.std.specs.List.{list_all}
use Rattle.std.proofs.lemmas.Bool.{and_parts, and_from, leb-true, le-leb}
use Rattle.std.proofs.lemmas.Bool.Decides.{nat_tests}
use Rattle.std.proofs.lemmas.List.{take_at, drop_at}
use Rattle.std.proofs.lemmas.List.Folds.{list_all-append}
use Rattle.ios_lines.specs.Words.{Word, is_dot, is_printable}
use Rattle.ios_lines.specs.IsisLines.{is_hex, hex_value, is_grouped, grouped_from, is_area_address, front_part, system_part, area_part}
use Rattle.ios_lines.specs.IsisLines.{system_value, is_title, title_of}
use Rattle.design_file.specs.Values.{is_area}
use Rattle.isis_writer.specs.RouterLines.{four_digits, title}
use Rattle.isis_writer.specs.PreparedConfigurations.{system_id}
use Rattle.printed_sections.specs.PrintedSections.{is_fine}

-- ---- digits ----

digit_value : (d : ℕ) → d < 10 → hex_value (48 + d) ≡ d
digit_value d small = grind (arith, nat_tests)

digit_hex : (d : ℕ) → d < 10 → is_hex (48 + d) ≡ true
digit_hex d small = grind (arith, nat_tests)

hex_printable : (b : ℕ) → is_hex b ≡ true → is_printable b ≡ true
hex_printable b hex = grind (arith, nat_tests)

dot_printable : (b : ℕ) → is_dot b ≡ true → is_printable b ≡ true
dot_printable b dot = grind (arith, nat_tests)

-- ---- areas ----

grouped_printable : (place : ℕ) (bs : List ℕ) → grouped_from place bs ≡ true → list_all is_printable bs ≡ true
grouped_printable place [] grouped = refl
grouped_printable place (b ∷ bs) grouped =
    let parts : (is_grouped place b ≡ true) × (grouped_from ((place + 1) % 5) bs ≡ true) =
    and_parts (is_grouped place b) (grouped_from ((place + 1) % 5) bs) grouped in
    and_from (is_printable b) (list_all is_printable bs) (by_place (nat_eq place 0) parts.0) (grouped_printable ((place + 1) % 5) bs parts.1)
  where
    by_place : (t : Bool) → cond t (is_dot b) (is_hex b) ≡ true → is_printable b ≡ true
    by_place true e = dot_printable b e
    by_place false e = hex_printable b e

-- an area address is a word of at least two bytes
pub record AreaWord (area : Word) : Type 0 where
  pub long : 2 ≤ length area
  pub printable : list_all is_printable area ≡ true

pub area_word : (area : Word) → is_area_address area ≡ true → AreaWord area
area_word [] is = absurd cc
area_word (a ∷ []) is = absurd cc
area_word (a ∷ b ∷ groups) is =
    let front : ((is_hex a && is_hex b) ≡ true) × (grouped_from 0 groups ≡ true) = and_parts (is_hex a && is_hex b) (grouped_from 0 groups) is in
    let two : (is_hex a ≡ true) × (is_hex b ≡ true) = and_parts (is_hex a) (is_hex b) front.0 in
    record {
      long = omega arith;
      printable = and_from (is_printable a) (is_printable b && list_all is_printable groups) (hex_printable a two.0)
          (and_from (is_printable b) (list_all is_printable groups) (hex_printable b two.1) (grouped_printable 0 groups front.1));
    }

-- ---- a title ----

-- three groups, of which the last one has these digits
abbrev groups : ℕ → ℕ → ℕ → ℕ → List ℕ
groups a b c d = codes ".0000.0000." ++ (a ∷ b ∷ c ∷ d ∷ [])

four : (p q r s : Bool) → p ≡ true → q ≡ true → r ≡ true → s ≡ true → (p && (q && (r && (s && true)))) ≡ true
four p q r s a b c d = grind arith

groups_good : (a b c d : ℕ) → is_hex a ≡ true → is_hex b ≡ true → is_hex c ≡ true → is_hex d ≡ true →
    grouped_from 0 (groups a b c d) ≡ true
groups_good a b c d ha hb hc hd = four (is_hex a) (is_hex b) (is_hex c) (is_hex d) ha hb hc hd

groups_printable : (a b c d : ℕ) → is_printable a ≡ true → is_printable b ≡ true → is_printable c ≡ true → is_printable d ≡ true →
    list_all is_printable (groups a b c d) ≡ true
groups_printable a b c d ha hb hc hd = four (is_printable a) (is_printable b) (is_printable c) (is_printable d) ha hb hc hd

abbrev number_by : ℕ → ℕ → ℕ → ℕ → ℕ
number_by a b c d = 4096 * a + 256 * b + 16 * c + d

groups_value : (a b c d : ℕ) → system_value (groups a b c d) ≡ number_by (hex_value a) (hex_value b) (hex_value c) (hex_value d)
groups_value a b c d = omega arith

module _ (area : Word) (a b c d : ℕ) (is : is_area_address area ≡ true) (short : length area ≤ 32) (ha : is_hex a ≡ true)
    (hb : is_hex b ≡ true) (hc : is_hex c ≡ true) (hd : is_hex d ≡ true) where
  abbrev ids : List ℕ
  ids = groups a b c d

  abbrev word : Word
  word = (area ++ ids) ++ codes ".00"

  length_front : length (area ++ ids) ≡ length area + 15
  length_front = length-append area ids

  length_word : length word ≡ length area + 18
  length_word = omega (arith, length-append (area ++ ids) (codes ".00"), length_front)

  front_is : front_part word ≡ area ++ ids
  front_is = take_at (area ++ ids) (codes ".00") (length word - 3) (omega (arith, length_word, length_front))

  area_place : length area ≡ length (area ++ ids) - 15
  area_place = omega (arith, length_front)

  area_is : area_part word ≡ area
  area_is = ap (λ f. take (length f - 15) f) front_is ∙ take_at area ids (length (area ++ ids) - 15) area_place

  system_is : system_part word ≡ ids
  system_is = ap (λ f. drop (length f - 15) f) front_is ∙ drop_at area ids (length (area ++ ids) - 15) area_place

  selector_is : drop (length word - 3) word ≡ codes ".00"
  selector_is = drop_at (area ++ ids) (codes ".00") (length word - 3) (omega (arith, length_word, length_front))

  title_good : is_title word ≡ true
  title_good =
      let long : 2 ≤ length area = (area_word area is).long in
      and_from (nat_le 20 (length word) && nat_le (length word) 50 && is_area_address (area_part word) && grouped_from 0 (system_part word))
      (bytes_eq (drop (length word - 3) word) (codes ".00"))
      (and_from (nat_le 20 (length word) && nat_le (length word) 50 && is_area_address (area_part word)) (grouped_from 0 (system_part word))
      (and_from (nat_le 20 (length word) && nat_le (length word) 50) (is_area_address (area_part word))
      (and_from (nat_le 20 (length word)) (nat_le (length word) 50)
      (le-leb 20 (length word) (omega (arith, length_word, long))) (le-leb (length word) 50 (omega (arith, length_word, short))))
      (ap is_area_address area_is ∙ is))
      (ap (grouped_from 0) system_is ∙ groups_good a b c d ha hb hc hd))
      (ap (λ s. bytes_eq s (codes ".00")) selector_is)

  title_reads : title_of word ≡ Some (record { area = area; system = number_by (hex_value a) (hex_value b) (hex_value c) (hex_value d) })
  unfolding title_of
  title_reads = grind (arith, common_steps, area_is, groups_value, system_is, title_good)

-- ---- the title of a router ----

area_short : (area : Word) → is_area area ≡ true → (length area ≤ 32) × (is_area_address area ≡ true)
area_short area is = grind (arith, common_steps, and_parts, leb-true)

abbrev digit : ℕ → ℕ
digit n = 48 + n % 10

title_joined : (area : Word) (number : ℕ) →
    title area
    number ≡ (area ++ groups (digit ((number + 1) / 1000)) (digit ((number + 1) / 100)) (digit ((number + 1) / 10)) (digit (number + 1))) ++ codes ".00"
title_joined area number = ap (λ (w : Word). w ++ codes ".00") (append_assoc area (codes ".0000.0000.") (four_digits (number + 1)))

same_number : (a b c d w x y z : ℕ) → a ≡ w → b ≡ x → c ≡ y → d ≡ z → number_by a b c d ≡ number_by w x y z
same_number a b c d w x y z p q r s = omega arith

pub router_title : (area : Word) (number : ℕ) → is_area area ≡ true →
    title_of (title area number) ≡ Some (record { area = area; system = system_id number })
router_title area number is =
    let n : ℕ = number + 1 in
    let parts = area_short area is in
    let value : number_by (hex_value (digit (n / 1000))) (hex_value (digit (n / 100))) (hex_value (digit (n / 10)))
    (hex_value (digit n)) ≡ system_id number =
    same_number _ _ _ _ (n / 1000 % 10) (n / 100 % 10) (n / 10 % 10) (n % 10)
    (digit_value (n / 1000 % 10) (omega arith)) (digit_value (n / 100 % 10) (omega arith)) (digit_value (n / 10 % 10) (omega arith))
    (digit_value (n % 10) (omega arith)) in
    ap title_of (title_joined area number)
    ∙ title_reads area (digit (n / 1000)) (digit (n / 100)) (digit (n / 10)) (digit n) parts.1 parts.0
    (digit_hex (n / 1000 % 10) (omega arith)) (digit_hex (n / 100 % 10) (omega arith)) (digit_hex (n / 10 % 10) (omega arith))
    (digit_hex (n % 10) (omega arith))
    ∙ ap (λ (v : ℕ). Some (record { area = area; system = v })) value

some_bytes : (word : Word) (k : ℕ) → length word ≡ k + 18 → nat_lt 0 (length word) ≡ true
some_bytes word k long = grind (arith, nat_tests)

pub title_fine : (area : Word) (number : ℕ) → is_area area ≡ true → is_fine (title area number) ≡ true
title_fine area number is =
    let n : ℕ = number + 1 in
    let parts = area_short area is in
    let one : ℕ = digit (n / 1000) in
    let two : ℕ = digit (n / 100) in
    let three : ℕ = digit (n / 10) in
    let last : ℕ = digit n in
    let word : Word = (area ++ groups one two three last) ++ codes ".00" in
    let all : list_all is_printable word ≡ true =
    list_all-append is_printable (area ++ groups one two three last) (codes ".00")
    ∙ and_from (list_all is_printable (area ++ groups one two three last)) true
    (list_all-append is_printable area (groups one two three last)
    ∙ and_from (list_all is_printable area) (list_all is_printable (groups one two three last)) (area_word area parts.1).printable
    (groups_printable one two three last
    (hex_printable one (digit_hex (n / 1000 % 10) (omega arith))) (hex_printable two (digit_hex (n / 100 % 10) (omega arith)))
    (hex_printable three (digit_hex (n / 10 % 10) (omega arith))) (hex_printable last (digit_hex (n % 10) (omega arith))))) refl in
    ap is_fine (title_joined area number)
    ∙ and_from (nat_lt 0 (length word)) (list_all is_printable word)
    (some_bytes word (length area) (length_word area one two three last parts.1 parts.0
    (digit_hex (n / 1000 % 10) (omega arith)) (digit_hex (n / 100 % 10) (omega arith)) (digit_hex (n / 10 % 10) (omega arith))
    (digit_hex (n % 10) (omega arith)))) all
