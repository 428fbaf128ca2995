-- A title by its parts: groups of a dot and four hexadecimal digits.
use Rattle.std.proofs.lemmas.Grind.{common_steps}
use Rattle.std.proofs.Common.{◌≡◌, ℕ, ◌+◌, ◌-◌, ◌*◌, ◌≤◌, Bool, true, false, ◌&&◌, List, [], ◌∷◌, ◌++◌, length, take, drop, Some, None, All}
use Rattle.std.proofs.Common.{cond, refl, sym, ap, subst, ◌∙◌, arith, codes, bytes_eq, nat_le, flat_map, length-append, length-drop, length-take}
use Rattle.std.specs.List.{list_all}
use Rattle.std.proofs.lemmas.Bool.{and_parts, and_from, leb-true, le-leb, eqb-true}
use Rattle.std.proofs.lemmas.List.{take_at, drop_at, take-append-drop}
use Rattle.std.proofs.lemmas.List.Elements.{All-cons, All-head, All-nil, All-tail}
use Rattle.std.proofs.lemmas.Slice.Eq.{bytes_eq-Decides}
use Rattle.ios_lines.specs.Words.{Word, is_dot}
use Rattle.ios_lines.specs.IsisLines.{is_hex, grouped_from, is_area_address, front_part, system_part, area_part}
use Rattle.ios_lines.specs.IsisLines.{system_value, is_title, title_of}
use Rattle.ios_lines.specs.TitleLaws.{IsTitleGroup, AreTitleGroups, IsTitleArea, IsTitleWord, TitleWordLaw}
use Rattle.ios_lines.specs.declared.title.Title.{Title}

abbrev flat : List Word → Word
flat groups = flat_map (λ (group : Word). group) groups

-- ---- groups ----

no_more : (t : Bool) → (t && false) ≡ true → ⊥
no_more t e = grind (arith, common_steps)

-- groups are as many as they are, with five bytes each
pub groups_there : (bytes : List ℕ) → grouped_from 0 bytes ≡ true → (count : ℕ) × AreTitleGroups bytes count
groups_there [] e = (0, record { groups = []; each = All-nil IsTitleGroup; count_is = refl; joined = refl })
groups_there (a ∷ []) e = absurd (no_more (is_dot a) e)
groups_there (a ∷ b ∷ []) e = absurd (no_more (is_hex b) (and_parts (is_dot a) (is_hex b && false) e).1)
groups_there (a ∷ b ∷ c ∷ []) e =
    absurd (no_more (is_hex c) (and_parts (is_hex b) (is_hex c && false) (and_parts (is_dot a) (is_hex b && (is_hex c && false)) e).1).1)
groups_there (a ∷ b ∷ c ∷ d ∷ []) e =
    absurd (no_more (is_hex d) (and_parts (is_hex c) (is_hex d && false) (and_parts (is_hex b) (is_hex c && (is_hex d && false))
    (and_parts (is_dot a) (is_hex b && (is_hex c && (is_hex d && false))) e).1).1).1)
groups_there (a ∷ b ∷ c ∷ d ∷ x ∷ bytes) e =
    let rest : Bool = grouped_from 0 bytes in
    let one = and_parts (is_dot a) (is_hex b && (is_hex c && (is_hex d && (is_hex x && grouped_from 0 bytes)))) e in
    let two = and_parts (is_hex b) (is_hex c && (is_hex d && (is_hex x && grouped_from 0 bytes))) one.1 in
    let three = and_parts (is_hex c) (is_hex d && (is_hex x && grouped_from 0 bytes)) two.1 in
    let four = and_parts (is_hex d) (is_hex x && grouped_from 0 bytes) three.1 in
    let five = and_parts (is_hex x) (grouped_from 0 bytes) four.1 in
    let more = groups_there bytes five.1 in
    let digits : Word = b ∷ c ∷ d ∷ x ∷ [] in
    let dot : a ≡ 46 = eqb-true a 46 one.0 in (
      more.0 + 1,
      record {
        groups = (a ∷ b ∷ c ∷ d ∷ x ∷ []) ∷ more.1.groups;
        each = All-cons IsTitleGroup (a ∷ b ∷ c ∷ d ∷ x ∷ []) more.1.groups
            (record {
              digits = b ∷ c ∷ d ∷ x ∷ [];
              dotted = ap (λ (n : ℕ). n ∷ b ∷ c ∷ d ∷ x ∷ []) dot;
              four = refl;
              hex = and_from (is_hex b) (is_hex c && (is_hex d && (is_hex x && true))) two.0
                  (and_from (is_hex c) (is_hex d && (is_hex x && true)) three.0
                  (and_from (is_hex d) (is_hex x && true) four.0 (and_from (is_hex x) true five.0 refl)));
            })
            more.1.each;
        count_is = omega (arith, more.1.count_is);
        joined = ap (λ (w : Word). a ∷ b ∷ c ∷ d ∷ x ∷ w) more.1.joined;
      },
    )

digits_good : (digits rest : Word) → length digits ≡ 4 → list_all is_hex digits ≡ true → grouped_from 0 rest ≡ true →
    grouped_from 0 (46 ∷ digits ++ rest) ≡ true
digits_good [] rest four hex more = absurd cc
digits_good (a ∷ []) rest four hex more = absurd cc
digits_good (a ∷ b ∷ []) rest four hex more = absurd cc
digits_good (a ∷ b ∷ c ∷ []) rest four hex more = absurd cc
digits_good (a ∷ b ∷ c ∷ d ∷ []) rest four hex more =
    let one = and_parts (is_hex a) (is_hex b && (is_hex c && (is_hex d && true))) hex in
    let two = and_parts (is_hex b) (is_hex c && (is_hex d && true)) one.1 in
    let three = and_parts (is_hex c) (is_hex d && true) two.1 in
    let last = and_parts (is_hex d) true three.1 in
    and_from (is_hex a) (is_hex b && (is_hex c && (is_hex d && grouped_from 0 rest))) one.0
    (and_from (is_hex b) (is_hex c && (is_hex d && grouped_from 0 rest)) two.0
    (and_from (is_hex c) (is_hex d && grouped_from 0 rest) three.0 (and_from (is_hex d) (grouped_from 0 rest) last.0 more)))
digits_good (a ∷ b ∷ c ∷ d ∷ x ∷ more) rest four hex tail = absurd (omega (arith, four))

group_good : (group rest : Word) → IsTitleGroup group → grouped_from 0 rest ≡ true → grouped_from 0 (group ++ rest) ≡ true
group_good group rest h more = ap (λ (w : Word). grouped_from 0 (w ++ rest)) h.dotted ∙ digits_good h.digits rest h.four h.hex more

flat_good : (groups : List Word) → All IsTitleGroup groups → grouped_from 0 (flat groups) ≡ true
flat_good [] each = refl
flat_good (group ∷ groups) each =
    group_good group (flat groups) (All-head IsTitleGroup group groups each) (flat_good groups (All-tail IsTitleGroup group groups each))

pub groups_good : (bytes : Word) (count : ℕ) → AreTitleGroups bytes count → grouped_from 0 bytes ≡ true
groups_good bytes count h = ap (grouped_from 0) h.joined ∙ flat_good h.groups h.each

flat_length : (groups : List Word) → All IsTitleGroup groups → length (flat groups) ≡ 5 * length groups
flat_length [] each = refl
flat_length (group ∷ groups) each =
    let own = All-head IsTitleGroup group groups each in
    omega (arith, length-append group (flat groups), ap length own.dotted, own.four, flat_length groups (All-tail IsTitleGroup group groups each))

pub groups_length : (bytes : Word) (count : ℕ) → AreTitleGroups bytes count → length bytes ≡ 5 * count
groups_length bytes count h = omega (arith, ap length h.joined, flat_length h.groups h.each, h.count_is)

-- ---- an area address ----

area_there : (area : Word) → is_area_address area ≡ true → length area ≤ 32 → IsTitleArea area
area_there [] e short = absurd cc
area_there (a ∷ []) e short = absurd cc
area_there (a ∷ b ∷ groups) e short =
    let two = and_parts (is_hex a && is_hex b) (grouped_from 0 groups) e in
    let hex = and_parts (is_hex a) (is_hex b) two.0 in
    let there = groups_there groups two.1 in
    record {
      first = a;
      second = b;
      groups = groups;
      count = there.0;
      joined = refl;
      first_hex = hex.0;
      second_hex = hex.1;
      grouped = there.1;
      most = omega (arith, groups_length groups there.0 there.1, short);
    }

area_good : (area : Word) → IsTitleArea area → is_area_address area ≡ true
area_good area h =
    ap is_area_address h.joined
    ∙ and_from (is_hex h.first && is_hex h.second) (grouped_from 0 h.groups) (and_from (is_hex h.first) (is_hex h.second) h.first_hex h.second_hex)
    (groups_good h.groups h.count h.grouped)

area_length : (area : Word) → IsTitleArea area → (2 ≤ length area) × (length area ≤ 32)
area_length area h =
    let long = ap length h.joined in
    let five = groups_length h.groups h.count h.grouped in
    (omega (arith, long, five, h.most), omega (arith, long, five, h.most))

-- ---- a title ----

abbrev titled_by : Word → ℕ → Title
titled_by area system = record { area = area; system = system }

abbrev title_with : Word → Title
title_with word = titled_by (area_part word) (system_value (system_part word))

chosen : (t : Bool) (made title : Title) → cond t (Some made) None ≡ Some title → (t ≡ true) × (made ≡ title)
chosen t made title e = grind (arith, common_steps)

module _ (word : Word) (good : is_title word ≡ true) where
  abbrev low : Bool
  low = nat_le 20 (length word)

  abbrev high : Bool
  high = nat_le (length word) 50

  abbrev area : Bool
  area = is_area_address (area_part word)

  abbrev system : Bool
  system = grouped_from 0 (system_part word)

  all_parts : (((low && high && area && system) ≡ true) × (bytes_eq (drop (length word - 3) word) (codes ".00") ≡ true))
  all_parts = and_parts (low && high && area && system) (bytes_eq (drop (length word - 3) word) (codes ".00")) good

  four_parts : ((low && high && area) ≡ true) × (system ≡ true)
  four_parts = and_parts (low && high && area) system all_parts.0

  three_parts : ((low && high) ≡ true) × (area ≡ true)
  three_parts = and_parts (low && high) area four_parts.0

  bounds : (20 ≤ length word) × (length word ≤ 50)
  bounds = grind (arith, common_steps, and_parts, leb-true, three_parts)

  front_length : length (front_part word) ≡ length word - 3
  front_length = omega (arith, length-take (length word - 3) word)

  system_length : length (system_part word) ≡ 15
  system_length = omega (arith, length-drop (length (front_part word) - 15) (front_part word), front_length, bounds.0)

  area_short : length (area_part word) ≤ 32
  area_short = omega (arith, length-take (length (front_part word) - 15) (front_part word), front_length, bounds.0, bounds.1)

  word_parts : IsTitleWord word (title_with word)
  word_parts =
      let there = groups_there (system_part word) four_parts.1 in
      let three : there.0 ≡ 3 = omega (arith, groups_length (system_part word) there.0 there.1, system_length) in
      record {
        system = system_part word;
        joined =
            sym (ap (λ (w : Word). w ++ codes ".00") (take-append-drop (length (front_part word) - 15) (front_part word))
            ∙ ap (λ (w : Word). front_part word ++ w) (sym ((bytes_eq-Decides (drop (length word - 3) word) (codes ".00")).0 all_parts.1))
            ∙ take-append-drop (length word - 3) word);
        area = area_there (area_part word) three_parts.1 area_short;
        grouped = record { groups = there.1.groups; each = there.1.each; count_is = there.1.count_is ∙ three; joined = there.1.joined };
        value = refl;
      }

module _ (word : Word) (title : Title) (is : IsTitleWord word title) where
  fifteen : length is.system ≡ 15
  fifteen = groups_length is.system 3 is.grouped

  length_front : length (title.area ++ is.system) ≡ length title.area + 15
  length_front = omega (arith, length-append title.area is.system, fifteen)

  length_word : length word ≡ length title.area + 18
  length_word = omega (arith, ap length is.joined, length-append (title.area ++ is.system) (codes ".00"), length_front)

  front_is : front_part word ≡ title.area ++ is.system
  front_is = grind (arith, common_steps, length_front, length_word, take_at)

  place_is : length title.area ≡ length (title.area ++ is.system) - 15
  place_is = omega (arith, length_front)

  area_is : area_part word ≡ title.area
  area_is = ap (λ (f : Word). take (length f - 15) f) front_is ∙ take_at title.area is.system (length (title.area ++ is.system) - 15) place_is

  system_is : system_part word ≡ is.system
  system_is = ap (λ (f : Word). drop (length f - 15) f) front_is ∙ drop_at title.area is.system (length (title.area ++ is.system) - 15) place_is

  selector_is : drop (length word - 3) word ≡ codes ".00"
  selector_is = grind (arith, common_steps, drop_at, length_front, length_word)

  is_good : is_title word ≡ true
  is_good =
      let sizes = area_length title.area is.area in
      and_from (nat_le 20 (length word) && nat_le (length word) 50 && is_area_address (area_part word) && grouped_from 0 (system_part word))
      (bytes_eq (drop (length word - 3) word) (codes ".00"))
      (and_from (nat_le 20 (length word) && nat_le (length word) 50 && is_area_address (area_part word)) (grouped_from 0 (system_part word))
      (and_from (nat_le 20 (length word) && nat_le (length word) 50) (is_area_address (area_part word))
      (and_from (nat_le 20 (length word)) (nat_le (length word) 50)
      (le-leb 20 (length word) (omega (arith, length_word, sizes.0))) (le-leb (length word) 50 (omega (arith, length_word, sizes.1))))
      (ap is_area_address area_is ∙ area_good title.area is.area))
      (ap (grouped_from 0) system_is ∙ groups_good is.system 3 is.grouped))
      ((bytes_eq-Decides (drop (length word - 3) word) (codes ".00")).1 selector_is)

  title_is : title_with word ≡ title
  title_is = grind (arith, common_steps, area_is, system_is)

pub title_word : TitleWordLaw
unfolding title_of
title_word word title = (
  λ (e : title_of word ≡ Some title).
      let made = chosen (is_title word) (title_with word) title e in
      subst (IsTitleWord word) made.1 (word_parts word made.0),
  λ (is : IsTitleWord word title).
      ap (λ (b : Bool). cond b (Some (title_with word)) None) (is_good word title is) ∙ ap Some (title_is word title is),
)
