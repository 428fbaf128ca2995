-- Texts joined end to end, and lines put before an `end` line, are read as the law says.
use Rattle.std.proofs.lemmas.Grind.{common_steps}
use Rattle.std.proofs.Common.{sym, ◌≡◌, ℕ, ◌+◌, ◌-◌, ◌<◌, Bool, true, false, ◌&&◌, ◌||◌, List, [], ◌∷◌, ◌++◌, length, refl, ap, subst, ◌∙◌, map}
use Rattle.std.proofs.Common.{append-nil, arith, bytes_eq, nat_eq}
use Rattle.std.specs.Prelude.{flat_map, codes}
use Rattle.std.specs.List.{list_any}
use Rattle.std.proofs.lemmas.Bool.{or_parts}
use Rattle.std.proofs.lemmas.List.{map-append}
use Rattle.std.proofs.lemmas.List.Concat.{flat_map-append}
use Rattle.net_addr.specs.JoinedLines.{is_of_whole_lines}
use Rattle.net_addr.proofs.JoinedFacts.{is_of_whole_lines-append}
use Rattle.net_model.specs.Configuration.{Configuration}
use Rattle.ios_lines.specs.Words.{Word}
use Rattle.ios_lines.specs.FaultOrder.{faults_if}
use Rattle.ios_lines.specs.declared.fault.Fault.{Fault}
use Rattle.ios_lines.specs.declared.kind.ReadKind.TheVariants.{NoEnd}
use Rattle.ios_sections.specs.TextLines.{TextLine, Part, lines_in, counted_lines, is_end, parts_after, rest_after, parts_of, begins_configuration}
use Rattle.ios_sections.specs.TextLines.{is_empty, lacks_end, opens_banner, carets, first_indent}
use Rattle.ios_sections.specs.Sections.{first_number, from_first, sections_among, sections_from_first, sections_in}
use Rattle.ios_sections.specs.JoinedLines.{further_on, is_in_banner, begins_with_end, open_lines, open_sections, sections_further_on}
use Rattle.ios_sections.specs.declared.section.Section.{Section}
use Rattle.ios_sections.proofs.JoinedFacts.{lines_in-append, counted-append, banner-append, banner-none, counted-no_end, parts-append, rest-append}
use Rattle.ios_sections.proofs.JoinedFacts.{parts-none, rest-none, sections_among-append}
use Rattle.ios_sections.proofs.FurtherFacts.{list_any-map, first-further, counted-further, banner-further, part_further, parts-further, rest-further}
use Rattle.ios_sections.proofs.FirstLines.{from_first-append, first_within}
use Rattle.ios_reader.specs.Faults.{section_faults, part_faults, faults_in}
use Rattle.ios_reader.specs.Configurations.{configurations_in, configuration_of}
use Rattle.ios_reader.specs.Texts.{ReadsText}
use Rattle.ios_reader.specs.InsertedLines.{IsOutsideBanners, IsClosed, IsEndLine, IsLineBlock, grown_sections, IsGrown, IsReadGrown}
use Rattle.ios_reader.proofs.LookedUp.{none_left, none_right}
use Rattle.ios_reader.proofs.FurtherReading.{part_faultless, faultless_further, faultless_back, part-further, HasFirst, has_first}
use Rattle.ios_reader.proofs.RawLines.{end_word, counted_end, part_with, parts_at_end as parts_ended, open_fine}

-- ---- what it takes to be read ----

abbrev made : List Part → List Configuration
made parts = map (λ (part : Part). configuration_of (sections_in part)) parts

-- parts without a fault, at least one, and nothing open behind the last
record AreRead (parts : List Part) (rest : List TextLine) : Type 0 where
  faultless : flat_map part_faults parts ≡ []
  some : is_empty parts ≡ false
  none_open : list_any begins_configuration rest ≡ false

none_if : (t : Bool) (line : ℕ) → faults_if t line NoEnd ≡ [] → t ≡ false
none_if t line e = grind (arith, common_steps)

read_from : (lines : List TextLine) → faults_in lines ≡ [] → AreRead (parts_of lines) (rest_after [] (counted_lines lines))
read_from lines e =
    let lacks : lacks_end lines ≡ false =
    none_if (lacks_end lines) (length lines + 1)
    (none_right (flat_map part_faults (parts_of lines)) (faults_if (lacks_end lines) (length lines + 1) NoEnd) e) in
    let two : (is_empty (parts_of lines) ≡ false) × (list_any begins_configuration (rest_after [] (counted_lines lines)) ≡ false) =
    or_parts (is_empty (parts_of lines)) (list_any begins_configuration (rest_after [] (counted_lines lines))) lacks in
    record {
      faultless = none_left (flat_map part_faults (parts_of lines)) (faults_if (lacks_end lines) (length lines + 1) NoEnd) e;
      some = two.0;
      none_open = two.1;
    }

read_to : (lines : List TextLine) (parts : List Part) (rest : List TextLine) → parts_of lines ≡ parts → rest_after [] (counted_lines lines) ≡ rest →
    AreRead parts rest → faults_in lines ≡ []
read_to lines parts rest p r read =
    let lacks : lacks_end lines ≡ false =
    ap (λ (ps : List Part). is_empty ps || list_any begins_configuration (rest_after [] (counted_lines lines))) p
    ∙ ap (λ (b : Bool). b || list_any begins_configuration (rest_after [] (counted_lines lines))) read.some
    ∙ ap (list_any begins_configuration) r
    ∙ read.none_open in
    ap (λ (b : Bool). flat_map part_faults (parts_of lines) ++ faults_if b (length lines + 1) NoEnd) lacks
    ∙ append-nil (flat_map part_faults (parts_of lines))
    ∙ ap (flat_map part_faults) p
    ∙ read.faultless

-- ---- parts further on ----

made-further : (k : ℕ) (parts : List Part) → made (map (part_further k) parts) ≡ made parts
made-further k [] = refl
made-further k (p ∷ ps) =
    rw (part-further k p, made-further k ps) refl

none_open-further : (k : ℕ) (ls : List TextLine) → list_any begins_configuration (map (further_on k) ls) ≡ list_any begins_configuration ls
none_open-further k ls = list_any-map begins_configuration begins_configuration (further_on k) (λ x. refl) ls

some_joined : (ps qs : List Part) → is_empty ps ≡ false → is_empty (ps ++ qs) ≡ false
some_joined ps qs e = grind (arith, common_steps)

-- ---- joined texts ----

-- the lines of two texts that count
counted_joined : (text other : List ℕ) → IsOutsideBanners text →
    counted_lines (lines_in (text ++ other)) ≡ counted_lines (lines_in text) ++ map (further_on (length (lines_in text))) (counted_lines (lines_in other))
counted_joined text other outside = grind (arith, common_steps, counted-append, counted-further, lines_in-append)

parts_joined : (text other : List ℕ) → IsClosed text →
    parts_of (lines_in (text ++ other)) ≡ parts_of (lines_in text) ++ map (part_further (length (lines_in text))) (parts_of (lines_in other))
parts_joined text other closed =
    rw (
      counted_joined text other closed.outside,
      parts-append [] (counted_lines (lines_in text)) (map (further_on (length (lines_in text))) (counted_lines (lines_in other))),
      closed.none_open,
      parts-further (length (lines_in text)) [] (counted_lines (lines_in other)),
    ) refl

rest_joined : (text other : List ℕ) → IsClosed text →
    rest_after [] (counted_lines (lines_in (text ++ other))) ≡ map (further_on (length (lines_in text))) (rest_after [] (counted_lines (lines_in other)))
rest_joined text other closed =
    rw (
      counted_joined text other closed.outside,
      rest-append [] (counted_lines (lines_in text)) (map (further_on (length (lines_in text))) (counted_lines (lines_in other))),
      closed.none_open,
    ) (rest-further (length (lines_in text)) [] (counted_lines (lines_in other)))

faults_joined : (k : ℕ) (ps qs : List Part) → flat_map part_faults ps ≡ [] → flat_map part_faults qs ≡ [] →
    flat_map part_faults (ps ++ map (part_further k) qs) ≡ []
faults_joined k ps qs p q = grind (arith, common_steps, faultless_further, flat_map-append, part_further)

pub joined_texts : (text other : List ℕ) (configurations others : List Configuration) → IsClosed text → ReadsText text configurations →
    ReadsText other others → ReadsText (text ++ other) (configurations ++ others)
joined_texts text other configurations others closed read read_other =
    let one : AreRead (parts_of (lines_in text)) (rest_after [] (counted_lines (lines_in text))) = read_from (lines_in text) read.faultless in
    let two : AreRead (parts_of (lines_in other)) (rest_after [] (counted_lines (lines_in other))) = read_from (lines_in other) read_other.faultless in
    record {
      faultless =
          read_to (lines_in (text ++ other)) _ _ (parts_joined text other closed) (rest_joined text other closed) (record {
            faultless = faults_joined (length (lines_in text)) (parts_of (lines_in text)) (parts_of (lines_in other)) one.faultless two.faultless;
            some = some_joined (parts_of (lines_in text)) (map (part_further (length (lines_in text))) (parts_of (lines_in other))) one.some;
            none_open = none_open-further (length (lines_in text)) (rest_after [] (counted_lines (lines_in other))) ∙ two.none_open;
          });
      made =
          ap (λ (cs : List Configuration). cs ++ others) read.made
          ∙ ap (λ (cs : List Configuration). made (parts_of (lines_in text)) ++ cs)
          (read_other.made ∙ sym (made-further (length (lines_in text)) (parts_of (lines_in other))))
          ∙ sym (map-append (λ (part : Part). configuration_of (sections_in part)) (parts_of (lines_in text))
          (map (part_further (length (lines_in text))) (parts_of (lines_in other))))
          ∙ ap made (sym (parts_joined text other closed));
    }

-- ---- a text that is read has a configuration ----

some_made : (ps : List Part) → is_empty ps ≡ false → 0 < length (made ps)
some_made ps e = grind (arith, common_steps)

pub some_configuration : (text : List ℕ) (configurations : List Configuration) → ReadsText text configurations → 0 < length configurations
some_configuration text configurations read =
    let some : is_empty (parts_of (lines_in text)) ≡ false = (read_from (lines_in text) read.faultless).some in
    subst (λ (cs : List Configuration). 0 < length cs) (sym read.made) (some_made (parts_of (lines_in text)) some)

-- ---- an `end` line ----

end_opens_none : (line : TextLine) → is_end line ≡ true → opens_banner line ≡ false
end_opens_none line e = ap (λ (w : Word). bytes_eq w (codes "banner") && nat_eq (carets line.bytes) 1) (end_word line e)

-- some lines, of which the first is an `end` line
record EndsFirst (lines : List TextLine) : Type 0 where
  end : TextLine
  behind : List TextLine
  all : lines ≡ end ∷ behind
  ends : is_end end ≡ true

ends_first : (lines : List TextLine) → begins_with_end lines ≡ true → EndsFirst lines
ends_first [] e = absurd cc
ends_first (line ∷ lines) e = record { end = line; behind = lines; all = refl; ends = e }

counted_first : (lines : List TextLine) (first : EndsFirst lines) → counted_lines lines ≡ first.end ∷ counted_lines first.behind
counted_first lines first = ap counted_lines first.all ∙ counted_end first.end first.behind first.ends

-- ---- a text, and behind it one that begins with an `end` line ----

-- how many lines a text has, and those of it that are open
abbrev count_of : List ℕ → ℕ
count_of text = length (lines_in text)

-- the parts behind an `end` line
abbrev parts_behind : List TextLine → List Part
parts_behind behind = parts_after [] (counted_lines behind)

parts_at_end : (text after : List ℕ) → IsOutsideBanners text → (first : EndsFirst (lines_in after)) →
    parts_of (lines_in (text ++ after)) ≡ parts_of (lines_in text) ++ part_with (open_lines text) (count_of text + first.end.number) ∷ map
    (part_further (count_of text)) (parts_behind first.behind)
parts_at_end text after outside first =
    parts_ended text after first.end first.behind outside first.all first.ends
    ∙ ap (λ (ps : List Part). parts_of (lines_in text) ++ part_with (open_lines text) (count_of text + first.end.number) ∷ ps)
    (parts-further (count_of text) [] (counted_lines first.behind))

rest_at_end : (text after : List ℕ) → IsOutsideBanners text → (first : EndsFirst (lines_in after)) →
    rest_after [] (counted_lines (lines_in (text ++ after))) ≡ map (further_on (count_of text)) (rest_after [] (counted_lines first.behind))
rest_at_end text after outside first =
    rw (
      counted_joined text after outside,
      rest-append [] (counted_lines (lines_in text)) (map (further_on (count_of text)) (counted_lines (lines_in after))),
      counted_first (lines_in after) first,
      first.ends,
    ) (rest-further (count_of text) [] (counted_lines first.behind))

-- ---- a text that ends with its last `end` line ----

banner_joined : (text other : List ℕ) → IsOutsideBanners text → is_in_banner (lines_in (text ++ other)) ≡ is_in_banner (lines_in other)
banner_joined text other outside = grind (arith, common_steps, banner-append, banner-further, lines_in-append)

alone : (line : TextLine) (lines : List TextLine) → length (line ∷ lines) ≡ 1 → lines ≡ []
alone line lines e = grind (arith, common_steps)

pub closed_text : (before line : List ℕ) → IsOutsideBanners before → IsEndLine line → IsClosed (before ++ line)
closed_text before line outside last =
    let first : EndsFirst (lines_in line) = ends_first (lines_in line) last.ends in
    let none : first.behind ≡ [] = alone first.end first.behind (sym (ap length first.all) ∙ last.one) in
    let one : lines_in line ≡ first.end ∷ [] = first.all ∙ ap (λ (ls : List TextLine). first.end ∷ ls) none in
    record {
      outside = record {
        whole = is_of_whole_lines-append before line outside.whole last.whole;
        outside = banner_joined before line outside ∙ ap is_in_banner one ∙ end_opens_none first.end first.ends;
      };
      none_open = rest_at_end before line outside first
          ∙ ap (λ (ls : List TextLine). map (further_on (count_of before)) (rest_after [] (counted_lines ls))) none;
    }

-- ---- a block put before an `end` line ----

block_outside : (before block : List ℕ) → IsOutsideBanners before → IsLineBlock block → IsOutsideBanners (before ++ block)
block_outside before block outside fits = grind (arith, common_steps, banner-none, banner_joined, is_of_whole_lines-append)

-- the lines of a block that count, behind a text
abbrev block_lines : List ℕ → List ℕ → List TextLine
block_lines before block = map (further_on (count_of before)) (counted_lines (lines_in block))

no_end_in : (before block : List ℕ) → IsLineBlock block → list_any is_end (block_lines before block) ≡ false
no_end_in before block fits =
    list_any-map is_end is_end (further_on (count_of before)) (λ x. refl) (counted_lines (lines_in block))
    ∙ counted-no_end (lines_in block) fits.no_banner fits.no_end

block_parts : (before block : List ℕ) → IsOutsideBanners before → IsLineBlock block → parts_of (lines_in (before ++ block)) ≡ parts_of (lines_in before)
block_parts before block outside fits =
    ap (parts_after []) (counted_joined before block outside)
    ∙ parts-append [] (counted_lines (lines_in before)) (block_lines before block)
    ∙ ap (λ (ps : List Part). parts_of (lines_in before) ++ ps) (parts-none (open_lines before) (block_lines before block) (no_end_in before block fits))
    ∙ append-nil (parts_of (lines_in before))

block_open : (before block : List ℕ) → IsOutsideBanners before → IsLineBlock block →
    open_lines (before ++ block) ≡ open_lines before ++ block_lines before block
block_open before block outside fits =
    ap (rest_after []) (counted_joined before block outside)
    ∙ rest-append [] (counted_lines (lines_in before)) (block_lines before block)
    ∙ rest-none (open_lines before) (block_lines before block) (no_end_in before block fits)

-- the sections that stand open behind a text and a block
block_sections : (before block : List ℕ) → IsOutsideBanners before → IsLineBlock block → HasFirst (open_lines before) →
    open_sections (before ++ block) ≡ grown_sections before block
block_sections before block outside fits own =
    let more : ℕ = count_of before - first_number (open_lines before) in
    ap sections_from_first (block_open before block outside fits)
    ∙ ap sections_among (from_first-append (count_of before) (open_lines before) (counted_lines (lines_in block)) own.first own.more own.is
    (first_within before))
    ∙ sections_among-append (from_first (open_lines before)) (map (further_on more) (counted_lines (lines_in block)))
    (first-further more (counted_lines (lines_in block)) ∙ fits.opens)
    ∙ ap (λ (ls : List TextLine). open_sections before ++ sections_among ls) (sym (counted-further more (lines_in block)))

pub some_at_end : (ps qs : List Part) (p : Part) → is_empty (ps ++ p ∷ qs) ≡ false
some_at_end [] qs p = refl
some_at_end (q ∷ ps) qs p = refl

faults_at_end : (ps qs : List Part) (p : Part) → flat_map part_faults (ps ++ p ∷ qs) ≡ flat_map part_faults ps ++ (part_faults p ++ flat_map part_faults qs)
faults_at_end ps qs p = flat_map-append part_faults ps (p ∷ qs)

no_faults : (fs gs hs : List Fault) → fs ≡ [] → gs ≡ [] → hs ≡ [] → fs ++ (gs ++ hs) ≡ []
no_faults fs gs hs p q r = grind (arith, common_steps)

made_at_end : (ps qs : List Part) (p : Part) (k : ℕ) → made (ps ++ p ∷ map (part_further k) qs) ≡ made ps ++ configuration_of (sections_in p) ∷ made qs
made_at_end ps qs p k = grind (arith, common_steps, made-further, map-append, part_further)

-- the part that an `end` line behind a text ends
abbrev part_ended : List ℕ → TextLine → Part
part_ended text end = part_with (open_lines text) (count_of text + end.number)

-- what holds of a text that is read, with an `end` line behind its first part
record IsReadAround (before : List ℕ) (behind : List TextLine) (configurations : List Configuration) : Type 0 where
  first : flat_map part_faults (parts_of (lines_in before)) ≡ []
  last : flat_map part_faults (parts_behind behind) ≡ []
  none_open : list_any begins_configuration (rest_after [] (counted_lines behind)) ≡ false
  was : configurations ≡ configurations_in (lines_in before) ++ configuration_of (open_sections before) ∷ made (parts_behind behind)

read_around : (before after : List ℕ) (configurations : List Configuration) → IsOutsideBanners before → (first : EndsFirst (lines_in after)) →
    ReadsText (before ++ after) configurations → IsReadAround before first.behind configurations
read_around before after configurations outside first reads =
    let read : AreRead (parts_of (lines_in (before ++ after))) (rest_after [] (counted_lines (lines_in (before ++ after)))) =
    read_from (lines_in (before ++ after)) reads.faultless in
    let faults : flat_map part_faults (parts_of (lines_in before)) ++
    (part_faults (part_ended before first.end) ++ flat_map part_faults (map (part_further (count_of before)) (parts_behind first.behind))) ≡ [] =
    sym (faults_at_end (parts_of (lines_in before)) (map (part_further (count_of before)) (parts_behind first.behind)) (part_ended before first.end))
    ∙ sym (ap (flat_map part_faults) (parts_at_end before after outside first))
    ∙ read.faultless in
    record {
      first = none_left (flat_map part_faults (parts_of (lines_in before)))
          (part_faults (part_ended before first.end) ++ flat_map part_faults (map (part_further (count_of before)) (parts_behind first.behind))) faults;
      last =
          faultless_back (count_of before) (parts_behind first.behind)
          (none_right (part_faults (part_ended before first.end)) (flat_map part_faults (map (part_further (count_of before)) (parts_behind first.behind)))
          (none_right (flat_map part_faults (parts_of (lines_in before)))
          (part_faults (part_ended before first.end) ++ flat_map part_faults (map (part_further (count_of before)) (parts_behind first.behind))) faults));
      none_open =
          sym (none_open-further (count_of before) (rest_after [] (counted_lines first.behind)))
          ∙ sym (ap (list_any begins_configuration) (rest_at_end before after outside first))
          ∙ read.none_open;
      was =
          reads.made ∙ ap made (parts_at_end before after outside first)
          ∙ made_at_end (parts_of (lines_in before)) (parts_behind first.behind) (part_ended before first.end) (count_of before);
    }

reads_around : (text after : List ℕ) (configurations : List Configuration) → IsOutsideBanners text → (first : EndsFirst (lines_in after)) →
    part_faults (part_ended text first.end) ≡ [] → IsReadAround text first.behind configurations → ReadsText (text ++ after) configurations
reads_around text after configurations outside first faultless around = record {
  faultless =
      read_to (lines_in (text ++ after)) _ _ (parts_at_end text after outside first) (rest_at_end text after outside first) (record {
        faultless =
            faults_at_end (parts_of (lines_in text)) (map (part_further (count_of text)) (parts_behind first.behind)) (part_ended text first.end)
            ∙ no_faults (flat_map part_faults (parts_of (lines_in text))) (part_faults (part_ended text first.end))
            (flat_map part_faults (map (part_further (count_of text)) (parts_behind first.behind)))
            around.first faultless (faultless_further (count_of text) (parts_behind first.behind) around.last);
        some = some_at_end (parts_of (lines_in text)) (map (part_further (count_of text)) (parts_behind first.behind)) (part_ended text first.end);
        none_open = none_open-further (count_of text) (rest_after [] (counted_lines first.behind)) ∙ around.none_open;
      });
  made =
      around.was
      ∙ sym (made_at_end (parts_of (lines_in text)) (parts_behind first.behind) (part_ended text first.end) (count_of text))
      ∙ ap made (sym (parts_at_end text after outside first));
}

pub inserted_lines : (before block after : List ℕ) (configurations : List Configuration) (grown : Configuration) →
    IsOutsideBanners before → IsLineBlock block → begins_with_end (lines_in after) ≡ true →
    ReadsText (before ++ after) configurations → IsGrown before block grown → IsReadGrown before (before ++ block ++ after) configurations grown
inserted_lines before block after configurations grown outside fits ends reads grows =
    let first : EndsFirst (lines_in after) = ends_first (lines_in after) ends in
    let around : IsReadAround before first.behind configurations = read_around before after configurations outside first reads in
    let wider : IsOutsideBanners (before ++ block) = block_outside before block outside fits in
    let same_parts : parts_of (lines_in (before ++ block)) ≡ parts_of (lines_in before) = block_parts before block outside fits in
    let fine : section_faults (open_sections before) (count_of before + first.end.number) ≡ [] =
    open_fine before after first.end first.behind configurations outside first.all first.ends reads in
    let own : HasFirst (open_lines before) = has_first (open_lines before) (count_of before + first.end.number) fine in
    let same_sections : open_sections (before ++ block) ≡ grown_sections before block = block_sections before block outside fits own in
    let faultless : part_faults (part_ended (before ++ block) first.end) ≡ [] =
    part_faultless (part_ended (before ++ block) first.end) grows.ends
    (ap (λ (ss : List Section). section_faults ss grows.ends) same_sections ∙ grows.faultless) in
    record {
      last = made (parts_behind first.behind);
      was = around.was;
      reads =
          reads_around (before ++ block) after (configurations_in (lines_in before) ++ grown ∷ made (parts_behind first.behind)) wider first faultless
          (record {
            first = ap (flat_map part_faults) same_parts ∙ around.first;
            last = around.last;
            none_open = around.none_open;
            was =
                ap (λ (c : Configuration). configurations_in (lines_in before) ++ c ∷ made (parts_behind first.behind))
                (grows.made ∙ ap configuration_of (sym same_sections))
                ∙ ap (λ (ps : List Part). made ps ++ configuration_of (open_sections (before ++ block)) ∷ made (parts_behind first.behind)) (sym same_parts);
          });
    }

-- ---- blocks joined end to end ----

first_joined : (xs ys : List TextLine) → first_indent xs ≡ 0 → first_indent ys ≡ 0 → first_indent (xs ++ ys) ≡ 0
first_joined xs ys one two = grind (arith, common_steps)

none_joined : (p : TextLine → Bool) (xs ys : List TextLine) → list_any p xs ≡ false → list_any p ys ≡ false → list_any p (xs ++ ys) ≡ false
none_joined p [] ys one two = two
none_joined p (x ∷ xs) ys one two =
    let parts : (p x ≡ false) × (list_any p xs ≡ false) = or_parts (p x) (list_any p xs) one in
    ap (λ (b : Bool). b || list_any p (xs ++ ys)) parts.0 ∙ none_joined p xs ys parts.1 two

none_in_joined : (p : TextLine → Bool) (one other : List ℕ) → ((k : ℕ) (line : TextLine) → p (further_on k line) ≡ p line) → is_of_whole_lines one ≡ true →
    list_any p (lines_in one) ≡ false → list_any p (lines_in other) ≡ false → list_any p (lines_in (one ++ other)) ≡ false
none_in_joined p one other same whole first second =
    grind (arith, common_steps, first, lines_in-append, list_any-map, none_joined)

block_alone : (block : List ℕ) → IsLineBlock block → IsOutsideBanners block
block_alone block fits = record { whole = fits.whole; outside = banner-none (lines_in block) fits.no_banner }

pub joined_blocks : (one other : List ℕ) → IsLineBlock one → IsLineBlock other → IsLineBlock (one ++ other)
joined_blocks one other first second =
    grind (arith, common_steps, block_alone, counted_joined, first, first-further, first_joined, is_of_whole_lines-append, none_in_joined)

-- a line with another number
abbrev line_at : ℕ → TextLine → TextLine
line_at number line = record { number = number; indent = line.indent; bytes = line.bytes; words = line.words }

twice_further : (k n : ℕ) (ls : List TextLine) → map (further_on k) (map (further_on n) ls) ≡ map (further_on (k + n)) ls
twice_further k n [] = refl
twice_further k n (l ∷ ls) =
    let number : k + (n + l.number) ≡ k + n + l.number = omega arith in
    ap (λ (m : ℕ). line_at m l ∷ map (further_on k) (map (further_on n) ls)) number
    ∙ ap (λ (ms : List TextLine). further_on (k + n) l ∷ ms) (twice_further k n ls)

-- the sections of two blocks, one behind the other
pub block_by_block : (count : ℕ) (one other : List ℕ) → IsLineBlock one → IsLineBlock other →
    sections_further_on count (one ++ other) ≡ sections_further_on count one ++ sections_further_on (count + length (lines_in one)) other
block_by_block count one other first second =
    grind (arith, common_steps, block_alone, counted-further, counted_joined, first, first-further, map-append, sections_among-append, twice_further)
