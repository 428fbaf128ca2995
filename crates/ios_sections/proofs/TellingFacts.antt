-- Lines that tell nothing may be left out: the parts of a text are the same, and what their sections say.
use Rattle.std.proofs.lemmas.Grind.{common_steps}
use Rattle.std.proofs.Common.{◌≡◌, ℕ, Bool, true, false, not, cond, ◌&&◌, ◌||◌, List, [], ◌∷◌, ◌++◌, Option, None, Result}
use Rattle.std.proofs.Common.{map, filter, fold, filter_map, codes, bytes_eq, nat_eq, refl, sym, ap, ◌∙◌, arith}
use Rattle.std.specs.List.{list_any, before_first}
use Rattle.std.proofs.lemmas.Bool.{and_parts, or_parts, or_from}
use Rattle.std.proofs.lemmas.Grind.{fold-append}
use Rattle.std.proofs.lemmas.List.Elements.{filter-append}
use Rattle.std.proofs.lemmas.Slice.Eq.{bytes_eq-Decides}
use Rattle.ios_lines.specs.Words.{Word, word_at, says, begins_with_two}
use Rattle.ios_lines.specs.Heads.{hostname_of, head_of}
use Rattle.ios_lines.specs.Lookups.{last_of}
use Rattle.ios_lines.specs.declared.kind.ReadKind.{ReadKind}
use Rattle.ios_lines.specs.declared.kind.ReadKind.TheVariants.{Unsupported}
use Rattle.ios_lines.specs.declared.head.Head.{Head}
use Rattle.ios_lines.specs.declared.head.Head.TheVariants.{Hostname as NameHead, Faulty as FaultyHead, Other as OtherHead}
use Rattle.ios_sections.specs.TextLines.{TextLine, TextSection, Part, is_end, is_empty}
use Rattle.ios_sections.specs.TextLines.{parts_after, rest_after, begins_configuration, opens_section, first_indent, section_lines, sections_of}
use Rattle.ios_sections.specs.TellingLines.{has_lines, may_tell, line_tells, open_after, telling_lines, told_from}
use Rattle.ios_sections.specs.steps.ToldLines.{told_at, place_after}
use Rattle.ios_sections.specs.Sections.{section_with, section_of, sections_among, sections_in, counted_from, own_lines, head_number, first_number, from_first}
use Rattle.ios_sections.specs.Processes.{as_hostname}
use Rattle.ios_sections.specs.Statements.{statements_of}
use Rattle.ios_sections.specs.declared.told_lines.TextPlace.{TextPlace}
use Rattle.ios_sections.proofs.PlaceFacts.{at_head, at_line}
use Rattle.ios_sections.specs.declared.section.Section.{Section}
use Rattle.ios_sections.specs.declared.section.Section.TheVariants.{Other}

-- ---- one more line ----

one_choice : (t : Bool) (x : TextLine) (xs ys : List TextLine) → cond t (x ∷ (xs ++ ys)) (xs ++ ys) ≡ cond t (x ∷ xs) xs ++ ys
one_choice t x xs ys = grind (arith, common_steps)

telling-append : (below : Bool) (xs ys : List TextLine) →
    telling_lines below (xs ++ ys) ≡ telling_lines below xs ++ telling_lines (fold open_after below xs) ys
telling-append below [] ys = refl
telling-append below (x ∷ xs) ys =
    ap (λ (ls : List TextLine). cond (line_tells below x) (x ∷ ls) ls) (telling-append (open_after below x) xs ys)
    ∙ one_choice (line_tells below x) x (telling_lines (open_after below x) xs) (telling_lines (fold open_after (open_after below x) xs) ys)

-- the lines from a place on, by the first one of them
pub told_next : (place : TextPlace) (x : TextLine) (xs : List TextLine) → told_from place (x ∷ xs) ≡ told_at place x ++ told_from (place_after place x) xs
told_next place x xs = grind (arith, common_steps, filter-append, telling-append)

-- ---- what an `end` line and other lines tell ----

other_text : (word one other : Word) → bytes_eq word one ≡ true → bytes_eq one other ≡ false → bytes_eq word other ≡ false
other_text word one other is apart = ap (λ (w : Word). bytes_eq w other) ((bytes_eq-Decides word one).0 is) ∙ apart

or_second : (t u : Bool) → u ≡ true → (t || u) ≡ true
or_second t u e = grind (arith, common_steps)

module _ (x : TextLine) (ends : is_end x ≡ true) where
  at_zero : (nat_eq x.indent 0 ≡ true) × (says x.words 0 (codes "end") ≡ true)
  at_zero = grind (arith, common_steps, and_parts)

  end_tells : (below : Bool) → line_tells below x ≡ true
  end_tells below = grind (arith, common_steps, at_zero, or_second)

  end_closes : (below : Bool) → open_after below x ≡ false
  end_closes below = grind (arith, common_steps, at_zero, or_from, other_text)

-- what the first word isn't, of a line at indent 0 that may tell nothing
record TellsNothing (x : TextLine) : Type 0 where
  pub no_lines : has_lines x ≡ false
  pub no_interface : says x.words 0 (codes "interface") ≡ false
  pub no_router : says x.words 0 (codes "router") ≡ false
  pub no_hostname : says x.words 0 (codes "hostname") ≡ false
  pub no_route : says x.words 0 (codes "ip") ≡ false

tells_nothing : (x : TextLine) → may_tell x ≡ false → TellsNothing x
tells_nothing x e =
    let four = or_parts (has_lines x || says x.words 0 (codes "hostname") || says x.words 0 (codes "ip")) (says x.words 0 (codes "end")) e in
    let three = or_parts (has_lines x || says x.words 0 (codes "hostname")) (says x.words 0 (codes "ip")) four.0 in
    let two = or_parts (has_lines x) (says x.words 0 (codes "hostname")) three.0 in
    let lines = or_parts (says x.words 0 (codes "interface")) (says x.words 0 (codes "router")) two.0 in
    record { no_lines = two.0; no_interface = lines.0; no_router = lines.1; no_hostname = two.1; no_route = three.1 }

-- ---- the parts ----

-- a part, without the lines that tell nothing
abbrev pub told_part : Part → Part
told_part part = record { lines = telling_lines false part.lines; ends = part.ends }

-- the lines of a part so far, and how they go on
abbrev told : List TextLine → List TextLine
told before = telling_lines false before

abbrev going_on : List TextLine → Bool
going_on before = fold open_after false before

told-push : (before : List TextLine) (x : TextLine) → told (before ++ x ∷ []) ≡ told before ++ cond (line_tells (going_on before) x) (x ∷ []) []
told-push before x = telling-append false before (x ∷ [])

going_on-push : (before : List TextLine) (x : TextLine) → going_on (before ++ x ∷ []) ≡ open_after (going_on before) x
going_on-push before x = fold-append open_after false before (x ∷ [])

-- a function of the lines so far and of those that follow, at a line that isn't an `end` line
module _ {A : Type 0} (f : List TextLine → List TextLine → A) (before xs : List TextLine) (x : TextLine)
    (on : (ls : List TextLine) → f (told before) (x ∷ ls) ≡ f (told before ++ x ∷ []) ls) where
  goes_on : (t : Bool) → line_tells (going_on before) x ≡ t →
      f (told before) (cond t (x ∷ telling_lines (open_after (going_on before) x) xs) (telling_lines (open_after (going_on before) x) xs))
      ≡ f (told (before ++ x ∷ [])) (telling_lines (going_on (before ++ x ∷ [])) xs)
  goes_on t e = grind (arith, common_steps, going_on-push, told-push)

-- the lines from an `end` line on
told_at_end : (before xs : List TextLine) (x : TextLine) → is_end x ≡ true → telling_lines (going_on before) (x ∷ xs) ≡ x ∷ telling_lines false xs
told_at_end before xs x ends = grind (arith, common_steps, end_closes, end_tells)

abbrev part_with : List TextLine → ℕ → Part
part_with lines ends = record { lines = lines; ends = ends }

-- the parts are the same, without the lines that tell nothing
pub parts_told : (before xs : List TextLine) → parts_after (told before) (telling_lines (going_on before) xs) ≡ map told_part (parts_after before xs)
parts_told before [] = refl
parts_told before (x ∷ xs) = by_end (is_end x) refl (parts_told [] xs) (parts_told (before ++ x ∷ []) xs)
  where
    by_end : (t : Bool) → is_end x ≡ t → parts_after [] (telling_lines false xs) ≡ map told_part (parts_after [] xs) →
        parts_after (told (before ++ x ∷ [])) (telling_lines (going_on (before ++ x ∷ [])) xs) ≡ map told_part (parts_after (before ++ x ∷ []) xs) →
        parts_after (told before) (telling_lines (going_on before) (x ∷ xs)) ≡ map told_part (parts_after before (x ∷ xs))
    by_end true e anew on =
        ap (parts_after (told before)) (told_at_end before xs x e)
        ∙ ap (λ (b : Bool). cond b (part_with (told before) x.number ∷ parts_after [] (telling_lines false xs))
        (parts_after (told before ++ x ∷ []) (telling_lines false xs))) e
        ∙ ap (λ (ps : List Part). part_with (told before) x.number ∷ ps) anew
        ∙ sym (ap (λ (b : Bool). map told_part (cond b (part_with before x.number ∷ parts_after [] xs) (parts_after (before ++ x ∷ []) xs))) e)
    by_end false e anew on =
        goes_on parts_after before xs x
        (λ ls. ap (λ (b : Bool). cond b (part_with (told before) x.number ∷ parts_after [] ls) (parts_after (told before ++ x ∷ []) ls)) e)
        (line_tells (going_on before) x) refl
        ∙ on
        ∙ sym (ap (λ (b : Bool). map told_part (cond b (part_with before x.number ∷ parts_after [] xs) (parts_after (before ++ x ∷ []) xs))) e)

-- so is what stands behind the last `end` line
pub rest_told : (before xs : List TextLine) → rest_after (told before) (telling_lines (going_on before) xs) ≡ told (rest_after before xs)
rest_told before [] = refl
rest_told before (x ∷ xs) = by_end (is_end x) refl (rest_told [] xs) (rest_told (before ++ x ∷ []) xs)
  where
    by_end : (t : Bool) → is_end x ≡ t → rest_after [] (telling_lines false xs) ≡ told (rest_after [] xs) →
        rest_after (told (before ++ x ∷ [])) (telling_lines (going_on (before ++ x ∷ [])) xs) ≡ told (rest_after (before ++ x ∷ []) xs) →
        rest_after (told before) (telling_lines (going_on before) (x ∷ xs)) ≡ told (rest_after before (x ∷ xs))
    by_end true e anew on =
        ap (rest_after (told before)) (told_at_end before xs x e)
        ∙ ap (λ (b : Bool). cond b (rest_after [] (telling_lines false xs)) (rest_after (told before ++ x ∷ []) (telling_lines false xs))) e
        ∙ anew
        ∙ sym (ap (λ (b : Bool). told (cond b (rest_after [] xs) (rest_after (before ++ x ∷ []) xs))) e)
    by_end false e anew on =
        goes_on rest_after before xs x
        (λ ls. ap (λ (b : Bool). cond b (rest_after [] ls) (rest_after (told before ++ x ∷ []) ls)) e)
        (line_tells (going_on before) x) refl
        ∙ on
        ∙ sym (ap (λ (b : Bool). told (cond b (rest_after [] xs) (rest_after (before ++ x ∷ []) xs))) e)

-- a line that tells nothing begins no configuration
begins_nothing : (below : Bool) (x : TextLine) → line_tells below x ≡ false → begins_configuration x ≡ false
begins_nothing below x e = by_indent (opens_section x) refl
  where
    by_indent : (t : Bool) → opens_section x ≡ t → begins_configuration x ≡ false
    by_indent true zero =
        let nothing = tells_nothing x (sym (ap (λ (b : Bool). cond b (may_tell x) below) zero) ∙ e) in
        ap (λ (b : Bool). b && (says x.words 0 (codes "hostname") || says x.words 0 (codes "interface") || says x.words 0 (codes "router"))) zero
        ∙ or_from (says x.words 0 (codes "hostname") || says x.words 0 (codes "interface")) (says x.words 0 (codes "router"))
        (or_from (says x.words 0 (codes "hostname")) (says x.words 0 (codes "interface")) nothing.no_hostname nothing.no_interface) nothing.no_router
    by_indent false deep =
        ap (λ (b : Bool). b && (says x.words 0 (codes "hostname") || says x.words 0 (codes "interface") || says x.words 0 (codes "router"))) deep

pub begins_told : (below : Bool) (xs : List TextLine) → list_any begins_configuration (telling_lines below xs) ≡ list_any begins_configuration xs
begins_told below [] = refl
begins_told below (x ∷ xs) = by_telling (line_tells below x) refl (begins_told (open_after below x) xs)
  where
    by_telling : (t : Bool) → line_tells below x ≡ t →
        list_any begins_configuration (telling_lines (open_after below x) xs) ≡ list_any begins_configuration xs →
        list_any begins_configuration (cond t (x ∷ telling_lines (open_after below x) xs) (telling_lines (open_after below x) xs))
        ≡ (begins_configuration x || list_any begins_configuration xs)
    by_telling true e rest = ap (λ (b : Bool). begins_configuration x || b) rest
    by_telling false e rest =
        rest
        ∙ sym (ap (λ (b : Bool). b || list_any begins_configuration xs) (begins_nothing below x e))

-- ---- the lines of a section ----

-- below a section whose lines say nothing no line is told before the next section
none_inside : (xs : List TextLine) → before_first opens_section (telling_lines false xs) ≡ []
none_inside [] = refl
none_inside (x ∷ xs) = by_indent (opens_section x) refl (none_inside xs)
  where
    by_telling : (t : Bool) → may_tell x ≡ t → opens_section x ≡ true → before_first opens_section (telling_lines false xs) ≡ [] →
        before_first opens_section (cond t (x ∷ telling_lines (has_lines x) xs) (telling_lines (has_lines x) xs)) ≡ []
    by_telling true e zero rest = at_head x (telling_lines (has_lines x) xs) zero
    by_telling false e zero rest =
        ap (λ (b : Bool). before_first opens_section (telling_lines b xs)) (tells_nothing x e).no_lines ∙ rest

    by_indent : (t : Bool) → opens_section x ≡ t → before_first opens_section (telling_lines false xs) ≡ [] →
        before_first opens_section (telling_lines false (x ∷ xs)) ≡ []
    by_indent true zero rest =
        ap (λ (b : Bool). before_first opens_section (cond (cond b (may_tell x) false) (x ∷ telling_lines (cond b (has_lines x) false) xs)
        (telling_lines (cond b (has_lines x) false) xs))) zero
        ∙ by_telling (may_tell x) refl zero rest
    by_indent false deep rest =
        ap (λ (b : Bool). before_first opens_section (cond (cond b (may_tell x) false) (x ∷ telling_lines (cond b (has_lines x) false) xs)
        (telling_lines (cond b (has_lines x) false) xs))) deep
        ∙ rest

-- below one whose lines say something all are
inside_told : (xs : List TextLine) → before_first opens_section (telling_lines true xs) ≡ before_first opens_section xs
inside_told [] = refl
inside_told (x ∷ xs) = by_indent (opens_section x) refl (inside_told xs)
  where
    by_telling : (t : Bool) → may_tell x ≡ t → opens_section x ≡ true →
        before_first opens_section (cond t (x ∷ telling_lines (has_lines x) xs) (telling_lines (has_lines x) xs)) ≡ []
    by_telling true e zero = at_head x (telling_lines (has_lines x) xs) zero
    by_telling false e zero =
        ap (λ (b : Bool). before_first opens_section (telling_lines b xs)) (tells_nothing x e).no_lines ∙ none_inside xs

    by_indent : (t : Bool) → opens_section x ≡ t → before_first opens_section (telling_lines true xs) ≡ before_first opens_section xs →
        before_first opens_section (telling_lines true (x ∷ xs)) ≡ before_first opens_section (x ∷ xs)
    by_indent true zero rest =
        ap (λ (b : Bool). before_first opens_section (cond (cond b (may_tell x) true) (x ∷ telling_lines (cond b (has_lines x) true) xs)
        (telling_lines (cond b (has_lines x) true) xs))) zero
        ∙ by_telling (may_tell x) refl zero ∙ sym (at_head x xs zero)
    by_indent false deep rest =
        ap (λ (b : Bool). before_first opens_section (cond (cond b (may_tell x) true) (x ∷ telling_lines (cond b (has_lines x) true) xs)
        (telling_lines (cond b (has_lines x) true) xs))) deep
        ∙ at_line x (telling_lines true xs) deep
        ∙ ap (λ (ls : List TextLine). x ∷ ls) rest
        ∙ sym (at_line x xs deep)

section_lines_told : (xs : List TextLine) → section_lines (telling_lines true xs) ≡ section_lines xs
section_lines_told xs = ap (λ (ls : List TextLine). filter (λ (line : TextLine). nat_eq line.indent (first_indent ls)) ls) (inside_told xs)

-- ---- the sections ----

-- a section that says something
abbrev says_something : Section → Bool
says_something Other = false
says_something _ = true

abbrev spoken : List Section → List Section
spoken sections = filter says_something sections

abbrev text_section : TextLine → List TextLine → TextSection
text_section head body = record { head = head; body = body }

-- the first line of a section whose lines say nothing, by its words
abbrev lone_head : Bool → Bool → Result Word ReadKind → Head
lone_head named route name = cond named (NameHead name) (cond route (FaultyHead Unsupported) OtherHead)

abbrev is_route : List Word → Bool
is_route words = begins_with_two words (codes "ip") (codes "route") && not (says words 2 (codes "vrf"))

lone_head_is : (x : TextLine) → says x.words 0 (codes "interface") ≡ false → says x.words 0 (codes "router") ≡ false →
    head_of x.words ≡ lone_head (says x.words 0 (codes "hostname")) (is_route x.words) (hostname_of (word_at x.words 1))
lone_head_is x no_interface no_router = rw no_interface (rw no_router refl)

lone_section : (named route : Bool) (name : Result Word ReadKind) (n : ℕ) (one other : List TextLine) →
    section_with (lone_head named route name) n one ≡ section_with (lone_head named route name) n other
lone_section named route name n one other = grind arith

-- the section of such a line says the same with any lines
lone_says : (x : TextLine) (one other : List TextLine) → has_lines x ≡ false → section_of (text_section x one) ≡ section_of (text_section x other)
lone_says x one other none = grind (arith, common_steps, lone_head_is, lone_section, or_parts)

-- the section of a line that tells nothing says nothing
pub says_nothing : (x : TextLine) (body : List TextLine) → may_tell x ≡ false → section_of (text_section x body) ≡ Other
says_nothing x body e =
    let nothing = tells_nothing x e in
    ap (λ (h : Head). section_with h x.number body) (lone_head_is x nothing.no_interface nothing.no_router)
    ∙ ap (λ (b : Bool). section_with (lone_head b (is_route x.words) (hostname_of (word_at x.words 1))) x.number body) nothing.no_hostname
    ∙ ap (λ (b : Bool). section_with (lone_head false (b && says x.words 1 (codes "route") && not (says x.words 2 (codes "vrf")))
    (hostname_of (word_at x.words 1))) x.number body) nothing.no_route

-- a section with the lines that are told says what it said
section_told : (x : TextLine) (xs : List TextLine) →
    section_of (text_section x (section_lines (telling_lines (has_lines x) xs))) ≡ section_of (text_section x (section_lines xs))
section_told x xs = by_lines (has_lines x) refl
  where
    by_lines : (t : Bool) → has_lines x ≡ t →
        section_of (text_section x (section_lines (telling_lines t xs))) ≡ section_of (text_section x (section_lines xs))
    by_lines true e = ap (λ (ls : List TextLine). section_of (text_section x ls)) (section_lines_told xs)
    by_lines false e = lone_says x (section_lines (telling_lines false xs)) (section_lines xs) e

abbrev with_first : Section → List Section → List Section
with_first s ss = cond (says_something s) (s ∷ ss) ss

-- the sections that say something are the same
spoken_told : (below : Bool) (xs : List TextLine) → spoken (sections_among (telling_lines below xs)) ≡ spoken (sections_among xs)
spoken_told below [] = refl
spoken_told below (x ∷ xs) = by_indent (opens_section x) refl (λ b. spoken_told b xs)
  where
    later_lines : (t : Bool) → opens_section x ≡ false → ((b : Bool) → spoken (sections_among (telling_lines b xs)) ≡ spoken (sections_among xs)) →
        spoken (sections_among (cond t (x ∷ telling_lines t xs) (telling_lines t xs))) ≡ spoken (sections_among xs)
    later_lines true deep rest =
        ap (λ (b : Bool). spoken (map section_of (cond b (text_section x (section_lines (telling_lines true xs)) ∷ sections_of (telling_lines true xs))
        (sections_of (telling_lines true xs))))) deep
        ∙ rest true
    later_lines false deep rest = rest false

    first_line : (t : Bool) → may_tell x ≡ t → opens_section x ≡ true →
        ((b : Bool) → spoken (sections_among (telling_lines b xs)) ≡ spoken (sections_among xs)) →
        spoken (sections_among (cond t (x ∷ telling_lines (has_lines x) xs) (telling_lines (has_lines x) xs)))
        ≡ with_first (section_of (text_section x (section_lines xs))) (spoken (sections_among xs))
    first_line true e zero rest =
        ap (λ (b : Bool). spoken (map section_of (cond b (text_section x (section_lines (telling_lines (has_lines x) xs))
        ∷ sections_of (telling_lines (has_lines x) xs)) (sections_of (telling_lines (has_lines x) xs))))) zero
        ∙ ap (λ (s : Section). with_first s (spoken (sections_among (telling_lines (has_lines x) xs)))) (section_told x xs)
        ∙ ap (with_first (section_of (text_section x (section_lines xs)))) (rest (has_lines x))
    first_line false e zero rest =
        rest (has_lines x)
        ∙ sym (ap (λ (s : Section). with_first s (spoken (sections_among xs))) (says_nothing x (section_lines xs) e))

    by_indent : (t : Bool) → opens_section x ≡ t → ((b : Bool) → spoken (sections_among (telling_lines b xs)) ≡ spoken (sections_among xs)) →
        spoken (sections_among (telling_lines below (x ∷ xs))) ≡ spoken (sections_among (x ∷ xs))
    by_indent true zero rest =
        ap (λ (b : Bool). spoken (sections_among (cond (cond b (may_tell x) below) (x ∷ telling_lines (cond b (has_lines x) below) xs)
        (telling_lines (cond b (has_lines x) below) xs)))) zero
        ∙ first_line (may_tell x) refl zero rest
        ∙ sym (ap (λ (b : Bool). spoken (map section_of (cond b (text_section x (section_lines xs) ∷ sections_of xs) (sections_of xs)))) zero)
    by_indent false deep rest =
        ap (λ (b : Bool). spoken (sections_among (cond (cond b (may_tell x) below) (x ∷ telling_lines (cond b (has_lines x) below) xs)
        (telling_lines (cond b (has_lines x) below) xs)))) deep
        ∙ later_lines below deep rest
        ∙ sym (ap (λ (b : Bool). spoken (map section_of (cond b (text_section x (section_lines xs) ∷ sections_of xs) (sections_of xs)))) deep)

-- ---- what all sections say together ----

taken_spoken : {B : Type 0} (h : Section → Option B) → h Other ≡ None → (ss : List Section) → filter_map h (spoken ss) ≡ filter_map h ss
taken_spoken h none [] = refl
taken_spoken h none (s ∷ ss) = grind (arith, none, taken_spoken h none ss)

name_spoken : (ss : List Section) → last_of as_hostname (spoken ss) ≡ last_of as_hostname ss
name_spoken [] = refl
name_spoken (s ∷ ss) = grind (arith, name_spoken ss)

statements_spoken : (ss : List Section) → statements_of (spoken ss) ≡ statements_of ss
statements_spoken ss = grind (arith, common_steps, name_spoken, taken_spoken)

-- ---- the lines of a configuration ----

told_choice : (t : Bool) (n : ℕ) (x : TextLine) (xs : List TextLine) →
    cond t (counted_from n x ∷ map (counted_from n) xs) (map (counted_from n) xs) ≡ map (counted_from n) (cond t (x ∷ xs) xs)
told_choice t n x xs = grind (arith, common_steps)

told_counted : (n : ℕ) (below : Bool) (xs : List TextLine) →
    telling_lines below (map (counted_from n) xs) ≡ map (counted_from n) (telling_lines below xs)
told_counted n below [] = refl
told_counted n below (x ∷ xs) =
    ap (λ (ls : List TextLine). cond (line_tells below x) (counted_from n x ∷ ls) ls) (told_counted n (open_after below x) xs)
    ∙ told_choice (line_tells below x) n x (telling_lines (open_after below x) xs)

-- the first line of a configuration's own is told
own_told : (below : Bool) (xs : List TextLine) → own_lines (telling_lines below xs) ≡ telling_lines false (own_lines xs)
own_told below [] = refl
own_told below (x ∷ xs) = by_first (opens_section x) refl (may_tell x) refl (λ b. own_told b xs)
  where
    by_first : (t : Bool) → opens_section x ≡ t → (u : Bool) → may_tell x ≡ u →
        ((b : Bool) → own_lines (telling_lines b xs) ≡ telling_lines false (own_lines xs)) →
        own_lines (cond (cond (opens_section x) (may_tell x) below) (x ∷ telling_lines (cond (opens_section x) (has_lines x) below) xs)
        (telling_lines (cond (opens_section x) (has_lines x) below) xs))
        ≡ telling_lines false (cond (opens_section x && may_tell x) (x ∷ xs) (own_lines xs))
    by_first true opens true tells rest = rw (opens, tells) rw (opens, tells) refl
    by_first true opens false tells rest = rw (opens, tells) (rest (has_lines x))
    by_first false opens u tells rest = rw opens (by_below below)
      where
        by_below : (b : Bool) → own_lines (cond b (x ∷ telling_lines b xs) (telling_lines b xs)) ≡ telling_lines false (own_lines xs)
        by_below true = rw opens (rest true)
        by_below false = rest false

head_told : (xs : List TextLine) → head_number (telling_lines false (own_lines xs)) ≡ head_number (own_lines xs)
head_told [] = refl
head_told (x ∷ xs) = by_first (opens_section x) refl (may_tell x) refl (head_told xs)
  where
    by_first : (t : Bool) → opens_section x ≡ t → (u : Bool) → may_tell x ≡ u →
        head_number (telling_lines false (own_lines xs)) ≡ head_number (own_lines xs) →
        head_number (telling_lines false (cond (opens_section x && may_tell x) (x ∷ xs) (own_lines xs)))
        ≡ head_number (cond (opens_section x && may_tell x) (x ∷ xs) (own_lines xs))
    by_first true opens true tells rest = rw (opens, tells) rw (opens, tells) refl
    by_first true opens false tells rest = rw (opens, tells) rest
    by_first false opens u tells rest = rw opens rest

pub first_told : (xs : List TextLine) → first_number (telling_lines false xs) ≡ first_number xs
first_told xs = ap head_number (own_told false xs) ∙ head_told xs

from_first_told : (xs : List TextLine) → from_first (telling_lines false xs) ≡ telling_lines false (from_first xs)
from_first_told xs = grind (arith, common_steps, first_told, own_told, told_counted)

-- the sections of a part say the same without the lines that tell nothing
pub statements_told : (part : Part) → statements_of (sections_in (told_part part)) ≡ statements_of (sections_in part)
statements_told part = grind (arith, common_steps, from_first_told, spoken_told, statements_spoken)

-- no part is there exactly where none is
pub none_told : (parts : List Part) → is_empty (map told_part parts) ≡ is_empty parts
none_told parts = grind (arith, common_steps)
