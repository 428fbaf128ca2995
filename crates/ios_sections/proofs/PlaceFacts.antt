-- A configuration's own lines, and those of a section, by the places where they begin and end.
use Rattle.std.proofs.lemmas.Grind.{common_steps}
use Rattle.std.proofs.Common.{sym, ◌≡◌, ℕ, ◌+◌, Bool, true, false, not, List, [], ◌∷◌, drop, suc, refl, ap, ◌∙◌, cond, map, filter, nat_eq, arith}
use Rattle.std.specs.List.{position_or_len, before_first}
use Rattle.ios_sections.specs.TextLines.{TextLine, opens_section, first_indent, section_lines}
use Rattle.ios_sections.specs.Sections.{counted_from, may_begin, own_lines}

-- a configuration's own lines, by the place of the first one
pub own_from : (xs : List TextLine) → drop (position_or_len may_begin xs) xs ≡ own_lines xs
own_from [] = refl
own_from (x ∷ xs) = by_first (may_begin x) (own_from xs)
  where
    by_first : (t : Bool) → drop (position_or_len may_begin xs) xs ≡ own_lines xs →
        drop (cond (not t) (1 + position_or_len may_begin xs) 0) (x ∷ xs) ≡ cond t (x ∷ xs) (own_lines xs)
    by_first true rest = refl
    by_first false rest =
        let one : 1 + position_or_len may_begin xs ≡ suc (position_or_len may_begin xs) = omega arith in
        ap (λ (n : ℕ). drop n (x ∷ xs)) one ∙ rest

-- ---- the lines of a section, counted from a line ----

abbrev counted : ℕ → List TextLine → List TextLine
counted first lines = map (counted_from first) lines

pub at_head : (x : TextLine) (xs : List TextLine) → opens_section x ≡ true → before_first opens_section (x ∷ xs) ≡ []
at_head x xs e = grind (arith, common_steps)

pub at_line : (x : TextLine) (xs : List TextLine) → opens_section x ≡ false → before_first opens_section (x ∷ xs) ≡ x ∷ before_first opens_section xs
at_line x xs e = grind (arith, common_steps)

inside_counted : (n : ℕ) (xs : List TextLine) → before_first opens_section (counted n xs) ≡ counted n (before_first opens_section xs)
inside_counted n [] = refl
inside_counted n (x ∷ xs) = by_head (opens_section x) refl (inside_counted n xs)
  where
    by_head : (t : Bool) → opens_section x ≡ t → before_first opens_section (counted n xs) ≡ counted n (before_first opens_section xs) →
        before_first opens_section (counted n (x ∷ xs)) ≡ counted n (before_first opens_section (x ∷ xs))
    by_head true e rest = at_head (counted_from n x) (counted n xs) e ∙ sym (ap (counted n) (at_head x xs e))
    by_head false e rest =
        at_line (counted_from n x) (counted n xs) e ∙ ap (λ (ls : List TextLine). counted_from n x ∷ ls) rest ∙ sym (ap (counted n) (at_line x xs e))

indent_counted : (n : ℕ) (xs : List TextLine) → first_indent (counted n xs) ≡ first_indent xs
indent_counted n [] = refl
indent_counted n (x ∷ xs) = refl

abbrev of_indent : ℕ → List TextLine → List TextLine
of_indent indent lines = filter (λ (line : TextLine). nat_eq line.indent indent) lines

filter_counted : (n indent : ℕ) (xs : List TextLine) → of_indent indent (counted n xs) ≡ counted n (of_indent indent xs)
filter_counted n indent [] = refl
filter_counted n indent (x ∷ xs) = by_indent (nat_eq x.indent indent) (filter_counted n indent xs)
  where
    by_indent : (t : Bool) → of_indent indent (counted n xs) ≡ counted n (of_indent indent xs) →
        cond t (counted_from n x ∷ of_indent indent (counted n xs)) (of_indent indent (counted n xs))
        ≡ counted n (cond t (x ∷ of_indent indent xs) (of_indent indent xs))
    by_indent true rest = ap (λ (ls : List TextLine). counted_from n x ∷ ls) rest
    by_indent false rest = rest

-- the lines of a section are the same, however they are counted
pub lines_counted : (n : ℕ) (xs : List TextLine) → section_lines (counted n xs) ≡ counted n (section_lines xs)
lines_counted n xs =
    let inside : List TextLine = before_first opens_section xs in
    ap (λ (ls : List TextLine). of_indent (first_indent ls) ls) (inside_counted n xs)
    ∙ ap (λ (m : ℕ). of_indent m (counted n inside)) (indent_counted n inside)
    ∙ filter_counted n (first_indent inside) inside
