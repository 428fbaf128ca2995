-- Lines further on: their parts are the same, with the line numbers further on, and what their sections say is the same.
use Rattle.std.proofs.lemmas.Grind.{common_steps}
use Rattle.std.proofs.Common.{sym, ◌≡◌, ℕ, ◌+◌, ◌-◌, Bool, false, ◌||◌, List, [], ◌∷◌, ◌++◌, refl, ap, ◌∙◌, cond, map, arith}
use Rattle.std.specs.Prelude.{filter, fold}
use Rattle.std.specs.List.{list_any}
use Rattle.std.proofs.lemmas.List.{map-append}
use Rattle.ios_sections.specs.TextLines.{TextLine, Part, banner_after, outside_banner, outside_banners, counted_lines, is_end}
use Rattle.ios_sections.specs.TextLines.{parts_after, rest_after, first_indent}
use Rattle.ios_sections.specs.Sections.{counted_from, may_begin, own_lines, head_number, from_first, sections_among, sections_in}
use Rattle.ios_sections.specs.JoinedLines.{further_on, is_in_banner}

-- a line with another number
abbrev line_at : ℕ → TextLine → TextLine
line_at number line = record { number = number; indent = line.indent; bytes = line.bytes; words = line.words }

-- ---- lists that are taken over one by one ----

filter_choice : {A : Type 0} (t : Bool) (f : A → A) (x : A) (xs : List A) → cond t (f x ∷ map f xs) (map f xs) ≡ map f (cond t (x ∷ xs) xs)
filter_choice t f x xs = grind (arith, common_steps)

pub filter-map : {A : Type 0} (p : A → Bool) (f : A → A) → ((x : A) → p (f x) ≡ p x) → (xs : List A) → filter p (map f xs) ≡ map f (filter p xs)
filter-map p f same [] = refl
filter-map p f same (x ∷ xs) =
    ap (λ (b : Bool). cond b (f x ∷ filter p (map f xs)) (filter p (map f xs))) (same x)
    ∙ ap (λ ys. cond (p x) (f x ∷ ys) ys) (filter-map p f same xs)
    ∙ filter_choice (p x) f x (filter p xs)

pub list_any-map : {A B : Type 0} (p : B → Bool) (q : A → Bool) (f : A → B) → ((x : A) → p (f x) ≡ q x) → (xs : List A) → list_any p (map f xs) ≡ list_any q xs
list_any-map p q f same [] = refl
list_any-map p q f same (x ∷ xs) = ap (λ (b : Bool). b || list_any p (map f xs)) (same x) ∙ ap (λ (b : Bool). q x || b) (list_any-map p q f same xs)

-- ---- the lines that count, and the parts ----

outside_choice : (t : Bool) (k : ℕ) (x : TextLine) (ls : List TextLine) →
    cond t [] (further_on k x ∷ []) ++ map (further_on k) ls ≡ map (further_on k) (cond t [] (x ∷ []) ++ ls)
outside_choice t k x ls = grind (arith, common_steps)

outside-further : (k : ℕ) (inside : Bool) (xs : List TextLine) →
    outside_banners inside (map (further_on k) xs) ≡ map (further_on k) (outside_banners inside xs)
outside-further k inside [] = refl
outside-further k inside (x ∷ xs) =
    ap (λ (ls : List TextLine). outside_banner inside (further_on k x) ++ ls) (outside-further k (banner_after inside x) xs)
    ∙ outside_choice inside k x (outside_banners (banner_after inside x) xs)

pub counted-further : (k : ℕ) (xs : List TextLine) → counted_lines (map (further_on k) xs) ≡ map (further_on k) (counted_lines xs)
counted-further k xs = grind (arith, common_steps, filter-map, outside-further)

pub banner-fold : (k : ℕ) (inside : Bool) (xs : List TextLine) → fold banner_after inside (map (further_on k) xs) ≡ fold banner_after inside xs
banner-fold k inside [] = refl
banner-fold k inside (x ∷ xs) = banner-fold k (banner_after inside x) xs

pub banner-further : (k : ℕ) (xs : List TextLine) → is_in_banner (map (further_on k) xs) ≡ is_in_banner xs
banner-further k xs = banner-fold k false xs

-- a part, further on
abbrev pub part_further : ℕ → Part → Part
part_further k part = record { lines = map (further_on k) part.lines; ends = k + part.ends }

parts_choice : (t : Bool) (k : ℕ) (p : Part) (ps qs : List Part) →
    cond t (part_further k p ∷ map (part_further k) ps) (map (part_further k) qs) ≡ map (part_further k) (cond t (p ∷ ps) qs)
parts_choice t k p ps qs = grind (arith, common_steps)

cond_two : {A : Type 0} (t : Bool) (a b c d : A) → a ≡ c → b ≡ d → cond t a b ≡ cond t c d
cond_two t a b c d p q = grind (arith, common_steps)

pub parts-further : (k : ℕ) (before xs : List TextLine) →
    parts_after (map (further_on k) before) (map (further_on k) xs) ≡ map (part_further k) (parts_after before xs)
parts-further k before [] = refl
parts-further k before (x ∷ xs) =
    cond_two (is_end x) (part_further k (record { lines = before; ends = x.number }) ∷ parts_after [] (map (further_on k) xs))
    (parts_after (map (further_on k) before ++ further_on k x ∷ []) (map (further_on k) xs)) _ _
    (ap (λ (ps : List Part). part_further k (record { lines = before; ends = x.number }) ∷ ps) (parts-further k [] xs))
    (ap (λ (ls : List TextLine). parts_after ls (map (further_on k) xs)) (sym (map-append (further_on k) before (x ∷ [])))
    ∙ parts-further k (before ++ x ∷ []) xs)
    ∙ parts_choice (is_end x) k (record { lines = before; ends = x.number }) (parts_after [] xs) (parts_after (before ++ x ∷ []) xs)

lines_choice : (t : Bool) (k : ℕ) (xs ys : List TextLine) → cond t (map (further_on k) xs) (map (further_on k) ys) ≡ map (further_on k) (cond t xs ys)
lines_choice t k xs ys = grind (arith, common_steps)

pub rest-further : (k : ℕ) (before xs : List TextLine) →
    rest_after (map (further_on k) before) (map (further_on k) xs) ≡ map (further_on k) (rest_after before xs)
rest-further k before [] = refl
rest-further k before (x ∷ xs) =
    cond_two (is_end x) (rest_after [] (map (further_on k) xs)) (rest_after (map (further_on k) before ++ further_on k x ∷ []) (map (further_on k) xs)) _ _
    (rest-further k [] xs)
    (ap (λ (ls : List TextLine). rest_after ls (map (further_on k) xs)) (sym (map-append (further_on k) before (x ∷ [])))
    ∙ rest-further k (before ++ x ∷ []) xs)
    ∙ lines_choice (is_end x) k (rest_after [] xs) (rest_after (before ++ x ∷ []) xs)

-- ---- what a configuration says ----

pub first-further : (k : ℕ) (xs : List TextLine) → first_indent (map (further_on k) xs) ≡ first_indent xs
first-further k xs = grind (arith, common_steps)

counted_again : (k n : ℕ) (xs : List TextLine) → map (counted_from (k + n)) (map (further_on k) xs) ≡ map (counted_from n) xs
counted_again k n [] = refl
counted_again k n (x ∷ xs) =
    let same : k + x.number - (k + n) ≡ x.number - n = omega arith in
    ap (λ (m : ℕ). line_at m x ∷ map (counted_from (k + n)) (map (further_on k) xs)) same
    ∙ ap (λ (ls : List TextLine). counted_from n x ∷ ls) (counted_again k n xs)

own-further : (k : ℕ) (xs : List TextLine) → own_lines (map (further_on k) xs) ≡ map (further_on k) (own_lines xs)
own-further k [] = refl
own-further k (x ∷ xs) =
    ap (λ (ls : List TextLine). cond (may_begin x) (map (further_on k) (x ∷ xs)) ls) (own-further k xs)
    ∙ lines_choice (may_begin x) k (x ∷ xs) (own_lines xs)

from_head : (k : ℕ) (xs : List TextLine) →
    map (counted_from (head_number (map (further_on k) xs))) (map (further_on k) xs) ≡ map (counted_from (head_number xs)) xs
from_head k xs = grind (arith, common_steps, counted_again)

from_first-further : (k : ℕ) (xs : List TextLine) → from_first (map (further_on k) xs) ≡ from_first xs
from_first-further k xs = grind (arith, common_steps, from_head, own-further)

-- what the sections of a part say, wherever it stands
pub sections_in-further : (k : ℕ) (part : Part) → sections_in (part_further k part) ≡ sections_in part
sections_in-further k part = ap sections_among (from_first-further k part.lines)
