-- The lines of a configuration, counted from its first one, with others behind them.
use Rattle.std.proofs.lemmas.Grind.{common_steps}
use Rattle.std.proofs.Common.{◌≡◌, ℕ, ◌+◌, ◌-◌, ◌≤◌, Bool, true, false, List, [], ◌∷◌, ◌++◌, length, refl, ap, ◌∙◌, cond, map, arith}
use Rattle.std.specs.Prelude.{filter}
use Rattle.std.proofs.lemmas.List.{map-append, length-map}
use Rattle.net_addr.specs.Lines.{line_pieces, lines_of, text_lines}
use Rattle.net_addr.proofs.JoinedFacts.{lines_of-length}
use Rattle.ios_sections.specs.TextLines.{TextLine, text_line, lines_in, banner_after, outside_banner, outside_banners, counts, counted_lines, is_end, rest_after}
use Rattle.ios_sections.specs.Sections.{counted_from, may_begin, own_lines, head_number, first_number, from_first}
use Rattle.ios_sections.specs.JoinedLines.{further_on, open_lines}

-- ---- the first line, with others behind ----

abbrev line_at : ℕ → TextLine → TextLine
line_at number line = record { number = number; indent = line.indent; bytes = line.bytes; words = line.words }

own-append : (xs ys : List TextLine) (x : TextLine) (more : List TextLine) → own_lines xs ≡ x ∷ more → own_lines (xs ++ ys) ≡ (x ∷ more) ++ ys
own-append [] ys x more e = absurd cc
own-append (l ∷ ls) ys x more e = by_first (may_begin l) e (own-append ls ys x more)
  where
    by_first : (t : Bool) → cond t (l ∷ ls) (own_lines ls) ≡ x ∷ more → (own_lines ls ≡ x ∷ more → own_lines (ls ++ ys) ≡ (x ∷ more) ++ ys) →
        cond t (l ∷ (ls ++ ys)) (own_lines (ls ++ ys)) ≡ (x ∷ more) ++ ys
    by_first true e rest = ap (λ (ws : List TextLine). ws ++ ys) e
    by_first false e rest = rest e

counted_further : (n k : ℕ) (ys : List TextLine) → n ≤ k → map (counted_from n) (map (further_on k) ys) ≡ map (further_on (k - n)) ys
counted_further n k [] within = refl
counted_further n k (y ∷ ys) within =
    let same : k + y.number - n ≡ k - n + y.number = omega (arith, within) in
    ap (λ (m : ℕ). line_at m y ∷ map (counted_from n) (map (further_on k) ys)) same
    ∙ ap (λ (ls : List TextLine). further_on (k - n) y ∷ ls) (counted_further n k ys within)

-- lines further on behind those of a configuration are counted from the configuration's first one
pub from_first-append : (k : ℕ) (xs ys : List TextLine) (x : TextLine) (more : List TextLine) → own_lines xs ≡ x ∷ more → first_number xs ≤ k →
    from_first (xs ++ map (further_on k) ys) ≡ from_first xs ++ map (further_on (k - first_number xs)) ys
from_first-append k xs ys x more e within = grind (arith, common_steps, counted_further, map-append, own-append)

-- ---- no line has a greater number than the last one ----

abbrev Within : ℕ → List TextLine → Type 0
Within n [] = Unit {0}
Within n (l ∷ ls) = (l.number ≤ n) × Within n ls

lines_within : (n number start : ℕ) (text : List ℕ) (pieces : List (List ℕ)) → number + length pieces ≤ n + 1 →
    Within n (map (text_line text) (lines_of number start pieces))
lines_within n number start text [] e = tt
lines_within n number start text (p ∷ ps) e =
    (omega (arith, e), lines_within n (number + 1) (start + length p + 1) text ps (omega (arith, e)))

counted_within : (n : ℕ) (inside : Bool) (xs : List TextLine) → Within n xs → Within n (filter counts (outside_banners inside xs))
counted_within n inside [] e = tt
counted_within n inside (x ∷ xs) e = by_banner inside (λ b. counted_within n b xs e.1)
  where
    by_count : (t : Bool) (ls : List TextLine) → Within n ls → Within n (cond t (x ∷ ls) ls)
    by_count true ls rest = (e.0, rest)
    by_count false ls rest = rest

    by_banner : (t : Bool) → ((b : Bool) → Within n (filter counts (outside_banners b xs))) →
        Within n (filter counts (outside_banner t x ++ outside_banners (banner_after t x) xs))
    by_banner true rest = rest (banner_after true x)
    by_banner false rest = by_count (counts x) (filter counts (outside_banners (banner_after false x) xs)) (rest (banner_after false x))

within_more : (n : ℕ) (before : List TextLine) (x : TextLine) → Within n before → x.number ≤ n → Within n (before ++ x ∷ [])
within_more n [] x e f = (f, tt)
within_more n (b ∷ before) x e f = (e.0, within_more n before x e.1 f)

rest_within : (n : ℕ) (before xs : List TextLine) → Within n before → Within n xs → Within n (rest_after before xs)
rest_within n before [] e f = e
rest_within n before (x ∷ xs) e f =
    by_end (is_end x) (rest_within n [] xs tt f.1) (rest_within n (before ++ x ∷ []) xs (within_more n before x e f.0) f.1)
  where
    by_end : (t : Bool) → Within n (rest_after [] xs) → Within n (rest_after (before ++ x ∷ []) xs) →
        Within n (cond t (rest_after [] xs) (rest_after (before ++ x ∷ []) xs))
    by_end true one other = one
    by_end false one other = other

head_within : (n : ℕ) (xs : List TextLine) → Within n xs → head_number (own_lines xs) ≤ n
head_within n [] e = omega arith
head_within n (x ∷ xs) e = by_first (may_begin x) (head_within n xs e.1)
  where
    by_first : (t : Bool) → head_number (own_lines xs) ≤ n → head_number (cond t (x ∷ xs) (own_lines xs)) ≤ n
    by_first true rest = e.0
    by_first false rest = rest

pub first_within : (text : List ℕ) → first_number (open_lines text) ≤ length (lines_in text)
first_within text =
    let n : ℕ = length (lines_in text) in
    let pieces : List (List ℕ) = line_pieces text in
    let count : n ≡ length pieces = length-map (text_lines text) (text_line text) ∙ lines_of-length 1 0 pieces in
    head_within n (open_lines text)
    (rest_within n [] (counted_lines (lines_in text)) tt
    (counted_within n false (lines_in text) (lines_within n 1 0 text pieces (omega (arith, count)))))
