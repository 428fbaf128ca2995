-- The parts of a text, one more line at a time.
use Rattle.std.proofs.Common.{sym, ◌≡◌, ℕ, ◌+◌, ◌-◌, ◌<◌, ◌≤◌, Bool, true, false, List, [], ◌∷◌, ◌++◌, length, take, drop, get_or}
use Rattle.std.proofs.Common.{refl, ap, ◌∙◌, cond, map, append_assoc, arith}
use Rattle.std.specs.Prelude.{flat_map, option_to_list}
use Rattle.std.specs.List.{slice_range}
use Rattle.std.proofs.lemmas.Grind.{common_steps}
use Rattle.std.proofs.lemmas.List.{take_more, map-append}
use Rattle.std.proofs.lemmas.List.Concat.{flat_map-append}
use Rattle.net_model.specs.Configuration.{Configuration}
use Rattle.ios_sections.specs.TextLines.{TextLine, Part, is_end, parts_after, rest_after, is_empty}
use Rattle.ios_sections.specs.Sections.{sections_in}
use Rattle.ios_reader.specs.Faults.{part_faults}
use Rattle.ios_reader.specs.Configurations.{configuration_of}
use Rattle.ios_reader.specs.steps.Parts.{part_at, PartRead, IsPartRead, Reading, IsReadingOf, TakesInLine, is_nothing}
use Rattle.ios_lines.specs.declared.fault.Fault.{Fault}
use Rattle.ios_reader.proofs.LookedUp.{none_left, none_right}

-- ---- one more line ----

abbrev ended : List TextLine → TextLine → List Part
ended before x = cond (is_end x) (part_at before x.number ∷ []) []

rest-choice : (t : Bool) (a b : List TextLine) (x : TextLine) → cond t (cond (is_end x) [] (a ++ x ∷ [])) (cond (is_end x) [] (b ++ x ∷ []))
    ≡ cond (is_end x) [] (cond t a b ++ x ∷ [])
rest-choice t a b x = grind (arith, common_steps)

cond_two : {A : Type 0} (t : Bool) (a b c d : A) → a ≡ c → b ≡ d → cond t a b ≡ cond t c d
cond_two t a b c d p q = grind (arith, common_steps)

rest-push : (before xs : List TextLine) (x : TextLine) → rest_after before (xs ++ x ∷ []) ≡ cond (is_end x) [] (rest_after before xs ++ x ∷ [])
rest-push before [] x = refl
rest-push before (y ∷ ys) x =
    cond_two (is_end y) (rest_after [] (ys ++ x ∷ [])) (rest_after (before ++ y ∷ []) (ys ++ x ∷ [])) _ _ (rest-push [] ys x)
    (rest-push (before ++ y ∷ []) ys x)
    ∙ rest-choice (is_end y) (rest_after [] ys) (rest_after (before ++ y ∷ []) ys) x

parts-choice : (t : Bool) (p : Part) (a b : List Part) (r s : List TextLine) (x : TextLine) →
    cond t (p ∷ (a ++ ended r x)) (b ++ ended s x) ≡ cond t (p ∷ a) b ++ ended (cond t r s) x
parts-choice t p a b r s x = grind (arith, common_steps)

parts-push : (before xs : List TextLine) (x : TextLine) → parts_after before (xs ++ x ∷ []) ≡ parts_after before xs ++ ended (rest_after before xs) x
parts-push before [] x = refl
parts-push before (y ∷ ys) x =
    cond_two (is_end y) (part_at before y.number ∷ parts_after [] (ys ++ x ∷ [])) (parts_after (before ++ y ∷ []) (ys ++ x ∷ [])) _ _
    (ap (λ (ps : List Part). part_at before y.number ∷ ps) (parts-push [] ys x)) (parts-push (before ++ y ∷ []) ys x)
    ∙ parts-choice (is_end y) (part_at before y.number) (parts_after [] ys) (parts_after (before ++ y ∷ []) ys) (rest_after [] ys)
    (rest_after (before ++ y ∷ []) ys) x

module _ (lines : List TextLine) (i : ℕ) (x : TextLine) (within : i < length lines) (read : x ≡ get_or lines i x) where
  one_more : take (i + 1) lines ≡ take i lines ++ x ∷ []
  one_more = take_more lines i x within ∙ ap (λ (y : TextLine). take i lines ++ y ∷ []) (sym read)

  -- the lines after the last `end` line, with one more line
  pub rest_more : rest_after [] (take (i + 1) lines) ≡ cond (is_end x) [] (rest_after [] (take i lines) ++ x ∷ [])
  rest_more = ap (rest_after []) one_more ∙ rest-push [] (take i lines) x

  -- the parts, with one more line
  pub parts_more : parts_after [] (take (i + 1) lines) ≡ parts_after [] (take i lines) ++ ended (rest_after [] (take i lines)) x
  parts_more = ap (parts_after []) one_more ∙ parts-push [] (take i lines) x

-- ---- the lines that are not in a part yet ----

pub slice_none : (lines : List TextLine) (i : ℕ) → slice_range lines i i ≡ []
slice_none lines i = let none : i - i ≡ 0 = omega arith in ap (λ (n : ℕ). take n (drop i lines)) none

pub slice_more : (lines : List TextLine) (start i : ℕ) (x : TextLine) → start ≤ i → i < length lines → x ≡ get_or lines i x → slice_range lines start (i + 1)
    ≡ slice_range lines start i ++ x ∷ []
slice_more lines start i x low within read =
    let count : (i + 1) - start ≡ (i - start) + 1 = omega arith in
    let inside : i - start < length (drop start lines) = grind (arith, common_steps) in
    let place : start + (i - start) ≡ i = omega arith in
    let same : get_or (drop start lines) (i - start) x ≡ x = grind (arith, common_steps) in
    ap (λ (n : ℕ). take n (drop start lines)) count
    ∙ take_more (drop start lines) (i - start) x inside
    ∙ ap (λ (y : TextLine). take (i - start) (drop start lines) ++ y ∷ []) same

-- ---- what is read ----

abbrev made : List Part → List Configuration
made parts = map (λ (part : Part). configuration_of (sections_in part)) parts

faults-push : (parts : List Part) (part : Part) → flat_map part_faults (parts ++ part ∷ []) ≡ flat_map part_faults parts ++ part_faults part
faults-push parts part = grind (arith, common_steps, flat_map-append)

-- one more part is read
pub reading-push : (parts : List Part) (part : Part) (r s : Reading) (read : PartRead) → IsReadingOf parts r → IsPartRead part read →
    s.faults ≡ r.faults ++ read.faults → s.configs ≡ r.configs ++ option_to_list read.config → IsReadingOf (parts ++ part ∷ []) s
reading-push parts part r s read before h f g = grind (arith, common_steps, faults-push, map-append, none_left, none_right)

-- nothing is read exactly of no parts
pub nothing_read : (parts : List Part) (r : Reading) → IsReadingOf parts r → is_nothing r ≡ is_empty parts
nothing_read [] r h = grind (arith, common_steps)
nothing_read (p ∷ ps) r h = by_faults r.faults refl
  where
    by_faults : (fs : List Fault) → r.faults ≡ fs → is_nothing r ≡ false
    by_faults [] e = grind (arith, common_steps)
    by_faults (f ∷ fs) e = grind (arith, common_steps)

-- ---- one more line that is left ----

module _ (part : List TextLine) (line : TextLine) where
  -- the parts behind the line, where it is an `end` line or not
  abbrev behind : Bool → List TextLine → List Part
  behind ends left = cond ends (part_at part line.number ∷ parts_after [] left) (parts_after (part ++ line ∷ []) left)

  abbrev rest_behind : Bool → List TextLine → List TextLine
  rest_behind ends left = cond ends (rest_after [] left) (rest_after (part ++ line ∷ []) left)

  -- at an `end` line one more part is read
  pub taken_at_end : (r s : Reading) (read : PartRead) → is_end line ≡ true → IsPartRead (part_at part line.number) read →
      s.faults ≡ r.faults ++ read.faults → s.configs ≡ r.configs ++ option_to_list read.config → TakesInLine part r line [] s
  taken_at_end r s read ends now f g = λ all left h. record {
    done = h.done ++ part_at part line.number ∷ [];
    parts = append_assoc h.done (part_at part line.number ∷ []) (parts_after [] left)
        ∙ ap (λ (b : Bool). h.done ++ behind b left) (sym ends) ∙ h.parts;
    rest = ap (λ (b : Bool). rest_behind b left) (sym ends) ∙ h.rest;
    read = reading-push h.done (part_at part line.number) r s read h.read now f g;
  }

  -- another line goes on with the part
  pub taken_on : (r : Reading) → is_end line ≡ false → TakesInLine part r line (part ++ line ∷ []) r
  taken_on r on = λ all left h. record {
    done = h.done;
    parts = ap (λ (b : Bool). h.done ++ behind b left) (sym on) ∙ h.parts;
    rest = ap (λ (b : Bool). rest_behind b left) (sym on) ∙ h.rest;
    read = h.read;
  }

-- ---- the loop over the lines ----

module _ (lines : List TextLine) (i : ℕ) (x : TextLine) (within : i < length lines) (read : x ≡ get_or lines i x) where
  -- no line stands behind an `end` line yet
  pub rest_at_end : is_end x ≡ true → slice_range lines (i + 1) (i + 1) ≡ rest_after [] (take (i + 1) lines)
  rest_at_end ends =
      slice_none lines (i + 1)
      ∙ sym (rest_more lines i x within read ∙ ap (λ (b : Bool). cond b [] (rest_after [] (take i lines) ++ x ∷ [])) ends)

  -- another line goes behind those that are in no part yet
  pub rest_on : (start : ℕ) → start ≤ i → slice_range lines start i ≡ rest_after [] (take i lines) → is_end x ≡ false → slice_range lines start (i + 1)
      ≡ rest_after [] (take (i + 1) lines)
  rest_on start low before on =
      slice_more lines start i x low within read
      ∙ ap (λ (w : List TextLine). w ++ x ∷ []) before
      ∙ sym (rest_more lines i x within read ∙ ap (λ (b : Bool). cond b [] (rest_after [] (take i lines) ++ x ∷ [])) on)
