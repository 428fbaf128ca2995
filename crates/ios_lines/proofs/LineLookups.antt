-- The last line of a form, with one more line, and in a loop over some lines.
use Rattle.std.proofs.Common.{arith}
use Rattle.std.proofs.lemmas.Grind.{common_steps}
use Rattle.std.proofs.Common.{sym, ◌≡◌, ℕ, ◌+◌, ◌<◌, List, [], ◌∷◌, ◌++◌, length, take, get_or, Option, None, ap, ◌∙◌}
use Rattle.std.proofs.lemmas.List.{take_more}
use Rattle.ios_lines.specs.Lookups.{later, last_of}
use Rattle.std.specs.Prelude.{filter_map, flat_map, fold}
use Rattle.std.proofs.lemmas.Grind.{fold-append}
use Rattle.std.specs.List.{cons_option}
use Rattle.std.proofs.lemmas.List.Elements.{filter_map-append}
use Rattle.std.proofs.lemmas.List.Concat.{flat_map-append}

later-none : {A : Type 0} (a : Option A) → later None a ≡ a
later-none a = grind (arith, common_steps)

later-assoc : {A : Type 0} (a b c : Option A) → later (later a b) c ≡ later a (later b c)
later-assoc a b c = grind (arith, common_steps)

-- the last line of a form, with one more line
pub last_of-push : {A : Type 0} {B : Type 0} (form : A → Option B) (xs : List A) (x : A) → last_of form (xs ++ x ∷ []) ≡ later (last_of form xs) (form x)
last_of-push form [] x = sym (later-none (form x))
last_of-push form (y ∷ ys) x = ap (later (form y)) (last_of-push form ys x) ∙ sym (later-assoc (form y) (last_of form ys) (form x))

-- one more line of a loop over some lines
pub last_of_more : {A : Type 0} {B : Type 0} (form : A → Option B) (xs : List A) (i : ℕ) (x : A) → i < length xs → x ≡ get_or xs i x →
    last_of form (take (i + 1) xs) ≡ later (last_of form (take i xs)) (form x)
last_of_more form xs i x within read = grind (arith, common_steps, last_of-push, take_more)

-- one more line of a loop that takes some lines in
pub filter_more : {A : Type 0} {B : Type 0} (form : A → Option B) (xs : List A) (i : ℕ) (x : A) → i < length xs → x ≡ get_or xs i x →
    filter_map form (take (i + 1) xs) ≡ filter_map form (take i xs) ++ cons_option (form x) []
filter_more form xs i x within read = grind (arith, common_steps, filter_map-append, take_more)

-- one more line of a loop that folds what some lines give
pub fold_more : {A : Type 0} {B : Type 0} {C : Type 0} (step : List C → B → List C) (form : A → Option B) (xs : List A) (i : ℕ) (x : A) → i < length xs → x
    ≡ get_or xs i x →
    fold step [] (filter_map form (take (i + 1) xs)) ≡ fold step (fold step [] (filter_map form (take i xs))) (cons_option (form x) [])
fold_more step form xs i x within read =
    ap (fold step []) (filter_more form xs i x within read) ∙ fold-append step [] (filter_map form (take i xs)) (cons_option (form x) [])

-- one more line of a loop that goes through what some lines give
flat_map_more : {A : Type 0} {B : Type 0} (f : A → List B) (xs : List A) (i : ℕ) (x : A) → i < length xs → x ≡ get_or xs i x →
    flat_map f (take (i + 1) xs) ≡ flat_map f (take i xs) ++ f x
flat_map_more {A} {B} f xs i x within read = grind (arith, common_steps, flat_map-append, take_more)

-- one more line of a loop that takes in what some lines give, behind what was there
pub taken_more : {A : Type 0} {B : Type 0} (f : A → List B) (xs : List A) (i : ℕ) (x : A) (start before after : List B) → i < length xs →
    x ≡ get_or xs i x → before ≡ start ++ flat_map f (take i xs) → after ≡ before ++ f x → after ≡ start ++ flat_map f (take (i + 1) xs)
taken_more {A} {B} f xs i x start before after within read was made = grind (arith, common_steps, flat_map_more)
