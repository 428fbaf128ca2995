-- The place of the next line that opens a section; those of some lines that have a further property.
pub use Rattle.ios_lines.proofs.Places.{some_place, no_place}
use Rattle.std.proofs.Common.{◌≡◌, Bool, true, false, ◌&&◌, ◌||◌, List, [], ◌∷◌, cond, filter, refl, ap}
use Rattle.std.specs.List.{list_any}

any_cases : {X : Type 0} (t b : Bool) (p : X → Bool) (x : X) (xs : List X) → list_any p xs ≡ b →
    list_any p (cond t (x ∷ xs) xs) ≡ ((t && p x) || b)
any_cases true b p x xs h = ap (λ (c : Bool). p x || c) h
any_cases false b p x xs h = h

-- one that passes two tests
pub any_filtered : {X : Type 0} (q p : X → Bool) (xs : List X) → list_any p (filter q xs) ≡ list_any (λ (x : X). q x && p x) xs
any_filtered q p [] = refl
any_filtered q p (x ∷ xs) = any_cases (q x) (list_any (λ y. q y && p y) xs) p x (filter q xs) (any_filtered q p xs)
