-- Lists: two that have nothing, maps one after the other, what holds of each element.
use Rattle.std.proofs.Common.{arith}
use Rattle.std.proofs.lemmas.Grind.{common_steps}
use Rattle.std.proofs.Common.{◌≡◌, List, [], ◌∷◌, ◌++◌, map, Option, None, refl, ap, ◌∙◌}
use Rattle.std.specs.Prelude.{All, flat_map}
use Rattle.std.proofs.lemmas.List.Elements.{All-nil, All-cons, All-head, All-tail}
use Rattle.ios_lines.specs.Lookups.{later}
pub use Rattle.ios_reader.proofs.LookedUp.{none_left, none_right}

pub later_none : {A : Type 0} (o : Option A) → later None o ≡ o
later_none o = grind (arith, common_steps)

pub map_twice : {A B C : Type 0} (f : B → C) (g : A → B) (xs : List A) → map f (map g xs) ≡ map (λ (x : A). f (g x)) xs
map_twice f g [] = refl
map_twice f g (x ∷ xs) = ap (λ ys. f (g x) ∷ ys) (map_twice f g xs)

pub same_map : {A B : Type 0} (f g : A → B) (xs : List A) → All (λ (x : A). f x ≡ g x) xs → map f xs ≡ map g xs
same_map f g [] same = refl
same_map {A} f g (x ∷ xs) same =
    ap (λ y. y ∷ map f xs) (All-head (λ (y : A). f y ≡ g y) x xs same)
    ∙ ap (λ l. g x ∷ l) (same_map f g xs (All-tail (λ (y : A). f y ≡ g y) x xs same))

pub same_flat : {A B C : Type 0} (f : B → List C) (h : A → List C) (g : A → B) (xs : List A) → All (λ (x : A). f (g x) ≡ h x) xs →
    flat_map f (map g xs) ≡ flat_map h xs
same_flat f h g [] same = refl
same_flat {A} f h g (x ∷ xs) same =
    ap (λ l. l ++ flat_map f (map g xs)) (All-head (λ (y : A). f (g y) ≡ h y) x xs same)
    ∙ ap (λ l. h x ++ l) (same_flat f h g xs (All-tail (λ (y : A). f (g y) ≡ h y) x xs same))

pub none_flat : {A B : Type 0} (f : A → List B) (xs : List A) → flat_map f xs ≡ [] → All (λ (x : A). f x ≡ []) xs
none_flat {A} f [] none = All-nil (λ (x : A). f x ≡ [])
none_flat {A} f (x ∷ xs) none =
    All-cons (λ (y : A). f y ≡ []) x xs (none_left (f x) (flat_map f xs) none) (none_flat f xs (none_right (f x) (flat_map f xs) none))

pub flat_none : {A B C : Type 0} (f : B → List C) (g : A → B) (xs : List A) → All (λ (x : A). f (g x) ≡ []) xs → flat_map f (map g xs) ≡ []
flat_none f g [] none = refl
flat_none {A} f g (x ∷ xs) none =
    ap (λ l. l ++ flat_map f (map g xs)) (All-head (λ (y : A). f (g y) ≡ []) x xs none)
    ∙ flat_none f g xs (All-tail (λ (y : A). f (g y) ≡ []) x xs none)
