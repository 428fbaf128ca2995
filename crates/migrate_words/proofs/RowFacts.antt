-- What is there and what isn't.
use Rattle.std.proofs.Common.{◌≡◌, ◌∙◌, Bool, cond, true, false, List, [], ◌∷◌, Option, Some, None, refl, sym, ap, true≢false}
use Rattle.std.specs.List.{find, list_any}
use Rattle.std.specs.Option.{is_some, unwrap_or}
use Rattle.std.specs.Prelude.{◌||◌}

pub some_not_none : {X : Type 0} (x : X) (o : Option X) → o ≡ None → o ≡ Some x → ⊥
some_not_none x o none some = true≢false (ap is_some (sym some ∙ none))

pub some_is : {X : Type 0} (x y : X) → Some x ≡ Some y → x ≡ y
some_is x y e = ap (λ o. unwrap_or o x) e

pub one_value : {X : Type 0} (o : Option X) (x y : X) → o ≡ Some x → o ≡ Some y → x ≡ y
one_value o x y one two = some_is x y (sym one ∙ two)

-- nothing is found where nothing passes the test
pub find_none : {X : Type 0} (test : X → Bool) (xs : List X) → list_any test xs ≡ false → find test xs ≡ None
find_none test [] none = refl
find_none {X} test (x ∷ rest) none = go (find_none test rest) (test x) none
  where
    go : (list_any test rest ≡ false → find test rest ≡ None) → (b : Bool) → (b || list_any test rest) ≡ false
        → cond b (Some x) (find test rest) ≡ None
    go later true e = absurd (true≢false e)
    go later false e = later e
