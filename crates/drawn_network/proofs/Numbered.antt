-- What is told of the numbers below another one.
use Rattle.std.proofs.Common.{◌≡◌, ◌∙◌, ℕ, ◌+◌, List, ◌++◌, ap, sym}
use Rattle.std.specs.List.{flat_map}
use Rattle.std.proofs.lemmas.List.{flat_map_more}
use Rattle.order_core.specs.Rankings.{numbers_below}
use Rattle.order_core.proofs.WaveLists.{numbers_more}

-- that of one number more
pub numbered_more : {A : Type 0} (f : ℕ → List A) (start before after : List A) (n : ℕ) → after ≡ before ++ f n →
    before ≡ start ++ flat_map f (numbers_below n) → after ≡ start ++ flat_map f (numbers_below (n + 1))
numbered_more {A} f start before after n more is =
    more ∙ ap (λ (l : List A). l ++ f n) is ∙ flat_map_more f start (numbers_below n) n
    ∙ ap (λ (l : List ℕ). start ++ flat_map f l) (sym (numbers_more n))
