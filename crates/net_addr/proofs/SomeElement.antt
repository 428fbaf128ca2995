-- Lists of which some element has a property.
use Rattle.std.proofs.Common.{arith}
use Rattle.std.proofs.lemmas.Grind.{common_steps}
use Rattle.std.proofs.Common.{◌≡◌, ℕ, ◌+◌, ◌<◌, ◌⊎◌, List, [], ◌∷◌, ◌++◌, length, take, get_or, sym, ap, ◌∙◌}
use Rattle.std.specs.List.{Any, Contains}
use Rattle.std.proofs.lemmas.List.{take_more}
use Rattle.std.proofs.lemmas.List.Elements.{Contains-append_left, Contains-push_cases}

pub any_of : {Y : Type 0} (P : Y → Type 0) (ys : List Y) (y : Y) → Contains ys y → P y → Any P ys
any_of P ys y has p = (has.0, y, has.1, has.2, p)

-- an element of the list of which P holds
pub record Found {Y : Type 0} (P : Y → Type 0) (ys : List Y) : Type 0 where
  pub item : Y
  pub among : Contains ys item
  pub holds : P item

pub any_in : {Y : Type 0} (P : Y → Type 0) (ys : List Y) → Any P ys → Found P ys
any_in P ys any = record { item = any.1; among = (any.0, any.2, any.3); holds = any.4 }

pub any_left : {Y : Type 0} (P : Y → Type 0) (front : List Y) (y : Y) → Any P front → Any P (front ++ y ∷ [])
any_left P front y any =
    let f = any_in P front any in any_of P (front ++ y ∷ []) f.item (Contains-append_left front (y ∷ []) f.item f.among) f.holds

pub any_cases : {Y : Type 0} (P : Y → Type 0) (front : List Y) (y : Y) → Any P (front ++ y ∷ []) → Any P front ⊎ P y
any_cases P front y any = grind (arith, common_steps, Contains-push_cases, any_in, any_of)

pub one_more : {Y : Type 0} (ys : List Y) (i : ℕ) (y : Y) → i < length ys → y ≡ get_or ys i y → take i ys ++ y ∷ [] ≡ take (i + 1) ys
one_more {Y} ys i y within is = sym (take_more ys i y within ∙ ap (λ (z : Y). take i ys ++ z ∷ []) (sym is))
