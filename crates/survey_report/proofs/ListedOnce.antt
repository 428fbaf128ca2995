-- Lists in an order in which no element stands before itself: with the same elements they are the same.
use Rattle.std.proofs.Common.{◌≡◌, ℕ, suc, List, [], ◌∷◌, Contains, AllPairs, refl, sym, subst, ◌∙◌}
use Rattle.std.proofs.Common.{⊎_elim, arith}
use Rattle.net_model.proofs.Members.{Contains-cases, Contains-first, Contains-none, Contains-rest, length-same_from_distinct}
use Rattle.network_survey.specs.Listings.{CountsAll, ListsAll}

module _ {A : Type 0} (Before : A → A → Type 0) (never : (x : A) → Before x x → ⊥) (onward : (x y z : A) → Before x y → Before y z → Before x z) where
  before_rest : (x : A) (xs : List A) (y : A) → AllPairs Before (x ∷ xs) → Contains xs y → Before x y
  before_rest x xs y up h = subst (Before x) h.2 (up 0 (suc h.0) y (omega arith) (omega (arith, h.1)))

  rest_up : (x : A) (xs : List A) → AllPairs Before (x ∷ xs) → AllPairs Before xs
  rest_up x xs up i j d l h = up (suc i) (suc j) d (omega arith) (omega arith)

  first_same : (x : A) (xs : List A) (y : A) (ys : List A) → AllPairs Before (x ∷ xs) → AllPairs Before (y ∷ ys) →
      Contains (y ∷ ys) x → Contains (x ∷ xs) y → x ≡ y
  first_same x xs y ys one other into back =
      ⊎_elim sym
      (λ behind.
      ⊎_elim (λ e. e)
      (λ after. absurd (never x (onward x y x (before_rest x xs y one after) (before_rest y ys x other behind))))
      (Contains-cases x xs y back))
      (Contains-cases y ys x into)

  later : (x : A) (xs : List A) (y : A) (ys : List A) (z : A) → AllPairs Before (x ∷ xs) → y ≡ x → Contains xs z → Contains (y ∷ ys) z →
      Contains ys z
  later x xs y ys z up same among inside =
      ⊎_elim (λ e. absurd (never x (subst (Before x) (sym e ∙ same) (before_rest x xs z up among)))) (λ r. r) (Contains-cases y ys z inside)

  pub ascending_same : (xs ys : List A) → AllPairs Before xs → AllPairs Before ys → ((x : A) → Contains xs x → Contains ys x) →
      ((x : A) → Contains ys x → Contains xs x) → xs ≡ ys
  ascending_same [] [] one other into back = refl
  ascending_same [] (y ∷ ys) one other into back = absurd (Contains-none y (back y (Contains-first y ys)))
  ascending_same (x ∷ xs) [] one other into back = absurd (Contains-none x (into x (Contains-first x xs)))
  ascending_same (x ∷ xs) (y ∷ ys) one other into back =
      let first : x ≡ y = first_same x xs y ys one other (into x (Contains-first x xs)) (back y (Contains-first y ys)) in
      let rest : xs ≡ ys =
      ascending_same xs ys (rest_up x xs one) (rest_up y ys other)
      (λ z among. later x xs y ys z one (sym first) among (into z (Contains-rest x xs z among)))
      (λ z among. later y ys x xs z other first among (back z (Contains-rest y ys z among))) in
      λ i. first i ∷ rest i

  pub ListsAll-unique : (P : A → Type 0) (xs ys : List A) → ListsAll Before P xs → ListsAll Before P ys → xs ≡ ys
  ListsAll-unique P xs ys one other =
      ascending_same xs ys one.ascending other.ascending (λ x c. (other.exact x).1 ((one.exact x).0 c))
      (λ x c. (one.exact x).1 ((other.exact x).0 c))

pub CountsAll-unique : {A : Type 0} (P : A → Type 0) (m n : ℕ) → CountsAll P m → CountsAll P n → m ≡ n
CountsAll-unique P m n one other =
    sym one.count_is
    ∙ length-same_from_distinct one.items other.items one.once other.once
    (λ x c. (other.exact x).1 ((one.exact x).0 c)) (λ x c. (one.exact x).1 ((other.exact x).0 c))
    ∙ other.count_is
