-- Elements of lists: at the front, in joined, mapped and filtered lists, and how many distinct ones there may be.
use Rattle.std.proofs.Common.{◌≡◌, ◌≢◌, ℕ, zero, suc, ◌<◌, ◌≤◌, List, [], ◌∷◌, length, map, get_or, Option, Some, None, Contains, AllPairs, refl, sym, ap}
use Rattle.std.proofs.Common.{subst, ◌∙◌, ◌⊎◌, ⊎_elim, inl, inr, arith}
use Rattle.std.specs.List.{cons_option, filter_map, flat_map, remove}
use Rattle.std.proofs.lemmas.List.Elements.{Contains-append_left, Contains-append_right, Contains-append_cases}
use Rattle.std.proofs.lemmas.Map.Made.{Contains-tail}
use Rattle.std.proofs.lemmas.List.Sorted.{IsPermutation-remove, Contains-permutation, length_permutation}

-- an element of the list to which f gives a
pub record IsGivenBy {X A : Type 0} (f : X → A) (xs : List X) (a : A) : Type 0 where
  pub item : X
  pub among : Contains xs item
  pub gives : f item ≡ a

-- an element of the list to which f gives a list that has a
pub record IsInOne {X A : Type 0} (f : X → List A) (xs : List X) (a : A) : Type 0 where
  pub item : X
  pub among : Contains xs item
  pub inside : Contains (f item) a

pub Contains-none : {X : Type 0} (x : X) → Contains [] x → ⊥
Contains-none x h = omega (arith, h.1)

pub Contains-first : {X : Type 0} (x : X) (xs : List X) → Contains (x ∷ xs) x
Contains-first x xs = (0, omega arith, refl)

pub Contains-rest : {X : Type 0} (y : X) (xs : List X) (x : X) → Contains xs x → Contains (y ∷ xs) x
Contains-rest y xs x h = Contains-append_right (y ∷ []) xs x h

cases_at : {X : Type 0} (y : X) (xs : List X) (x : X) (k : ℕ) → k < length (y ∷ xs) → get_or (y ∷ xs) k x ≡ x → (y ≡ x) ⊎ Contains xs x
cases_at y xs x zero l e = inl e
cases_at y xs x (suc k) l e = inr (k, omega arith, e)

-- an element is the first one, or among the rest
pub Contains-cases : {X : Type 0} (y : X) (xs : List X) (x : X) → Contains (y ∷ xs) x → (y ≡ x) ⊎ Contains xs x
Contains-cases y xs x h = cases_at y xs x h.0 h.1 h.2

pub Contains-flat_map : {X A : Type 0} (f : X → List A) (xs : List X) (a : A) → Contains (flat_map f xs) a → IsInOne f xs a
Contains-flat_map f [] a h = absurd (Contains-none a h)
Contains-flat_map f (x ∷ xs) a h =
    ⊎_elim
    (λ l. record { item = x; among = Contains-first x xs; inside = l })
    (λ r.
    let one = Contains-flat_map f xs a r in
    record { item = one.item; among = Contains-rest x xs one.item one.among; inside = one.inside })
    (Contains-append_cases (f x) (flat_map f xs) a h)

pub Contains-in_flat_map : {X A : Type 0} (f : X → List A) (xs : List X) (x : X) (a : A) → Contains xs x → Contains (f x) a → Contains (flat_map f xs) a
Contains-in_flat_map f [] x a c h = absurd (Contains-none x c)
Contains-in_flat_map f (y ∷ xs) x a c h =
    ⊎_elim
    (λ e. Contains-append_left (f y) (flat_map f xs) a (subst (λ z. Contains (f z) a) (sym e) h))
    (λ r. Contains-append_right (f y) (flat_map f xs) a (Contains-in_flat_map f xs x a r h))
    (Contains-cases y xs x c)

pub Contains-map : {X A : Type 0} (f : X → A) (xs : List X) (a : A) → Contains (map f xs) a → IsGivenBy f xs a
Contains-map f [] a h = absurd (Contains-none a h)
Contains-map f (x ∷ xs) a h =
    ⊎_elim
    (λ e. record { item = x; among = Contains-first x xs; gives = e })
    (λ r.
    let one = Contains-map f xs a r in
    record { item = one.item; among = Contains-rest x xs one.item one.among; gives = one.gives })
    (Contains-cases (f x) (map f xs) a h)

pub Contains-in_map : {X A : Type 0} (f : X → A) (xs : List X) (x : X) → Contains xs x → Contains (map f xs) (f x)
Contains-in_map f [] x c = absurd (Contains-none x c)
Contains-in_map f (y ∷ xs) x c =
    ⊎_elim
    (λ e. subst (λ z. Contains (map f (y ∷ xs)) (f z)) e (Contains-first (f y) (map f xs)))
    (λ r. Contains-rest (f y) (map f xs) (f x) (Contains-in_map f xs x r))
    (Contains-cases y xs x c)

-- by what h gives of the first element
kept_cases : {X A : Type 0} (h : X → Option A) (x : X) (xs : List X) (a : A) (o : Option A) → h x ≡ o →
    (Contains (filter_map h xs) a → IsGivenBy h xs (Some a)) → Contains (cons_option o (filter_map h xs)) a → IsGivenBy h (x ∷ xs) (Some a)
kept_cases h x xs a None e rest c =
    let one = rest c in
    record { item = one.item; among = Contains-rest x xs one.item one.among; gives = one.gives }
kept_cases h x xs a (Some b) e rest c =
    ⊎_elim
    (λ same. record { item = x; among = Contains-first x xs; gives = e ∙ ap Some same })
    (λ r.
    let one = rest r in
    record { item = one.item; among = Contains-rest x xs one.item one.among; gives = one.gives })
    (Contains-cases b (filter_map h xs) a c)

pub Contains-filter_map : {X A : Type 0} (h : X → Option A) (xs : List X) (a : A) → Contains (filter_map h xs) a → IsGivenBy h xs (Some a)
Contains-filter_map h [] a c = absurd (Contains-none a c)
Contains-filter_map h (x ∷ xs) a c = kept_cases h x xs a (h x) refl (Contains-filter_map h xs a) c

kept_rest : {A : Type 0} (o : Option A) (l : List A) (a : A) → Contains l a → Contains (cons_option o l) a
kept_rest None l a c = c
kept_rest (Some b) l a c = Contains-rest b l a c

pub Contains-in_filter_map : {X A : Type 0} (h : X → Option A) (xs : List X) (x : X) (a : A) → Contains xs x → h x ≡ Some a → Contains (filter_map h xs) a
Contains-in_filter_map h [] x a c e = absurd (Contains-none x c)
Contains-in_filter_map h (y ∷ xs) x a c e =
    ⊎_elim
    (λ same. subst (λ o. Contains (cons_option o (filter_map h xs)) a) (sym (ap h same ∙ e)) (Contains-first a (filter_map h xs)))
    (λ r. kept_rest (h y) (filter_map h xs) a (Contains-in_filter_map h xs x a r e))
    (Contains-cases y xs x c)

-- a list of distinct elements is no longer than a list that has them all
pub length-le_from_distinct : {X : Type 0} (xs ys : List X) → AllPairs (λ (x y : X). x ≢ y) xs → ((x : X) → Contains xs x → Contains ys x) →
    length xs ≤ length ys
length-le_from_distinct [] ys apart inside = omega arith
length-le_from_distinct (x ∷ xs) ys apart inside =
    let at = inside x (Contains-first x xs) in
    let rest = remove ys at.0 in
    let moved = IsPermutation-remove ys at.0 x at.1 (sym at.2) in
    let long = length_permutation ys (x ∷ rest) moved in
    let step =
    length-le_from_distinct xs rest (λ i j d l h. apart (suc i) (suc j) d (omega arith) (omega arith))
    (λ z c. Contains-tail x rest z (λ e. apart 0 (suc c.0) z (omega arith) (omega (arith, c.1)) (e ∙ sym c.2)) (Contains-permutation ys (x ∷ rest) z moved
    (inside z (Contains-rest x xs z c)))) in
    omega (arith, long, step)

-- two lists of distinct elements with the same elements are as long
pub length-same_from_distinct : {X : Type 0} (xs ys : List X) → AllPairs (λ (x y : X). x ≢ y) xs → AllPairs (λ (x y : X). x ≢ y) ys →
    ((x : X) → Contains xs x → Contains ys x) → ((x : X) → Contains ys x → Contains xs x) → length xs ≡ length ys
length-same_from_distinct xs ys a b into back =
    omega (arith, length-le_from_distinct xs ys a into, length-le_from_distinct ys xs b back)
