-- Lists of what a relation holds of, element by element and router by router.
use Rattle.std.proofs.lemmas.Grind.{common_steps}
use Rattle.std.proofs.Common.{◌≡◌, ℕ, ◌+◌, ◌<◌, ◌≤◌, ◌↔◌, ◌⊎◌, inl, inr, ⊎_elim, List, [], ◌∷◌, ◌++◌, length, map, take, get_or, Option, Some}
use Rattle.std.proofs.Common.{true, false, sym, ap, subst, ◌∙◌, arith}
use Rattle.std.specs.Option.{is_some}
use Rattle.std.proofs.lemmas.Option.{none-some}
use Rattle.std.specs.List.{Contains, Any, All, AllWithin}
use Rattle.std.proofs.lemmas.Bool.{cases_lt}
use Rattle.std.proofs.lemmas.List.{take_all, get_or_default, get_or_append_left, get_or_push, get_or-map, length-map}
use Rattle.std.proofs.lemmas.List.Elements.{Contains-append_left, Contains-get_or, Contains-push, Contains-push_cases}
use Rattle.std.proofs.lemmas.List.Quantifiers.{Any-push}
use Rattle.net_addr.proofs.SomeElement.{any_in, any_left, any_cases, one_more}
use Rattle.route_tables.specs.Lists.{Exactly, Adds}

-- what says the same as what says the same
pub iff_then : {P Q R : Type 0} → P ↔ Q → Q ↔ R → P ↔ R
iff_then one other = (λ p. other.0 (one.0 p), λ r. one.1 (other.1 r))

-- Some element

pub contains_at : {Y : Type 0} (ys : List Y) (i : ℕ) (y : Y) → i < length ys → y ≡ get_or ys i y → Contains ys y
contains_at ys i y within is = (i, within, sym is)

-- what is in a list of one is that
pub the_one : {Y : Type 0} (x y : Y) → Contains (x ∷ []) y → y ≡ x
the_one x y among = grind (arith, common_steps, Contains-push_cases)

-- one of one or of two elements is
pub any_in_one : {Y : Type 0} (P : Y → Type 0) (y : Y) → Any P (y ∷ []) → P y
any_in_one P y any = let f = any_in P (y ∷ []) any in subst P (the_one y f.item f.among) f.holds

pub any_in_two : {Y : Type 0} (P : Y → Type 0) (x y : Y) → Any P (x ∷ y ∷ []) → P x ⊎ P y
any_in_two P x y any = ⊎_elim (λ first. inl (any_in_one P x first)) (λ second. inr second) (any_cases P (x ∷ []) y any)

-- What comes to a list

pub adds_nothing : {X : Type 0} (old : List X) (wanted : X → Type 0) → ((x : X) → wanted x → ⊥) → Adds old old wanted
adds_nothing old wanted none = λ x. (λ has. inl has, λ either. ⊎_elim (λ has. has) (λ now. absurd (none x now)) either)

pub adds_one : {X : Type 0} (old : List X) (y : X) → Adds old (old ++ y ∷ []) (λ x. y ≡ x)
adds_one {X} old y = λ x. (
  λ has. Contains-push_cases old y x has,
  λ either. ⊎_elim (λ has. Contains-append_left old (y ∷ []) x has) (λ same. subst (λ (z : X). Contains (old ++ y ∷ []) z) same (Contains-push old y)) either,
)

pub adds_same : {X : Type 0} (old new : List X) (before after : X → Type 0) → Adds old new before → ((x : X) → before x ↔ after x) → Adds old new after
adds_same old new before after adds same = λ x. (
  λ has. ⊎_elim (λ earlier. inl earlier) (λ now. inr ((same x).0 now)) ((adds x).0 has),
  λ either. (adds x).1 (⊎_elim (λ earlier. inl earlier) (λ now. inr ((same x).1 now)) either),
)

pub adds_both : {X : Type 0} (old mid new : List X) (one other both : X → Type 0) → Adds old mid one → Adds mid new other →
    ((x : X) → both x ↔ (one x ⊎ other x)) → Adds old new both
adds_both old mid new one other both first second same = λ x. (
  λ has. ⊎_elim
      (λ earlier. ⊎_elim (λ older. inl older) (λ now. inr ((same x).1 (inl now))) ((first x).0 earlier))
      (λ now. inr ((same x).1 (inr now)))
      ((second x).0 has),
  λ either. ⊎_elim
      (λ older. (second x).1 (inl ((first x).1 (inl older))))
      (λ now. ⊎_elim (λ a. (second x).1 (inl ((first x).1 (inr a)))) (λ b. (second x).1 (inr b)) ((same x).0 now))
      either,
)

-- all that is there was added
pub exactly_added : {X : Type 0} (old new : List X) (wanted : X → Type 0) → old ≡ [] → Adds old new wanted → Exactly wanted new
exactly_added {X} old new wanted empty adds = grind (arith, common_steps)

pub exactly_same : {X : Type 0} (all : List X) (before after : X → Type 0) → Exactly before all → ((x : X) → before x ↔ after x) → Exactly after all
exactly_same all before after are same = λ x. (λ has. (same x).0 ((are x).0 has), λ now. (are x).1 ((same x).1 now))

-- Element by element

pub adds_start : {X Y : Type 0} (gives : X → Y → Type 0) (old : List X) (ys : List Y) → Adds old old (λ x. Any (gives x) (take 0 ys))
adds_start gives old ys = adds_nothing old (λ x. Any (gives x) (take 0 ys)) (λ x any. omega (arith, any.2))

-- the elements so far with the next are one more
-- one more element, which gives this
pub adds_more : {X Y : Type 0} (gives : X → Y → Type 0) (old mid new : List X) (ys : List Y) (i : ℕ) (y : Y) → i < length ys → y ≡ get_or ys i y →
    Adds old mid (λ x. Any (gives x) (take i ys)) → Adds mid new (λ x. gives x y) → Adds old new (λ x. Any (gives x) (take (i + 1) ys))
adds_more {X} {Y} gives old mid new ys i y within is before adds =
    subst (λ (l : List Y). Adds old new (λ x. Any (gives x) l)) (one_more ys i y within is)
    (adds_both old mid new (λ x. Any (gives x) (take i ys)) (λ x. gives x y) (λ x. Any (gives x) (take i ys ++ y ∷ [])) before adds
    (λ x. (
      λ any. any_cases (gives x) (take i ys) y any,
      λ either. ⊎_elim (λ any. any_left (gives x) (take i ys) y any) (λ now. Any-push (gives x) (take i ys) y now) either,
    )))

-- one more element, which gives at most one thing
pub adds_step : {X Y : Type 0} (gives : X → Y → Type 0) (old mid new : List X) (ys : List Y) (i : ℕ) (y : Y) (one : Option X) → i < length ys →
    y ≡ get_or ys i y →
    Adds old mid (λ x. Any (gives x) (take i ys)) → Adds mid new (λ x. one ≡ Some x) → ((x : X) → (one ≡ Some x) ↔ gives x y) →
    Adds old new (λ x. Any (gives x) (take (i + 1) ys))
adds_step gives old mid new ys i y one within is before adds found =
    adds_more gives old mid new ys i y within is before (adds_same mid new (λ x. one ≡ Some x) (λ x. gives x y) adds found)

-- the same, where the element is read with a default
pub adds_at : {X Y : Type 0} (gives : X → Y → Type 0) (old mid new : List X) (ys : List Y) (i : ℕ) (d : Y) (one : Option X) → i < length ys →
    Adds old mid (λ x. Any (gives x) (take i ys)) → Adds mid new (λ x. one ≡ Some x) → ((x : X) → (one ≡ Some x) ↔ gives x (get_or ys i d)) →
    Adds old new (λ x. Any (gives x) (take (i + 1) ys))
adds_at gives old mid new ys i d one within before adds found =
    adds_step gives old mid new ys i (get_or ys i d) one within (get_or_default ys i d (get_or ys i d) within) before adds found

pub adds_end : {X Y : Type 0} (gives : X → Y → Type 0) (old new : List X) (ys : List Y) (i : ℕ) → length ys ≤ i →
    Adds old new (λ x. Any (gives x) (take i ys)) → Adds old new (λ x. Any (gives x) ys)
adds_end {X} {Y} gives old new ys i past adds = subst (λ (l : List Y). Adds old new (λ x. Any (gives x) l)) (take_all i ys past) adds

-- Router by router

-- a number below n gives x
pub record AnyBelow {X : Type 0} (gives : ℕ → X → Type 0) (n : ℕ) (x : X) : Type 0 where
  pub source : ℕ
  pub below : source < n
  pub given : gives source x

pub below_start : {X : Type 0} (gives : ℕ → X → Type 0) (old : List X) → Adds old old (AnyBelow gives 0)
below_start gives old = adds_nothing old (AnyBelow gives 0) (λ x any. omega (arith, any.below))

pub at_most : (k m : ℕ) → k < m + 1 → (k < m) ⊎ (k ≡ m)
at_most k m h = elim (cases_lt k m) [ inl less ↦ inl less | inr more ↦ inr (omega arith) ]

pub below_step : {X : Type 0} (gives : ℕ → X → Type 0) (old mid new : List X) (n : ℕ) → Adds old mid (AnyBelow gives n) → Adds mid new (gives n) →
    Adds old new (AnyBelow gives (n + 1))
below_step {X} gives old mid new n before adds =
    adds_both old mid new (AnyBelow gives n) (gives n) (AnyBelow gives (n + 1)) before adds
    (λ x. (
      λ any. ⊎_elim
          (λ less. inl (record { source = any.source; below = less; given = any.given }))
          (λ same. inr (subst (λ (k : ℕ). gives k x) same any.given))
          (at_most any.source n any.below),
      λ either. ⊎_elim
          (λ any. record { source = any.source; below = omega (arith, any.below); given = any.given })
          (λ now. record { source = n; below = omega arith; given = now })
          either,
    ))

-- what the numbers below n give is all
pub exactly_below : {X : Type 0} (gives : ℕ → X → Type 0) (wanted : X → Type 0) (old new : List X) (n : ℕ) → old ≡ [] → Adds old new (AnyBelow gives n) →
    ((x : X) → wanted x → AnyBelow gives n x) → ((u : ℕ) (x : X) → gives u x → wanted x) → Exactly wanted new
exactly_below gives wanted old new n empty adds there back =
    exactly_added old new wanted empty (adds_same old new (AnyBelow gives n) wanted adds (λ x. (λ any. back any.source x any.given, there x)))

-- one more element of which P holds
pub all_at : {Y : Type 0} (P : Y → Type 0) (ys : List Y) (i : ℕ) (y : Y) → All P ys → i < length ys → y ≡ get_or ys i y → P y
all_at P ys i y all within is = subst P (sym is) (all i y within)

-- what holds of each element so far, by its place, and of one more, holds of all of them
pub each_more : {X : Type 0} (R : ℕ → X → Type 0) (all : List X) (n : ℕ) (next d : X) → length all ≡ n →
    ((u : ℕ) → u < n → R u (get_or all u d)) → R n next → (u : ℕ) → u < n + 1 → R u (get_or (all ++ next ∷ []) u d)
each_more {X} R all n next d long before here u below = grind (arith, common_steps, at_most, get_or_append_left, get_or_push)

-- What a function makes of each element

pub contains_map : {X Y : Type 0} (f : X → Y) (xs : List X) (x : X) → Contains xs x → Contains (map f xs) (f x)
contains_map f xs x (k, below, is) =
    let long = length-map xs f in
    (k, omega (arith, long), get_or-map f xs k x (f x) below ∙ ap f is)

pub map_source : {X Y : Type 0} (f : X → Y) (xs : List X) (d : X) (y : Y) → Contains (map f xs) y → (x : X) × Contains xs x × (f x ≡ y)
map_source f xs d y (k, below, is) =
    let long = length-map xs f in
    let within : k < length xs = omega (arith, long) in
    (get_or xs k d, Contains-get_or xs k d within, sym (get_or-map f xs k d y within) ∙ is)

-- what holds of each element so far and of the next
pub within_more : {Y : Type 0} (P : Y → Type 0) (ys : List Y) (i : ℕ) (y : Y) → i < length ys → y ≡ get_or ys i y → AllWithin P ys 0 i → P y →
    AllWithin P ys 0 (i + 1)
within_more P ys i y within is before here k d low below = grind (arith, common_steps, at_most, get_or_default)

-- what holds of each element that was passed holds of all at the end
pub all_passed : {Y : Type 0} (P : Y → Type 0) (ys : List Y) (i : ℕ) → length ys ≤ i → AllWithin P ys 0 i → All P ys
all_passed P ys i past within k d inside = within k d (omega arith) (omega arith)

-- an option that is something, and one that is nothing
pub some_of : {X : Type 0} (o : Option X) → is_some o ≡ true → (x : X) × (o ≡ Some x)
some_of o is = grind (arith, common_steps)

pub none_of : {X : Type 0} (o : Option X) → is_some o ≡ false → (x : X) → o ≡ Some x → ⊥
none_of o is x same = grind (arith, common_steps, none-some)
