-- How often pairs are assumed.
use Rattle.std.proofs.lemmas.Grind.{common_steps}
use Rattle.std.proofs.Common.{◌≡◌, ◌≢◌, ℕ, ◌+◌, ◌*◌, ◌-◌, ◌<◌, ◌≤◌, ◌⊎◌, ◌↔◌, inl, inr, Bool, true, false}
use Rattle.std.proofs.Common.{cond, eqb, List, [], ◌∷◌, ◌++◌, length, length-append, get_or, set, Contains, arith, refl, sym, ap}
use Rattle.std.proofs.Common.{◌∙◌, subst}
use Rattle.std.proofs.lemmas.Bool.{false≢true}
use Rattle.std.proofs.lemmas.List.{get_or_append_left, get_or_read, get_or-set_same, get_or-set_other, length-set}
use Rattle.std.proofs.lemmas.List.Elements.{All-contains, Contains-push}
use Rattle.std.proofs.lemmas.Nat.{same_from_place, mul-add-lt}
use Rattle.net_model.proofs.Members.{Contains-none, Contains-first, Contains-rest, Contains-cases}
use Rattle.order_core.specs.Pairs.{Pair, AreBelow}
use Rattle.refutation_check.specs.steps.Assumed.{is_pair, times, ArePairCounts}

-- a pair of numbers
abbrev pub pair_of : ℕ → ℕ → Pair
pair_of u v = (u, v)

-- one for a test that holds
abbrev count_if : Bool → ℕ
count_if b = cond b 1 0

-- whether a pair is that of u and v: it is, or it isn't
abbrev TellsPair : ℕ → ℕ → Pair → Type 0
TellsPair u v p = ((is_pair u v p ≡ true) × (p ≡ pair_of u v)) ⊎ ((is_pair u v p ≡ false) × (p ≢ pair_of u v))

is_pair_cases : (u v : ℕ) (p : Pair) (a b : Bool) → eqb p.0 u ≡ a → eqb p.1 v ≡ b → TellsPair u v p
is_pair_cases u v p a b e f = grind (arith, common_steps, false≢true)

pub pair_cases : (u v : ℕ) (p : Pair) → TellsPair u v p
pair_cases u v p = is_pair_cases u v p (eqb p.0 u) (eqb p.1 v) refl refl

-- one pair more
times-push : (pairs : List Pair) (p : Pair) (u v : ℕ) → times (pairs ++ p ∷ []) u v ≡ times pairs u v + count_if (is_pair u v p)
times-push [] p u v = omega arith
times-push (q ∷ pairs) p u v = omega (arith, times-push pairs p u v)

-- a pair is assumed where it's counted
pub counted_from : (pairs : List Pair) (u v : ℕ) → Contains pairs (pair_of u v) → 0 < times pairs u v
counted_from [] u v has = absurd (Contains-none (pair_of u v) has)
counted_from (p ∷ pairs) u v has = elim (Contains-cases p pairs (pair_of u v) has) [
  | inl same ↦ here (pair_cases u v p) same
  | inr later ↦ omega (arith, counted_from pairs u v later)
]
  where
    here : TellsPair u v p → p ≡ pair_of u v → 0 < count_if (is_pair u v p) + times pairs u v
    here (inl is) same = let one : count_if (is_pair u v p) ≡ 1 = ap count_if is.0 in omega (arith, one)
    here (inr other) same = absurd (other.1 same)

pub counted_is : (pairs : List Pair) (u v : ℕ) → 0 < times pairs u v → Contains pairs (pair_of u v)
counted_is [] u v some = absurd (omega (arith, some))
counted_is (p ∷ pairs) u v some = by_case (counted_is pairs u v) (pair_cases u v p)
  where
    by_case : (0 < times pairs u v → Contains pairs (pair_of u v)) → TellsPair u v p → Contains (p ∷ pairs) (pair_of u v)
    by_case later (inl is) = subst (λ (q : Pair). Contains (q ∷ pairs) (pair_of u v)) (sym is.1) (Contains-first (pair_of u v) pairs)
    by_case later (inr other) =
        let none : count_if (is_pair u v p) ≡ 0 = ap count_if other.0 in
        Contains-rest p pairs (pair_of u v) (later (omega (arith, some, none)))

times-few : (pairs : List Pair) (u v : ℕ) → times pairs u v ≤ length pairs
times-few [] u v = omega arith
times-few (p ∷ pairs) u v = by_case (times-few pairs u v) (pair_cases u v p)
  where
    by_case : times pairs u v ≤ length pairs → TellsPair u v p → times (p ∷ pairs) u v ≤ length (p ∷ pairs)
    by_case few (inl is) = let one : count_if (is_pair u v p) ≡ 1 = ap count_if is.0 in omega (arith, one, few)
    by_case few (inr other) = let none : count_if (is_pair u v p) ≡ 0 = ap count_if other.0 in omega (arith, none, few)

-- the count at the place of a pair
pub count_few : (n : ℕ) (pairs : List Pair) (counts : List ℕ) (u v : ℕ) → ArePairCounts n pairs counts → u < n → v < n →
    get_or counts (u * n + v) 0 ≤ length pairs
count_few n pairs counts u v are u_in v_in = omega (arith, are.each u v u_in v_in, times-few pairs u v)

-- the same list of pairs and counts, or one pair more at its place
changed : (n : ℕ) (before after : List Pair) (counts : List ℕ) (a b c : ℕ) → a < n → b < n → ArePairCounts n before counts
    → ((u v : ℕ) → u < n → v < n → pair_of u v ≢ pair_of a b → times after u v ≡ times before u v) → times after a b ≡ c →
    ArePairCounts n after (set counts (a * n + b) c)
changed n before after counts a b c a_in b_in are other here = record {
  many = length-set counts (a * n + b) c ∙ are.many;
  each = λ u v u_in v_in. by_case u v u_in v_in (pair_cases a b (pair_of u v));
}
  where
    place_in : a * n + b < length counts
    place_in = omega (arith, mul-add-lt a n b n a_in b_in, are.many)

    by_case : (u v : ℕ) → u < n → v < n → TellsPair a b (pair_of u v) → get_or (set counts (a * n + b) c) (u * n + v) 0 ≡ times after u v
    by_case u v u_in v_in (inl is) =
        let first : u ≡ a = ap (λ (q : Pair). q.0) is.1 in
        let second : v ≡ b = ap (λ (q : Pair). q.1) is.1 in
        subst (λ (x : ℕ). get_or (set counts (a * n + b) c) (x * n + v) 0 ≡ times after x v) (sym first)
        (subst (λ (y : ℕ). get_or (set counts (a * n + b) c) (a * n + y) 0 ≡ times after a y) (sym second)
        (get_or-set_same counts (a * n + b) c 0 place_in ∙ sym here))
    by_case u v u_in v_in (inr is) =
        let apart : u * n + v ≢ a * n + b = λ e.
        let same = same_from_place u v a b n v_in b_in e in
        is.1 (ap (λ (x : ℕ). pair_of x v) same.0 ∙ ap (λ (y : ℕ). pair_of a y) same.1) in
        get_or-set_other counts (a * n + b) (u * n + v) c 0 apart ∙ are.each u v u_in v_in ∙ sym (other u v u_in v_in is.1)

same_pair : (a b : ℕ) → count_if (is_pair a b (pair_of a b)) ≡ 1
same_pair a b = by_case (pair_cases a b (pair_of a b))
  where
    by_case : TellsPair a b (pair_of a b) → count_if (is_pair a b (pair_of a b)) ≡ 1
    by_case (inl is) = ap count_if is.0
    by_case (inr other) = absurd (other.1 refl)

other_pair : (a b u v : ℕ) → pair_of u v ≢ pair_of a b → count_if (is_pair u v (pair_of a b)) ≡ 0
other_pair a b u v apart = by_case (pair_cases u v (pair_of a b))
  where
    by_case : TellsPair u v (pair_of a b) → count_if (is_pair u v (pair_of a b)) ≡ 0
    by_case (inl is) = absurd (apart (sym is.1))
    by_case (inr other) = ap count_if other.0

-- one pair more is counted
pub counts_add : (n : ℕ) (pairs : List Pair) (counts : List ℕ) (a b : ℕ) → a < n → b < n → ArePairCounts n pairs counts
    → ArePairCounts n (pairs ++ pair_of a b ∷ []) (set counts (a * n + b) (get_or counts (a * n + b) 0 + 1))
counts_add n pairs counts a b a_in b_in are =
    changed n pairs (pairs ++ pair_of a b ∷ []) counts a b (get_or counts (a * n + b) 0 + 1) a_in b_in are
    (λ u v u_in v_in apart. omega (arith, times-push pairs (pair_of a b) u v, other_pair a b u v apart))
    (omega (arith, times-push pairs (pair_of a b) a b, same_pair a b, are.each a b a_in b_in))

-- one pair fewer is counted
pub counts_back : (n : ℕ) (pairs : List Pair) (counts : List ℕ) (a b : ℕ) → a < n → b < n → ArePairCounts n (pairs ++ pair_of a b ∷ []) counts
    → ArePairCounts n pairs (set counts (a * n + b) (get_or counts (a * n + b) 0 - 1))
counts_back n pairs counts a b a_in b_in are =
    changed n (pairs ++ pair_of a b ∷ []) pairs counts a b (get_or counts (a * n + b) 0 - 1) a_in b_in are
    (λ u v u_in v_in apart. omega (arith, times-push pairs (pair_of a b) u v, other_pair a b u v apart))
    (omega (arith, times-push pairs (pair_of a b) a b, same_pair a b, are.each a b a_in b_in))

pub counted_last : (n : ℕ) (pairs : List Pair) (counts : List ℕ) (a b : ℕ) → a < n → b < n →
    ArePairCounts n (pairs ++ pair_of a b ∷ []) counts →
    0 < get_or counts (a * n + b) 0
counted_last n pairs counts a b a_in b_in are = omega (arith, times-push pairs (pair_of a b) a b, same_pair a b, are.each a b a_in b_in)

-- the same, where the place and what stands there are told by numbers

read_at : (n a b place r : ℕ) (counts : List ℕ) (pairs : List Pair) → a < n → b < n → place ≡ a * n + b → r ≡ get_or counts place r →
    ArePairCounts n pairs counts → r ≡ get_or counts (a * n + b) 0
read_at n a b place r counts pairs a_in b_in at read are = grind (arith, common_steps, get_or_read, mul-add-lt)

pub few_at : (n a b place r : ℕ) (counts : List ℕ) (pairs : List Pair) → a < n → b < n → place ≡ a * n + b → r ≡ get_or counts place r →
    ArePairCounts n pairs counts → r ≤ length pairs
few_at n a b place r counts pairs a_in b_in at read are =
    omega (arith, read_at n a b place r counts pairs a_in b_in at read are, count_few n pairs counts a b are a_in b_in)

pub add_at : (n a b place r : ℕ) (counts : List ℕ) (pairs after : List Pair) → a < n → b < n → place ≡ a * n + b →
    r ≡ get_or counts place r →
    ArePairCounts n pairs counts → after ≡ pairs ++ pair_of a b ∷ []
    → ArePairCounts n after (set counts place (r + 1))
add_at n a b place r counts pairs after a_in b_in at read are e =
    let value : r ≡ get_or counts (a * n + b) 0 = read_at n a b place r counts pairs a_in b_in at read are in
    subst (λ (l : List Pair). ArePairCounts n l (set counts place (r + 1))) (sym e)
    (subst (λ (k : ℕ). ArePairCounts n (pairs ++ pair_of a b ∷ []) (set counts k (r + 1))) (sym at)
    (subst (λ (x : ℕ). ArePairCounts n (pairs ++ pair_of a b ∷ []) (set counts (a * n + b) (x + 1))) (sym value)
    (counts_add n pairs counts a b a_in b_in are)))

pub back_at : (n a b place r : ℕ) (counts : List ℕ) (pairs before : List Pair) → a < n → b < n → place ≡ a * n + b →
    r ≡ get_or counts place r →
    ArePairCounts n before counts → before ≡ pairs ++ pair_of a b ∷ []
    → (1 ≤ r) × ArePairCounts n pairs (set counts place (r - 1))
back_at n a b place r counts pairs before a_in b_in at read are e =
    let value : r ≡ get_or counts (a * n + b) 0 = read_at n a b place r counts before a_in b_in at read are in
    let held : ArePairCounts n (pairs ++ pair_of a b ∷ []) counts = subst (λ (l : List Pair). ArePairCounts n l counts) e are in (
      omega (arith, value, counted_last n pairs counts a b a_in b_in held),
      subst (λ (k : ℕ). ArePairCounts n pairs (set counts k (r - 1))) (sym at)
          (subst (λ (x : ℕ). ArePairCounts n pairs (set counts (a * n + b) (x - 1))) (sym value) (counts_back n pairs counts a b a_in b_in held)),
    )

pub held_at : (n a b place r : ℕ) (counts : List ℕ) (pairs : List Pair) → a < n → b < n → place ≡ a * n + b → r ≡ get_or counts place r →
    ArePairCounts n pairs counts → (0 < r) ↔ Contains pairs (pair_of a b)
held_at n a b place r counts pairs a_in b_in at read are =
    let value : r ≡ times pairs a b = read_at n a b place r counts pairs a_in b_in at read are ∙ are.each a b a_in b_in in
    (λ some. counted_is pairs a b (omega (arith, value, some)), λ has. omega (arith, value, counted_from pairs a b has))

-- pairs of routers below a number, and the last of them taken off
pub below_last : (n : ℕ) (pairs front : List Pair) (p : Pair) → pairs ≡ front ++ p ∷ [] → AreBelow n pairs → (p.0 < n) × (p.1 < n)
below_last n pairs front p e below = grind (arith, common_steps, All-contains, Contains-push)

pub below_front : (n : ℕ) (pairs front : List Pair) (p : Pair) → pairs ≡ front ++ p ∷ [] → AreBelow n pairs → AreBelow n front
below_front n pairs front p e below = λ k d within.
    let held : AreBelow n (front ++ p ∷ []) = subst (λ (l : List Pair). AreBelow n l) e below in
    subst (λ (q : Pair). (q.0 < n) × (q.1 < n)) (get_or_append_left front (p ∷ []) d k within)
    (held k d (omega (arith, within, length-append front (p ∷ []))))
