-- Fresh pairs over a base: one more, fewer, and how many there may be among n routers.
use Rattle.std.proofs.lemmas.Grind.{common_steps}
use Rattle.std.proofs.Common.{◌≡◌, ◌≢◌, ℕ, zero, suc, ◌+◌, ◌-◌, ◌*◌, ◌/◌, ◌%◌, ◌<◌, ◌≤◌, ◌⊎◌, inl, inr, List}
use Rattle.std.proofs.Common.{[], ◌∷◌, ◌++◌, length, get_or, take, arith, subst, sym, refl, ap, ◌∙◌, add-one}
use Rattle.std.specs.List.{All, AllPairs, Contains}
use Rattle.std.proofs.lemmas.Nat.{mul-add-lt, div-mul-add, mod-mul-add}
use Rattle.std.proofs.lemmas.Bool.{cases_lt}
use Rattle.std.proofs.Math.Nat.{mul-le-mul}
use Rattle.std.proofs.lemmas.List.{take-take, take_all, take_more, take-append-le, length-take, length-take-le, length_push, get_or-take, get_or_append_left}
use Rattle.std.proofs.lemmas.List.{get_or_push}
use Rattle.std.proofs.lemmas.List.Elements.{All-nil, All-cons, All-weaker, All-push, All-take, All-get_or, Contains-append_left, Contains-push}
use Rattle.order_core.specs.Pairs.{Pair, Leads, Reaches}
use Rattle.order_core.proofs.DistinctLists.{AllPairs-cons, length-le_from_distinct}
use Rattle.order_core.proofs.Paths.{HasNoCycle-push, HasNoCycle-take, IsPath-more, Leads-step, Reaches-itself, Reaches-from_Leads}
use Rattle.order_search.specs.Meanings.{IsBase}
use Rattle.order_search.specs.steps.Waiting.{AreFresh}

-- the pairs of a base are fresh
pub AreFresh-base : (n : ℕ) (base : List Pair) → IsBase n base → AreFresh n base base
AreFresh-base n base is = grind (arith, common_steps, take_all)

-- the first pairs, one more
take_suc_at : (pairs : List Pair) (m : ℕ) → m < length pairs → take (suc m) pairs ≡ take m pairs ++ get_or pairs m (0, 0) ∷ []
take_suc_at pairs m in' = rw (← add-one) (take_more pairs m (0, 0) in')

-- what is reached stays reached under more pairs
Reaches-more : (pairs more : List Pair) (u v : ℕ) → Reaches pairs u v → Reaches (pairs ++ more) u v
Reaches-more pairs more u v reaches = record { path = reaches.path; onward = IsPath-more pairs more u v reaches.path reaches.onward }

-- the pairs before a place of a base don't lead back from its pair
pub base_apart : (n : ℕ) (base : List Pair) (i : ℕ) → IsBase n base → i < length base →
    ¬ Reaches (take i base) (get_or base i (0, 0)).1 (get_or base i (0, 0)).0
base_apart n base i is in' reaches =
    let p = get_or base i (0, 0) in
    let e : take (suc i) base ≡ take i base ++ p ∷ [] = take_suc_at base i in' in
    let here : Contains (take (suc i) base) p = subst (λ (xs : List Pair). Contains xs p) (sym e) (Contains-push (take i base) p) in
    let back : Reaches (take (suc i) base) p.1 p.0 = subst (λ (xs : List Pair). Reaches xs p.1 p.0) (sym e)
    (Reaches-more (take i base) (p ∷ []) p.1 p.0 reaches) in
    HasNoCycle-take base (suc i) is.acyclic p.0 (Leads-step (take (suc i) base) p.0 p.1 p.0 here back)

-- the first ones of fresh pairs are fresh, the base among them
pub AreFresh-take : (n : ℕ) (base pairs : List Pair) (m : ℕ) → length base ≤ m → m ≤ length pairs → AreFresh n base pairs →
    AreFresh n base (take m pairs)
AreFresh-take n base pairs m from to fresh = record {
  few = fresh.few;
  long = omega (arith, from, length-take-le m pairs to);
  begins = take-take (length base) m pairs from ∙ fresh.begins;
  below = All-take (λ (p : Pair). (p.0 < n) × (p.1 < n)) m pairs fresh.below;
  acyclic = HasNoCycle-take pairs m fresh.acyclic;
  fresh = λ k from_k in'.
      let k_m : k < m = omega (arith, in', length-take m pairs) in
      let k_in : k < length pairs = omega (arith, in', length-take m pairs) in
      let le : k ≤ m = omega (arith, k_m) in
      let e = get_or-take m pairs k (0, 0) k_m in
      subst (λ (p : Pair). ¬ Leads (take k (take m pairs)) p.0 p.1) (sym e)
      (subst (λ (xs : List Pair). ¬ Leads xs (get_or pairs k (0, 0)).0 (get_or pairs k (0, 0)).1) (sym (take-take k m pairs le))
      (fresh.fresh k from_k k_in));
}

-- one more pair that isn't implied and closes no cycle
pub AreFresh-push : (n : ℕ) (base pairs : List Pair) (u v : ℕ) → AreFresh n base pairs → u < n → v < n → ¬ Leads pairs u v →
    ¬ Reaches pairs v u →
    AreFresh n base (pairs ++ (u, v) ∷ [])
AreFresh-push n base pairs u v fresh u_in v_in new apart =
    grind (arith, common_steps, All-push, HasNoCycle-push, cases_lt, get_or_append_left, get_or_push, length_push, take-append-le, take_all)

-- the number of a pair of routers below n: the one of the pair both ways round, or of a router with itself
record IsCode (n : ℕ) (pairs : List Pair) (code : ℕ) : Type 0 where
  x : ℕ
  y : ℕ
  x_in : x < n
  y_in : y < n
  is : code ≡ x * n + y
  tie : (x ≡ y) ⊎ (Contains pairs (x, y) ⊎ Contains pairs (y, x))

-- distinct numbers of the routers with themselves
record Diagonal (n k : ℕ) : Type 0 where
  codes : List ℕ
  long : length codes ≡ k
  distinct : AllPairs (λ a b. a ≢ b) codes
  known : All (λ code. (r : ℕ) × (r < k) × (code ≡ r * n + r)) codes

-- a number tells its pair
code_tells : (n x y u v : ℕ) → y < n → v < n → x * n + y ≡ u * n + v → (x ≡ u) × (y ≡ v)
code_tells n x y u v y_in v_in same = (
  sym (div-mul-add x n y y_in) ∙ ap (λ (c : ℕ). c / n) same ∙ div-mul-add u n v v_in,
  sym (mod-mul-add x n y y_in) ∙ ap (λ (c : ℕ). c % n) same ∙ mod-mul-add u n v v_in,
)

diagonal : (n k : ℕ) → k ≤ n → Diagonal n k
diagonal n zero le = record {
  codes = [];
  long = refl;
  distinct = λ i j d lt in' same. omega (arith, in');
  known = All-nil (λ (code : ℕ). (r : ℕ) × (r < 0) × (code ≡ r * n + r));
}
diagonal n (suc k) le =
    let before = diagonal n k (omega (arith, le)) in
    let k_in : k < n = omega (arith, le) in
    record {
      codes = (k * n + k) ∷ before.codes;
      long = ap (λ (m : ℕ). suc m) before.long;
      distinct = AllPairs-cons (λ (a b : ℕ). a ≢ b) (k * n + k) before.codes
          (λ i d in' same.
          let old = All-get_or (λ (code : ℕ). (r : ℕ) × (r < k) × (code ≡ r * n + r)) before.codes i d in' before.known in
          let r_in : old.0 < n = omega (arith, old.1, k_in) in
          omega (arith, old.1, (code_tells n k k old.0 old.0 k_in r_in (same ∙ old.2)).0))
          before.distinct;
      known = All-cons (λ (code : ℕ). (r : ℕ) × (r < suc k) × (code ≡ r * n + r)) (k * n + k) before.codes (k, (omega arith), refl)
          (All-weaker (λ (code : ℕ). (r : ℕ) × (r < k) × (code ≡ r * n + r)) (λ (code : ℕ). (r : ℕ) × (r < suc k) × (code ≡ r * n + r))
          (λ code old. (old.0, (omega (arith, old.1)), old.2)) before.codes before.known);
    }

more_pairs : (n : ℕ) (pairs more : List Pair) (code : ℕ) → IsCode n pairs code → IsCode n (pairs ++ more) code
more_pairs n pairs more code c = grind (arith, common_steps, Contains-append_left)

-- distinct numbers of m pairs both ways round, those before place k, and of the routers with themselves
record Codes (n : ℕ) (pairs : List Pair) (k m : ℕ) : Type 0 where
  codes : List ℕ
  long : length codes ≡ m + m + n
  distinct : AllPairs (λ a b. a ≢ b) codes
  known : All (IsCode n (take k pairs)) codes

-- a pair that isn't implied, nor the other way round, has no number of those before it
new_code : (n : ℕ) (pairs : List Pair) (u v code : ℕ) → u < n → v < n → u ≢ v → ¬ Leads pairs u v → ¬ Leads pairs v u →
    IsCode n pairs code → u * n + v ≢ code
new_code n pairs u v code u_in v_in differ new apart old same =
    let e = code_tells n u v old.x old.y v_in old.y_in (same ∙ old.is) in
    elim old.tie [
      | inl alike ↦ differ (e.0 ∙ alike ∙ sym e.1)
      | inr pair ↦ elim pair [
        | inl there ↦ new
            (subst (λ (a : ℕ). Leads pairs a v) (sym e.0)
            (subst (λ (b : ℕ). Leads pairs old.x b) (sym e.1) (Leads-step pairs old.x old.y old.y there (Reaches-itself pairs old.y))))
        | inr back ↦ apart
            (subst (λ (a : ℕ). Leads pairs a u) (sym e.1)
            (subst (λ (b : ℕ). Leads pairs old.y b) (sym e.0) (Leads-step pairs old.y old.x old.x back (Reaches-itself pairs old.x))))
      ]
    ]

codes_of : (n : ℕ) (base pairs : List Pair) → AreFresh n base pairs → (m k : ℕ) → length base + m ≡ k → k ≤ length pairs → Codes n pairs k m
codes_of n base pairs fresh zero k at le =
    let d = diagonal n n (omega arith) in
    record {
      codes = d.codes;
      long = omega (arith, d.long);
      distinct = d.distinct;
      known = All-weaker (λ (code : ℕ). (r : ℕ) × (r < n) × (code ≡ r * n + r)) (IsCode n (take k pairs))
          (λ code old. record { x = old.0; y = old.0; x_in = old.1; y_in = old.1; is = old.2; tie = inl refl }) d.codes d.known;
    }
codes_of n base pairs fresh (suc m) zero at le = absurd (omega (arith, at))
codes_of n base pairs fresh (suc m) (suc k) at le =
    let before = codes_of n base pairs fresh m k (omega (arith, at)) (omega (arith, le)) in
    let k_in : k < length pairs = omega (arith, le) in
    let p = get_or pairs k (0, 0) in
    let in' = All-get_or (λ (q : Pair). (q.0 < n) × (q.1 < n)) pairs k (0, 0) k_in fresh.below in
    let e : take (suc k) pairs ≡ take k pairs ++ p ∷ [] = take_suc_at pairs k k_in in
    let whole = HasNoCycle-take pairs (suc k) fresh.acyclic in
    let here : Contains (take (suc k) pairs) p = subst (λ (xs : List Pair). Contains xs p) (sym e) (Contains-push (take k pairs) p) in
    let differ : p.0 ≢ p.1 = λ same. whole p.0
    (subst (λ (b : ℕ). Leads (take (suc k) pairs) p.0 b) (sym same)
    (Leads-step (take (suc k) pairs) p.0 p.1 p.1 here (Reaches-itself (take (suc k) pairs) p.1))) in
    let new = fresh.fresh k (omega (arith, at)) k_in in
    let apart : ¬ Leads (take k pairs) p.1 p.0 = λ leads. whole p.0
    (Leads-step (take (suc k) pairs) p.0 p.1 p.0 here
    (subst (λ (xs : List Pair). Reaches xs p.1 p.0) (sym e)
    (Reaches-more (take k pairs) (p ∷ []) p.1 p.0 (Reaches-from_Leads (take k pairs) p.1 p.0 leads)))) in
    let old : All (IsCode n (take (suc k) pairs)) before.codes = All-weaker (IsCode n (take k pairs)) (IsCode n (take (suc k) pairs))
    (λ code c. subst (λ (xs : List Pair). IsCode n xs code) (sym e) (more_pairs n (take k pairs) (p ∷ []) code c)) before.codes before.known in
    record {
      codes = (p.0 * n + p.1) ∷ (p.1 * n + p.0) ∷ before.codes;
      long = omega (arith, before.long);
      distinct = AllPairs-cons (λ (a b : ℕ). a ≢ b) (p.0 * n + p.1) ((p.1 * n + p.0) ∷ before.codes)
          (first_differs n (take k pairs) p before.codes in' differ
          (λ i d i_in.
          new_code n (take k pairs) p.0 p.1 (get_or before.codes i d) in'.0 in'.1 differ new apart
          (All-get_or (IsCode n (take k pairs)) before.codes i d i_in before.known)))
          (AllPairs-cons (λ (a b : ℕ). a ≢ b) (p.1 * n + p.0) before.codes
          (λ i d i_in.
          new_code n (take k pairs) p.1 p.0 (get_or before.codes i d) in'.1 in'.0 (λ same. differ (sym same)) apart new
          (All-get_or (IsCode n (take k pairs)) before.codes i d i_in before.known))
          before.distinct);
      known = All-cons (IsCode n (take (suc k) pairs)) (p.0 * n + p.1) ((p.1 * n + p.0) ∷ before.codes)
          (record { x = p.0; y = p.1; x_in = in'.0; y_in = in'.1; is = refl; tie = inr (inl here) })
          (All-cons (IsCode n (take (suc k) pairs)) (p.1 * n + p.0) before.codes
          (record { x = p.1; y = p.0; x_in = in'.1; y_in = in'.0; is = refl; tie = inr (inr here) }) old);
    }
  where
    first_differs : (n : ℕ) (front : List Pair) (p : Pair) (codes : List ℕ) → (p.0 < n) × (p.1 < n) → p.0 ≢ p.1 →
        ((i d : ℕ) → i < length codes → p.0 * n + p.1 ≢ get_or codes i d) → (i d : ℕ) → i < length ((p.1 * n + p.0) ∷ codes) →
        p.0 * n + p.1 ≢ get_or ((p.1 * n + p.0) ∷ codes) i d
    first_differs n front p codes in' differ rest zero d i_in same = differ (code_tells n p.0 p.1 p.1 p.0 in'.1 in'.0 same).0
    first_differs n front p codes in' differ rest (suc i) d i_in same = rest i d (omega (arith, i_in)) same

-- fresh pairs of n routers besides a base, both ways round, and the routers with themselves are at most n times n
pub fresh_bound : (n : ℕ) (base pairs : List Pair) (m : ℕ) → AreFresh n base pairs → length pairs ≡ length base + m → m + m + n ≤ n * n
fresh_bound n base pairs m fresh more =
    let all = codes_of n base pairs fresh m (length pairs) (sym more) (omega arith) in
    let short = length-le_from_distinct all.codes (n * n) all.distinct
    (All-weaker (IsCode n (take (length pairs) pairs)) (λ code. code < n * n)
    (λ code c. subst (λ (x : ℕ). x < n * n) (sym c.is) (mul-add-lt c.x n c.y n c.x_in c.y_in)) all.codes all.known) in
    omega (arith, short, all.long)

-- fewer than a million pairs of a thousand routers
pub few_fresh : (n : ℕ) (base pairs : List Pair) → n ≤ 1000 → AreFresh n base pairs → length pairs < 1000000
few_fresh n base pairs few fresh =
    let square : n * n ≤ 1000 * 1000 = mul-le-mul few few in
    let split : length pairs ≡ length base + (length pairs - length base) = omega (arith, fresh.long) in
    let bound = fresh_bound n base pairs (length pairs - length base) fresh split in
    by_count (length pairs - length base) split bound square
  where
    by_count : (m : ℕ) → length pairs ≡ length base + m → m + m + n ≤ n * n → n * n ≤ 1000 * 1000 → length pairs < 1000000
    by_count m split bound square = omega (arith, split, bound, square, fresh.few, few)
