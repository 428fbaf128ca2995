use Rattle.std.proofs.Common.{◌≢◌, ℕ, zero, suc, ◌<◌, [], ◌∷◌, length, get_or, refl, arith}
use Rattle.std.specs.List.{All, AllPairs}
use Rattle.std.proofs.lemmas.List.Elements.{All-nil, All-cons, All-contains}
use Rattle.std.proofs.lemmas.List.Quantifiers.{all_pairs_push}
use Rattle.order_core.specs.Orders.{IsOrder}
use Rattle.order_core.proofs.DistinctLists.{Contains-from_distinct}
use Rattle.worked_networks.proofs.faults.order.Goals as goal

after_one : (a b : ℕ) → a ≢ b → (k d : ℕ) → k < length (a ∷ []) → get_or (a ∷ []) k d ≢ b
after_one a b apart zero d within = apart
after_one a b apart (suc k) d within = absurd (omega arith)

after_two : (a b c : ℕ) → a ≢ c → b ≢ c → (k d : ℕ) → k < length (a ∷ b ∷ []) → get_or (a ∷ b ∷ []) k d ≢ c
after_two a b c one two zero d within = one
after_two a b c one two (suc zero) d within = two
after_two a b c one two (suc (suc k)) d within = absurd (omega arith)

order_of_three : (a b c : ℕ) → a < 3 → b < 3 → c < 3 → a ≢ b → a ≢ c → b ≢ c → IsOrder 3 (a ∷ b ∷ c ∷ [])
order_of_three a b c is_a is_b is_c ab ac bc = record {
  once = once;
  all = λ u. (
    λ among. All-contains (λ v. v < 3) (a ∷ b ∷ c ∷ []) u below among,
    λ lt. Contains-from_distinct (a ∷ b ∷ c ∷ []) 3 once below refl u lt,
  );
}
  where
    once : AllPairs (λ u v. u ≢ v) (a ∷ b ∷ c ∷ [])
    once = all_pairs_push (λ u v. u ≢ v) (a ∷ b ∷ []) c
        (all_pairs_push (λ u v. u ≢ v) (a ∷ []) b (λ i j d before within. absurd (omega arith)) (after_one a b ab))
        (after_two a b c ac bc)

    below : All (λ v. v < 3) (a ∷ b ∷ c ∷ [])
    below =
        All-cons (λ v. v < 3) a (b ∷ c ∷ []) is_a (All-cons (λ v. v < 3) b (c ∷ []) is_b (All-cons (λ v. v < 3) c [] is_c (All-nil (λ v. v < 3))))

pub returns : goal.returns
returns c = order_of_three c.args.a c.args.b c.args.c c.requires.below.0 c.requires.below.1 c.requires.below.2 c.requires.apart.0
    c.requires.apart.1 c.requires.apart.2
