-- Routers that may treat two classes differently, one after the other.
use Rattle.std.proofs.lemmas.Grind.{common_steps}
use Rattle.std.proofs.Common.{◌≡◌, ℕ, ◌+◌, ◌<◌, ◌⊎◌, inl, inr, List, [], ◌∷◌, ◌++◌, All, Contains, get_or}
use Rattle.std.proofs.Common.{arith, below_more, ap, ◌∙◌}
use Rattle.std.proofs.lemmas.Bool.{cases_lt}
use Rattle.std.proofs.lemmas.List.{append-nil, append_assoc, get_or_append_left, get_or_push}
use Rattle.std.proofs.lemmas.List.Elements.{All-push, Contains-append_left, Contains-push}
use Rattle.std.specs.List.Sorted.{IsStrictlyIncreasing}
use Rattle.rib_mix.specs.Answers.{AddsAllBut}

-- an ascending list takes a number above all of it
pub ascending_push : (xs : List ℕ) (n : ℕ) → IsStrictlyIncreasing xs → All (λ x. x < n) xs → IsStrictlyIncreasing (xs ++ n ∷ [])
ascending_push xs n up below k within = grind (arith, common_steps, cases_lt, get_or_append_left, get_or_push)

-- none is added of none
pub none_added : (Is : ℕ → Type 0) (old : List ℕ) → AddsAllBut Is 0 old old
none_added Is old = grind (arith, common_steps, append-nil)

-- the next router is added, or something holds for it
pub added_more : (Is : ℕ → Type 0) (n : ℕ) (old mid new : List ℕ) → AddsAllBut Is n old mid
    → (new ≡ mid ++ n ∷ []) ⊎ ((new ≡ mid) × Is n) → AddsAllBut Is (n + 1) old new
added_more Is n old mid new are (inl more) = record {
  added = are.added ++ n ∷ [];
  new_is = more ∙ ap (λ (xs : List ℕ). xs ++ n ∷ []) are.new_is ∙ append_assoc old are.added (n ∷ []);
  ascending = ascending_push are.added n are.ascending are.below;
  below = All-push (λ (u : ℕ). u < n + 1) are.added n
      (λ k d inside. let less : get_or are.added k d < n = are.below k d inside in omega (arith, less)) (omega arith);
  whole = below_more (λ (u : ℕ). Contains (are.added ++ n ∷ []) u ⊎ Is u) n
      (λ u below. elim (are.whole u below) [
        | inl among ↦ inl (Contains-append_left are.added (n ∷ []) u among)
        | inr is ↦ inr is
      ]) (inl (Contains-push are.added n));
}
added_more Is n old mid new are (inr none) = record {
  added = are.added;
  new_is = none.0 ∙ are.new_is;
  ascending = are.ascending;
  below = λ k d inside. let less : get_or are.added k d < n = are.below k d inside in omega (arith, less);
  whole = below_more (λ (u : ℕ). Contains are.added u ⊎ Is u) n are.whole (inr none.1);
}

-- what holds for those that aren't added says something else of them
pub added_along : (One Other : ℕ → Type 0) (n : ℕ) (old new : List ℕ) → ((u : ℕ) → u < n → One u → Other u)
    → AddsAllBut One n old new → AddsAllBut Other n old new
added_along One Other n old new along are = grind (arith, common_steps)
