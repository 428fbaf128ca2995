-- Pairs of numbers, the lower one first, have no cycle.
use Rattle.std.proofs.Common.{ℕ, ◌<◌, ◌≤◌, List, [], ◌∷◌, length, arith}
use Rattle.std.proofs.lemmas.List.Elements.{All-contains, All-weaker}
use Rattle.order_core.specs.Pairs.{Pair, IsPath, HasNoCycle}
use Rattle.order_search.specs.Meanings.{AreRising, IsBase}

-- along a path numbers don't fall
rises_along : (n : ℕ) (pairs : List Pair) → AreRising n pairs → (path : List ℕ) (x y : ℕ) → IsPath pairs x path y → x ≤ y
rises_along n pairs rising [] x y onward = omega (arith, onward)
rises_along n pairs rising (w ∷ path) x y onward =
    let step = All-contains (λ (p : Pair). (p.0 < p.1) × (p.1 < n)) pairs (x, w) rising onward.0 in
    omega (arith, step.0, rises_along n pairs rising path w y onward.1)

pub HasNoCycle-rising : (n : ℕ) (pairs : List Pair) → AreRising n pairs → HasNoCycle pairs
HasNoCycle-rising n pairs rising u leads =
    let step = All-contains (λ (p : Pair). (p.0 < p.1) × (p.1 < n)) pairs (u, leads.next) rising leads.first in
    omega (arith, step.0, rises_along n pairs rising leads.path leads.next u leads.onward)

-- few of them are a base
pub IsBase-rising : (n : ℕ) (pairs : List Pair) → length pairs ≤ n → AreRising n pairs → IsBase n pairs
IsBase-rising n pairs few rising = record {
  few = few;
  below = All-weaker (λ (p : Pair). (p.0 < p.1) × (p.1 < n)) (λ (p : Pair). (p.0 < n) × (p.1 < n))
      (λ p both. (omega (arith, both.0, both.1), both.1)) pairs rising;
  acyclic = HasNoCycle-rising n pairs rising;
}
