-- The lowest-numbered marked hop, found in two lists.
use Rattle.std.proofs.Common.{◌≡◌, ℕ, ◌≤◌, ◌↔◌, ◌⊎◌, Bool, List, Option, Some, None, Contains, min, arith, inl, inr, subst}
use Rattle.std.proofs.lemmas.Bool.{cases_lt}
use Rattle.net_model.specs.Links.{lower_of}
use Rattle.order_core.specs.Marks.{IsMarked}
use Rattle.loop_finder.specs.steps.Live.{LowestMarked}
use Rattle.loop_finder.specs.steps.Walks.{IsMarkedHop, LowestMarkedHop}

-- each of the hops is in one of two lists
abbrev pub AreHops : (ℕ → ℕ → Type 0) → ℕ → List ℕ → List ℕ → Type 0
AreHops step u hops others = (h : ℕ) → (Contains hops h ⊎ Contains others h) ↔ step u h

-- the lower of the lowest-numbered marked ones of both lists
pub lowest_hop_of : (step : ℕ → ℕ → Type 0) (marks : List Bool) (u : ℕ) (hops others : List ℕ) (one other : Option ℕ) → AreHops step u hops others
    → LowestMarked hops marks one → LowestMarked others marks other → LowestMarkedHop step marks u (lower_of one other)
lowest_hop_of step marks u hops others None None are none empty = λ h steps. elim ((are h).1 steps) [
  | inl among ↦ none h among
  | inr among ↦ empty h among
]
lowest_hop_of step marks u hops others None (Some v) are none last = record {
  steps = (are v).0 (inr last.among);
  marked = last.marked;
  lowest = λ q steps marked. elim ((are q).1 steps) [
    | inl among ↦ absurd (none q among marked)
    | inr among ↦ last.lowest q among marked
  ];
}
lowest_hop_of step marks u hops others (Some w) None are first empty = record {
  steps = (are w).0 (inl first.among);
  marked = first.marked;
  lowest = λ q steps marked. elim ((are q).1 steps) [
    | inl among ↦ first.lowest q among marked
    | inr among ↦ absurd (empty q among marked)
  ];
}
lowest_hop_of step marks u hops others (Some w) (Some v) are first last = elim (cases_lt w v) [
  | inl below ↦ least w ((are w).0 (inl first.among)) first.marked (omega arith) (omega arith) (omega arith)
  | inr above ↦ least v ((are v).0 (inr last.among)) last.marked (omega arith) (omega arith) (omega arith)
]
  where
    least : (x : ℕ) → step u x → IsMarked marks x → x ≤ w → x ≤ v → x ≡ min w v → IsMarkedHop step marks u (min w v)
    least x steps marked below_w below_v is = subst (λ (m : ℕ). IsMarkedHop step marks u m) is (record {
      steps = steps;
      marked = marked;
      lowest = λ q to there. elim ((are q).1 to) [
        | inl among ↦ let k : w ≤ q = first.lowest q among there in omega (arith, k, below_w)
        | inr among ↦ let k : v ≤ q = last.lowest q among there in omega (arith, k, below_v)
      ];
    })
