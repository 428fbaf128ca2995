-- Where two oracles mean the same, a search over the one stands and ends as a search over the other.
use Rattle.std.proofs.Common.{arith}
use Rattle.std.proofs.lemmas.Grind.{common_steps}
use Rattle.std.proofs.Common.{◌≡◌, ℕ, ◌+◌, List, ◌∷◌, [], length, Option, None, Some, subst, sym, ◌∙◌}
use Rattle.order_core.specs.Pairs.{Pair}
use Rattle.order_search.specs.Meanings.{Meaning, SameMeaning}
use Rattle.order_search.specs.Places.{IsFoundNode, IsLayered}
use Rattle.order_search.specs.Trees.{Place, Fill}
use Rattle.order_search.specs.steps.Steps.{IsSearching, IsAsked, EndsBy, StepsTo}
use Rattle.order_search.specs.steps.Waiting.{places_of, IsUnder}
use Rattle.order_search.specs.declared.ending.Ending.{Ending}
use Rattle.order_search.specs.declared.ending.Ending.TheVariants.{Good, Spent, Closed}
use Rattle.order_search.specs.declared.stand.Stand.{Stand}
use Rattle.order_search.specs.declared.tree.Node.{Node}
use Rattle.order_search.specs.declared.tree.Node.TheVariants.{Branch, Leaf, Unvisited}
use Rattle.order_search.proofs.Fills.{Fill-weaker}

pub SameMeaning-itself : (m : Meaning) → SameMeaning m m
SameMeaning-itself m = grind (arith, common_steps)

SameMeaning-back : (m n : Meaning) → SameMeaning m n → SameMeaning n m
SameMeaning-back m n same = grind (arith, common_steps)

pub SameMeaning-through : (l m n : Meaning) → SameMeaning l m → SameMeaning m n → SameMeaning l n
SameMeaning-through l m n one two = grind (arith, common_steps)

module _ (m n : Meaning) (same : SameMeaning m n) where
  layered_too : (pairs : Place) (ranks : List ℕ) → IsLayered m.size pairs ranks → IsLayered n.size pairs ranks
  layered_too pairs ranks layered = subst (λ (k : ℕ). IsLayered k pairs ranks) (sym same.size) layered

  node_too : (place : Place) (node : Node) → IsFoundNode m place node → IsFoundNode n place node
  node_too place (Branch address turns) is = record {
    is_node = ((same.real address turns).1 is.is_node.0, is.is_node.1);
    earned = record {
      ranks = is.earned.ranks;
      layered = layered_too place is.earned.ranks is.earned.layered;
      pick = (same.picked is.earned.ranks address turns).1 is.earned.pick;
    };
    least_cycle = tt;
  }
  node_too place (Leaf cycle) is = record { is_node = is.is_node; earned = tt; least_cycle = is.least_cycle }
  node_too place Unvisited is = record { is_node = tt; earned = tt; least_cycle = tt }

  fill_too : (nodes : List Node) (left : List Place) → Fill (IsFoundNode m) (m.base ∷ []) nodes left → Fill (IsFoundNode n) (n.base ∷ []) nodes left
  fill_too nodes left fill = subst (λ (base : List Pair). Fill (IsFoundNode n) (base ∷ []) nodes left) (sym same.base)
      (Fill-weaker (IsFoundNode m) (IsFoundNode n) node_too (m.base ∷ []) left nodes fill)

  pub IsSearching-same : (budget : ℕ) (s : Stand) → IsSearching m budget s → IsSearching n budget s
  IsSearching-same budget s is = record {
    routers = is.routers ∙ sym same.size;
    room = is.room ∙ sym same.size;
    fills = fill_too s.tree (s.held.pairs ∷ places_of s.held.pairs s.waiting) is.fills;
    visited = is.visited;
    under = subst (λ (base : List Pair). IsUnder n.size base s.held.pairs s.waiting) (sym same.base)
        (subst (λ (k : ℕ). IsUnder k m.base s.held.pairs s.waiting) (sym same.size) is.under);
    counted = is.counted;
    within = is.within;
    line = λ one. ((is.line one).0, subst (λ (base : List Pair). length s.held.pairs ≡ length base + s.branches) (sym same.base) (is.line one).1);
  }

  asked_too : (budget : ℕ) (s : Stand) → IsAsked m budget s → IsAsked n budget s
  asked_too budget s asked = record {
    searching = IsSearching-same budget s asked.searching;
    layered = layered_too s.held.pairs s.ranks.items asked.layered;
  }

  EndsBy-same : (budget : ℕ) (s : Stand) (ending : Ending) → EndsBy m budget s ending → EndsBy n budget s ending
  EndsBy-same budget s Good ends = (asked_too budget s ends.0, (same.good s.ranks.items).1 ends.1)
  EndsBy-same budget s Spent ends = (asked_too budget s ends.0, (λ good. ends.1 ((same.good s.ranks.items).0 good)), ends.2)
  EndsBy-same budget s Closed ends = record {
    closed = record { tree = fill_too s.tree [] ends.closed.tree; visited = ends.closed.visited };
    within = ends.within;
  }

-- what a step gives over the second oracle, in the words of the first
module _ (m n : Meaning) (same : SameMeaning m n) (budget : ℕ) (s : Stand) (next : Option Ending) (steps : StepsTo n budget s next) where
  pub EndsBy-step : (ending : Ending) → next ≡ Some ending → EndsBy m budget s ending
  EndsBy-step ending is = EndsBy-same n m (SameMeaning-back m n same) budget s ending (subst (λ (x : Option Ending). StepsTo n budget s x) is steps)

  pub IsSearching-step : next ≡ None → IsSearching m budget s
  IsSearching-step is =
      IsSearching-same n m (SameMeaning-back m n same) budget s (subst (λ (x : Option Ending). StepsTo n budget s x) is steps)
