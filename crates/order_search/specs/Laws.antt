-- What the laws on trees and answers rest on.
use Rattle.std.specs.Prelude.{◌≡◌, ℕ, List}
use Rattle.order_core.specs.Pairs.{Pair}
use Rattle.order_core.specs.Rankings.{KeepsPairs}
use Rattle.order_core.specs.Turns.{HasBothTags, RanksSomeOldFirst}
use Rattle.order_core.specs.declared.turn.Turn.{Turn}
use Rattle.order_search.specs.Trees.{Real}
use Rattle.order_search.specs.Meanings.{Good, Picked}

-- what a good ranking owes to what is real: it keeps the base, and where something real has an Old and a New turn, it gives
-- some Old turn's router a lower rank than some New turn's router. That a ranking with all this is good isn't said
pub record IsDecisive (good : Good) (real : Real) (base : List Pair) : Type 0 where
  pub keeps_base : (ranks : List ℕ) → good ranks → KeepsPairs ranks base
  pub decides : (address : ℕ) (turns : List Turn) (ranks : List ℕ) →
      real address turns → HasBothTags turns → good ranks → RanksSomeOldFirst ranks turns

-- one address and list of turns at most is picked for a ranking, and none for a good one
pub record PicksOne (good : Good) (picked : Picked) : Type 0 where
  pub one : (ranks : List ℕ) (a b : ℕ) (s t : List Turn) → picked ranks a s → picked ranks b t → (a ≡ b) × (s ≡ t)
  pub none : (ranks : List ℕ) (a : ℕ) (t : List Turn) → picked ranks a t → ¬ good ranks
