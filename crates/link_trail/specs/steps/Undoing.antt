-- The latest move, and nodes and ends once it is taken back.
use Rattle.std.specs.Prelude.{ℕ, List, length}
use Rattle.link_trail.specs.declared.chain.Node.{Node}
use Rattle.link_trail.specs.declared.chain.Ends.{Ends}
use Rattle.link_trail.specs.declared.moves.Move.{Move}
use Rattle.link_trail.specs.Chains.{ShowsLists}
use Rattle.link_trail.specs.Moves.{moved, IsTakenBackBy}
use Rattle.link_trail.specs.steps.Splices.{KeptLists}

-- the move led from some lists to those that nodes and ends show
pub record IsLatest (nodes : List Node) (ends : List Ends) (move : Move) : Type 0 where
  pub lists : List (List ℕ)
  pub fits : IsTakenBackBy (length nodes) lists move
  pub shown : ShowsLists nodes ends (moved lists move)

-- nodes and ends show the lists before the move, where they showed those after it
pub record TakesBack (old new : KeptLists) (move : Move) : Type 0 where
  pub shows : (lists : List (List ℕ)) → IsTakenBackBy (length old.nodes) lists move → ShowsLists old.nodes old.ends (moved lists move) →
      ShowsLists new.nodes new.ends lists
