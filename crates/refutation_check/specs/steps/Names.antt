-- Words that say distinct routers or numbers, one by one.
use Rattle.std.specs.Prelude.{◌≢◌, ℕ, List, AllPairs, Contains}
use Rattle.std.specs.List.{AllZip}
use Rattle.plan_theory.specs.declared.items.Items.{Items}
use Rattle.plan_theory.specs.Numbers.{NamesNumber}
use Rattle.net_model.specs.Network.{Network}
use Rattle.order_core.specs.Orders.{AreDistinct}
use Rattle.order_core.specs.Turns.{routers_of}
use Rattle.order_core.specs.declared.turn.Turn.{Turn}
use Rattle.refutation_check.specs.TreeLines.{SaysTurn}

-- entries say these turns, of distinct routers
pub record SayTurns (net : Network) (entries : List (List ℕ)) (turns : List Turn) : Type 0 where
  pub said : AllZip (SaysTurn net) entries turns
  pub distinct : AllPairs (λ (s t : Turn). s.router ≢ t.router) turns

-- words are those of these distinct numbers
pub record NameNumbers (items : Items) (net : Network) (names : List (List ℕ)) (numbers : List ℕ) : Type 0 where
  pub named : AllZip (NamesNumber items net) names numbers
  pub distinct : AreDistinct numbers

-- an entry says a turn of a router that none of these turns has
pub record IsFurtherTurn (net : Network) (entry : List ℕ) (turns : List Turn) (turn : Turn) : Type 0 where
  pub says : SaysTurn net entry turn
  pub absent : Contains (routers_of turns) turn.router → ⊥

-- an entry says only turns of routers that one of these turns has
abbrev pub SaysNoFurtherTurn : Network → List ℕ → List Turn → Type 0
SaysNoFurtherTurn net entry turns = (turn : Turn) → SaysTurn net entry turn → Contains (routers_of turns) turn.router

-- a word names a number that isn't among these
pub record IsFurtherNumber (items : Items) (net : Network) (word : List ℕ) (numbers : List ℕ) (number : ℕ) : Type 0 where
  pub named : NamesNumber items net word number
  pub absent : Contains numbers number → ⊥

-- a word names one of these numbers, or none
abbrev pub NamesNoFurtherNumber : Items → Network → List ℕ → List ℕ → Type 0
NamesNoFurtherNumber items net word numbers = (number : ℕ) → NamesNumber items net word number → Contains numbers number
