-- Where the search stands, what its steps give, and how it ends.
use Rattle.std.specs.Prelude.{◌≡◌, ℕ, ◌+◌, ◌<◌, ◌≤◌, List, [], ◌∷◌, ◌++◌, length, replicate, vec_len, All, Option, Some, None}
use Rattle.precedence_set.specs.Layers.{IsLayeredChain}
use Rattle.order_search.specs.Answers.{IsRefutation}
use Rattle.order_search.specs.Meanings.{Meaning}
use Rattle.order_search.specs.Places.{IsFoundNode, IsLayered}
use Rattle.order_search.specs.Trees.{Fill, IsVisited, HasOneChild, branch_count}
use Rattle.order_search.specs.steps.Waiting.{Standing, places_of, IsUnder}
use Rattle.order_search.specs.declared.ending.Ending.{Ending}
use Rattle.order_search.specs.declared.ending.Ending.TheVariants.{Good, Spent as Stops, Closed}
use Rattle.order_search.specs.declared.found.Found.{Found}
use Rattle.order_search.specs.declared.found.Found.TheVariants.{Waves, Refuted, Spent}
use Rattle.order_search.specs.declared.stand.Stand.{Stand}
use Rattle.order_search.specs.declared.tree.Node.{Node}
use Rattle.order_search.specs.declared.tree.Node.TheVariants.{Unvisited}

-- the search stands at a place: the nodes before it leave it open, and then the places of those that wait; where each
-- branch has one child, none waits, and each branch has assumed a pair
pub record IsSearching (m : Meaning) (budget : ℕ) (s : Stand) : Type 0 where
  pub routers : s.held.routers ≡ m.size
  pub room : vec_len s.ranks ≡ m.size
  pub fills : Fill (IsFoundNode m) (m.base ∷ []) s.tree (s.held.pairs ∷ places_of s.held.pairs s.waiting)
  pub visited : All IsVisited s.tree
  pub under : IsUnder m.size m.base s.held.pairs s.waiting
  pub counted : branch_count s.tree ≡ s.branches
  pub within : s.branches ≤ budget
  pub line : All HasOneChild s.tree → (s.waiting ≡ []) × (length s.held.pairs ≡ length m.base + s.branches)

-- the search stands at a place whose layered list is known
pub record IsAsked (m : Meaning) (budget : ℕ) (s : Stand) : Type 0 where
  pub searching : IsSearching m budget s
  pub layered : IsLayered m.size s.held.pairs s.ranks.items

-- this ends the search: the layered list is good, or it isn't and the budget is spent, or no place is left
abbrev pub EndsBy : Meaning → ℕ → Stand → Ending → Type 0
EndsBy m budget s Good = IsAsked m budget s × m.good s.ranks.items
EndsBy m budget s Stops = IsAsked m budget s × (¬ m.good s.ranks.items) × (s.branches ≡ budget)
EndsBy m budget s Closed = IsRefutation m budget s.tree

-- a step comes to the next place, or ends the search
abbrev pub StepsTo : Meaning → ℕ → Stand → Option Ending → Type 0
StepsTo m budget s None = IsSearching m budget s
StepsTo m budget s (Some ending) = EndsBy m budget s ending

-- what was found are waves of these ranks, with the assumed pairs and their chain, and this trail
pub record AreWavesOf (held : Standing) (ranks : List ℕ) (trail : List Node) (found : Found) : Type 0 where
  pub chain : List ℕ
  pub chained : IsLayeredChain held.routers held.pairs chain
  pub is : found ≡ Waves ranks held.pairs chain trail

-- what an end needs: where the list is good, it is the layered one
abbrev pub EndsOrGoesOn : Stand → Ending → Type 0
EndsOrGoesOn s Good = (0 < s.held.routers) × (s.held.routers ≤ 1000) × IsLayered s.held.routers s.held.pairs s.ranks.items
EndsOrGoesOn s _ = Unit {0}

-- what is found where the search ends
abbrev pub IsEndOf : Stand → Ending → Found → Type 0
IsEndOf s Good found = AreWavesOf s.held s.ranks.items (s.tree ++ Unvisited ∷ []) found
IsEndOf s Stops found = found ≡ Spent (s.tree ++ replicate (length s.waiting + 1) Unvisited)
IsEndOf s Closed found = found ≡ Refuted s.tree
