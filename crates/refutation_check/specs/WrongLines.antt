-- What makes a line of a tree file wrong at its place. A place is told by the pairs that are assumed there.
use Rattle.std.specs.Prelude.{ℕ, ◌≤◌, List, Any, Contains}
use Rattle.net_addr.specs.Addresses.{Block}
use Rattle.net_model.specs.Network.{Network, Connected}
use Rattle.igp_theory.specs.Forwarding.{IsTarget}
use Rattle.igp_theory.specs.Loops.{AroundRing, IsTag}
use Rattle.igp_theory.specs.Migrations.{Migration}
use Rattle.order_core.specs.Turns.{HasBothTags}
use Rattle.order_core.specs.declared.turn.Turn.{Turn}
use Rattle.order_search.specs.Trees.{Place}
use Rattle.order_search.specs.declared.tree.Node.{Node}
use Rattle.order_search.specs.declared.tree.Node.TheVariants.{Branch, Leaf, Unvisited}
use Rattle.plan_theory.specs.declared.items.Items.{Items}
use Rattle.refutation_check.specs.TreeLines.{HasForm, SaysNode}
use Rattle.refutation_check.specs.declared.verdict.WrongKind.{WrongKind}
use Rattle.refutation_check.specs.declared.verdict.WrongKind.TheVariants.{Form, Router, Address, Originator, Step, OneSided, NotAssumed}

-- the router of some turn originates the target of the address
pub record IsOriginatedBySome (net : Network) (a : ℕ) (turns : List Turn) : Type 0 where
  pub target : Block
  pub is_target : IsTarget net a target
  pub by_some : Any (λ (turn : Turn). Connected net turn.router target) turns

-- a branch is wrong: its address has no target; a turn's router originates the target; a turn hasn't the tag by which
-- its router steps to the next one, or the last one to the first; no turn is Old, or none is New
abbrev pub WrongBranch : Migration → ℕ → List Turn → WrongKind → Type 0
WrongBranch move a turns Form = ⊥
WrongBranch move a turns Router = ⊥
WrongBranch move a turns Address = (p : Block) → ¬ IsTarget move.net a p
WrongBranch move a turns Originator = IsOriginatedBySome move.net a turns
WrongBranch move a turns Step = ¬ AroundRing (λ (r s : Turn). IsTag move a r s.router) turns
WrongBranch move a turns OneSided = ¬ HasBothTags turns
WrongBranch move a turns NotAssumed = ⊥

-- each router of a cycle is assumed before the next one at a place, and the last one before the first
abbrev pub IsAssumedRound : Place → List ℕ → Type 0
IsAssumedRound place cycle = AroundRing (λ (u v : ℕ). Contains place (u, v)) cycle

-- a leaf is wrong: two neighbors of its cycle are no pair that is assumed
abbrev pub WrongLeaf : Place → List ℕ → WrongKind → Type 0
WrongLeaf place cycle Form = ⊥
WrongLeaf place cycle Router = ⊥
WrongLeaf place cycle Address = ⊥
WrongLeaf place cycle Originator = ⊥
WrongLeaf place cycle Step = ⊥
WrongLeaf place cycle OneSided = ⊥
WrongLeaf place cycle NotAssumed = ¬ IsAssumedRound place cycle

-- a node is wrong at a place; an unvisited place never is
abbrev pub WrongNode : Migration → Place → Node → WrongKind → Type 0
WrongNode move place (Branch a turns) kind = WrongBranch move a turns kind
WrongNode move place (Leaf cycle) kind = WrongLeaf place cycle kind
WrongNode move place Unvisited kind = ⊥

-- words say a node that is wrong at a place
pub record SaysWrongNode (items : Items) (move : Migration) (place : Place) (words : List (List ℕ)) (kind : WrongKind) : Type 0 where
  pub node : Node
  pub says : SaysNode items move.net words node
  pub wrong : WrongNode move place node kind

-- words are wrong as those of a node: they haven't its form; their names aren't those of distinct routers or changes, so that
-- they say no node; or the node is wrong at its place
abbrev pub WrongWords : Items → Migration → Place → List (List ℕ) → WrongKind → Type 0
WrongWords items move place words Form = ¬ HasForm items words
WrongWords items move place words Router = (node : Node) → ¬ SaysNode items move.net words node
WrongWords items move place words Address = SaysWrongNode items move place words Address
WrongWords items move place words Originator = SaysWrongNode items move place words Originator
WrongWords items move place words Step = SaysWrongNode items move place words Step
WrongWords items move place words OneSided = SaysWrongNode items move place words OneSided
WrongWords items move place words NotAssumed = SaysWrongNode items move place words NotAssumed

-- the number of a kind
abbrev pub kind_number : WrongKind → ℕ
kind_number Form = 1
kind_number Router = 2
kind_number Address = 3
kind_number Originator = 4
kind_number Step = 5
kind_number OneSided = 6
kind_number NotAssumed = 7

-- P holds of the kind, and of none with a lower number
pub record IsLowestKind (P : WrongKind → Type 0) (kind : WrongKind) : Type 0 where
  pub wrong : P kind
  pub lowest : (other : WrongKind) → P other → kind_number kind ≤ kind_number other
