-- The nodes of a tree whose branches are loops of a network: they are of its routers, or of their changes, and they read back.
use Rattle.std.proofs.Common.{ℕ, ◌*◌, ◌<◌, ◌≤◌, List, [], ◌∷◌, ◌++◌, length, get_or, map, All, arith, ap, subst, sym}
use Rattle.std.proofs.lemmas.List.Elements.{All-append, All-cons, All-contains, All-head, All-map, All-nil, All-push, All-tail, All-weaker, Contains-get_or}
use Rattle.igp_theory.specs.Changes.{first as first_change, second as second_change}
use Rattle.igp_theory.specs.Migrations.{Migration}
use Rattle.igp_theory.specs.Timetables.{change_number}
use Rattle.igp_theory.proofs.LoopLaws.{loop_inside}
use Rattle.order_core.specs.Pairs.{Pair, AreBelow, IsPath}
use Rattle.order_core.specs.Rankings.{numbers_below}
use Rattle.order_core.specs.Turns.{child_pairs}
use Rattle.order_core.specs.declared.turn.Turn.{Turn}
use Rattle.order_core.proofs.WaveLists.{numbers_are_below}
use Rattle.order_search.specs.Trees.{Fill, IsCycle, IsTreeNode, NodeFact, Place, places_below}
use Rattle.order_search.specs.declared.tree.Node.{Node}
use Rattle.order_search.specs.declared.tree.Node.TheVariants.{Branch, Leaf, Unvisited}
use Rattle.plan_theory.specs.Ranked.{base_of, by_router, size_of}
use Rattle.plan_theory.specs.WavesMeaning.{night_meaning}
use Rattle.plan_theory.specs.declared.items.Items.{Items}
use Rattle.plan_theory.specs.declared.items.Items.TheVariants.{Routers, Changes}
use Rattle.refutation_check.specs.TreeLines.{as_said}
use Rattle.refutation_check.specs.TreeTexts.{AreDistinctRouters, IsPrintedNode, NodeBelow}
use Rattle.refutation_check.specs.Verdicts.{IsRightNode}
use Rattle.refutation_check.proofs.Leaving.{children_below}

-- what holds of a node at each place where Q does, and keeps Q at the places below it, holds of all nodes
pub Fill-each : (P : NodeFact) (Q : Place → Type 0) (R : Node → Type 0) →
    ((place : Place) (node : Node) → Q place → P place node → R node × All Q (places_below place node)) →
    (places left : List Place) (nodes : List Node) → Fill P places nodes left → All Q places → All R nodes
Fill-each P Q R each places left [] fill here = All-nil R
Fill-each P Q R each [] left (node ∷ nodes) fill here = absurd fill
Fill-each P Q R each (place ∷ places) left (node ∷ nodes) fill here =
    let both = each place node (All-head Q place places here) fill.0 in
    let rest = All-append Q (places_below place node) places both.1 (All-tail Q place places here) in
    All-cons R node nodes both.0 (Fill-each P Q R each (places_below place node ++ places) left nodes fill.1 rest)

-- The routers of a cycle

round_below : (n : ℕ) (pairs : Place) → AreBelow n pairs → (others : List ℕ) (first u : ℕ) →
    IsPath pairs u (others ++ first ∷ []) first → All (λ (v : ℕ). v < n) (first ∷ others)
round_below n pairs below [] first u path =
    All-cons (λ (v : ℕ). v < n) first [] (All-contains (λ (p : Pair). (p.0 < n) × (p.1 < n)) pairs (u, first) below path.0).1
    (All-nil (λ (v : ℕ). v < n))
round_below n pairs below (w ∷ others) first u path =
    let rest = round_below n pairs below others first w path.1 in
    let more = All-cons (λ (v : ℕ). v < n) w others (All-contains (λ (p : Pair). (p.0 < n) × (p.1 < n)) pairs (u, w) below path.0).1
    (All-tail (λ (v : ℕ). v < n) first others rest) in
    All-cons (λ (v : ℕ). v < n) first (w ∷ others) (All-head (λ (v : ℕ). v < n) first others rest) more

cycle_below : (n : ℕ) (pairs : Place) (cycle : List ℕ) → AreBelow n pairs → IsCycle pairs cycle → All (λ (v : ℕ). v < n) cycle
cycle_below n pairs cycle below is =
    let round = round_below n pairs below is.others is.first is.first is.round in
    subst (λ (vs : List ℕ). All (λ (v : ℕ). v < n) vs) (sym is.begins) round

cycle_some : (pairs : Place) (cycle : List ℕ) → IsCycle pairs cycle → 2 ≤ length cycle
cycle_some pairs cycle is = omega (arith, is.some, ap (λ (vs : List ℕ). length vs) is.begins)

-- What is ranked

-- the pairs that every ranking keeps are of numbers below their count
base_below : (items : Items) (n : ℕ) → AreBelow (size_of items n) (base_of items n)
base_below Routers n = All-nil (λ (p : Pair). (p.0 < n) × (p.1 < n))
base_below Changes n =
    All-map (λ (p : Pair). (p.0 < 2 * n) × (p.1 < 2 * n)) (λ (u : ℕ). (change_number (first_change u), change_number (second_change u))) (numbers_below n)
    (λ k d within. let below = (numbers_are_below n (get_or (numbers_below n) k d)).0 (Contains-get_or (numbers_below n) k d within) in
    (omega (arith, below), omega (arith, below)))

-- changes of routers below a count are below twice it
changes_below : (n : ℕ) (turns : List Turn) → All (λ (t : Turn). t.router < n) (map by_router turns) → All (λ (t : Turn). t.router < 2 * n) turns
changes_below n [] below = All-nil (λ (t : Turn). t.router < 2 * n)
changes_below n (turn ∷ turns) below =
    let here = All-head (λ (t : Turn). t.router < n) (by_router turn) (map by_router turns) below in
    let rest = All-tail (λ (t : Turn). t.router < n) (by_router turn) (map by_router turns) below in
    All-cons (λ (t : Turn). t.router < 2 * n) turn turns (omega (arith, here)) (changes_below n turns rest)

-- The nodes

-- a node is of numbers below their count, and reads back
abbrev pub IsPrintableNode : Items → ℕ → Node → Type 0
IsPrintableNode items n node = NodeBelow (size_of items n) node × IsPrintedNode (as_said items node)

leaf_reads : (items : Items) (cycle : List ℕ) → AreDistinctRouters cycle → IsPrintedNode (as_said items (Leaf cycle))
leaf_reads Routers cycle made = made
leaf_reads Changes cycle made = made

open_reads : (items : Items) → IsPrintedNode (as_said items Unvisited)
open_reads Routers = tt
open_reads Changes = tt

module _ (items : Items) (move : Migration) where
  -- the turns of a loop of the network
  branch_printable : (a : ℕ) (turns : List Turn) → (night_meaning items move).real a turns →
      IsPrintableNode items (length move.net) (Branch a turns)
  branch_printable a turns is = by_items items is
    where
      by_items : (some : Items) → (night_meaning some move).real a turns → IsPrintableNode some (length move.net) (Branch a turns)
      by_items Routers loops = (loop_inside move a turns loops, (loops.address, record { some = loops.some; distinct = loops.distinct }))
      by_items Changes loops =
          let ring = loops.is_loop in (
            changes_below (length move.net) turns (loop_inside move a (map by_router turns) ring),
            (ring.address, record { some = ring.some; distinct = ring.distinct }),
          )

  node_printable : (place : Place) (node : Node) → AreBelow (size_of items (length move.net)) place → IsRightNode items move place node →
      IsPrintableNode items (length move.net) node × All (AreBelow (size_of items (length move.net))) (places_below place node)
  node_printable place (Branch a turns) below is =
      let n = size_of items (length move.net) in
      let fine = branch_printable a turns is.0 in
      let more : (p : Pair) → (p.0 < n) × (p.1 < n) → AreBelow n (place ++ p ∷ []) = λ p both.
      All-push (λ (q : Pair). (q.0 < n) × (q.1 < n)) place p below both in (
        fine,
        All-map (AreBelow n) (λ (p : Pair). place ++ p ∷ []) (child_pairs turns)
            (All-weaker (λ (p : Pair). (p.0 < n) × (p.1 < n)) (λ (p : Pair). AreBelow n (place ++ p ∷ [])) more (child_pairs turns)
            (children_below n turns fine.0)),
      )
  node_printable place (Leaf cycle) below is = (
    (
      cycle_below (size_of items (length move.net)) place cycle below is,
      leaf_reads items cycle (record { some = cycle_some place cycle is; distinct = is.distinct }),
    ),
    All-nil (AreBelow (size_of items (length move.net))),
  )
  node_printable place Unvisited below is = ((tt, open_reads items), All-nil (AreBelow (size_of items (length move.net))))

  -- the nodes of a tree over the base are printable
  nodes_printable : (left : List Place) (nodes : List Node) → Fill (IsRightNode items move) (base_of items (length move.net) ∷ []) nodes left →
      All (IsPrintableNode items (length move.net)) nodes
  nodes_printable left nodes fill =
      let base = base_of items (length move.net) in
      let is_below = AreBelow (size_of items (length move.net)) in
      Fill-each (IsRightNode items move) is_below (IsPrintableNode items (length move.net)) node_printable (base ∷ []) left nodes fill
      (All-cons is_below base [] (base_below items (length move.net)) (All-nil is_below))

  pub nodes_below : (left : List Place) (nodes : List Node) → Fill (IsRightNode items move) (base_of items (length move.net) ∷ []) nodes left →
      All (NodeBelow (size_of items (length move.net))) nodes
  nodes_below left nodes fill = λ k d within. (nodes_printable left nodes fill k d within).0

  pub nodes_read : (left : List Place) (nodes : List Node) → Fill (IsRightNode items move) (base_of items (length move.net) ∷ []) nodes left →
      All (λ node. IsPrintedNode (as_said items node)) nodes
  nodes_read left nodes fill = λ k d within. (nodes_printable left nodes fill k d within).1
