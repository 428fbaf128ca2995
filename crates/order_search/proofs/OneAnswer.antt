-- One answer: where one branch at most is picked for a ranking, and none for a good one, what the search may answer is one.
use Rattle.std.proofs.lemmas.Grind.{common_steps}
use Rattle.std.proofs.Common.{◌≡◌, ℕ, suc, ◌+◌, ◌≤◌, ◌⊎◌, inl, inr, List, [], ◌∷◌, ◌++◌, length, replicate, arith}
use Rattle.std.proofs.Common.{subst, sym, refl, ap, ◌∙◌, ⊎_elim}
use Rattle.std.specs.List.{All}
use Rattle.std.proofs.lemmas.List.{append-nil, same_from_push}
use Rattle.std.proofs.lemmas.List.Elements.{All-head, All-tail}
use Rattle.order_core.specs.Pairs.{Pair}
use Rattle.order_core.specs.declared.turn.Turn.{Turn}
use Rattle.precedence_set.specs.Layers.{IsChain}
use Rattle.precedence_set.specs.LeastCycle.{IsLowestBack, GoesBack, IsLeastCycle}
use Rattle.precedence_set.proofs.LayerFacts.{layers_unique, chain_unique}
use Rattle.order_search.specs.Trees.{Place, Fill, places_below, IsCycle, IsVisited, IsClosedTree, branch_count}
use Rattle.order_search.specs.Meanings.{Meaning}
use Rattle.order_search.specs.Places.{IsFoundNode, IsLayered, IsClosedByLast, StandsAt}
use Rattle.order_search.specs.Answers.{FoundWaves, found_waves, AreFoundWaves, IsRefutation, IsSpent, IsFound}
use Rattle.order_search.specs.Laws.{PicksOne}
use Rattle.order_search.proofs.Fills.{branch_count-append, branch_count-unvisited}
use Rattle.order_search.proofs.TreeRefutes.{cycle_leads}
use Rattle.order_search.specs.declared.tree.Node.{Node}
use Rattle.order_search.specs.declared.tree.Node.TheVariants.{Branch, Leaf, Unvisited}
use Rattle.order_search.specs.declared.found.Found.{Found}
use Rattle.order_search.specs.declared.found.Found.TheVariants.{Waves, Refuted, Spent}

-- A place has one layered list, one cycle, and one node

layered_once : (n : ℕ) (place : Place) (ranks others : List ℕ) → IsLayered n place ranks → IsLayered n place others → ranks ≡ others
layered_once n place ranks others is too = layers_unique n place ranks others is.below is.layers too.layers

lowest_once : (pairs : List Pair) (u x w q : ℕ) → IsLowestBack pairs u x w → IsLowestBack pairs u x q → w ≡ q
lowest_once pairs u x w q is too = omega (arith, is.lowest q too.back, too.lowest w is.back)

back_once : (pairs : List Pair) (u x : ℕ) (rest others : List ℕ) → GoesBack pairs u x rest → GoesBack pairs u x others → rest ≡ others
back_once pairs u x [] [] goes too = refl
back_once pairs u x [] (w ∷ others) goes too = absurd (too.0 (lowest_once pairs u x w u too.1 goes))
back_once pairs u x (w ∷ rest) [] goes too = absurd (goes.0 (lowest_once pairs u x w u goes.1 too))
back_once pairs u x (w ∷ rest) (q ∷ others) goes too =
    let same : w ≡ q = lowest_once pairs u x w q goes.1 too.1 in
    let later : rest ≡ others =
    back_once pairs u q rest others (subst (λ (y : ℕ). GoesBack pairs u y rest) same goes.2) too.2 in
    cc

-- the cycle that a pair closes is one
least_cycle_once : (pairs : List Pair) (u v : ℕ) (cycle other : List ℕ) → IsLeastCycle pairs u v cycle → IsLeastCycle pairs u v other →
    cycle ≡ other
least_cycle_once pairs u v cycle other is too = grind (arith, common_steps, back_once)

-- and so is the one that the last pair of a place closes
last_cycle_once : (place : Place) (cycle other : List ℕ) → IsClosedByLast place cycle → IsClosedByLast place other → cycle ≡ other
last_cycle_once place cycle other is too =
    let ends = same_from_push is.above too.above (is.before, is.after) (too.before, too.after) (sym is.last ∙ too.last) in
    let before : is.before ≡ too.before = ap (λ (p : Pair). p.0) ends.1 in
    let after : is.after ≡ too.after = ap (λ (p : Pair). p.1) ends.1 in
    let moved : IsLeastCycle too.above too.before too.after cycle =
    subst (λ (a : ℕ). IsLeastCycle too.above too.before a cycle) after
    (subst (λ (b : ℕ). IsLeastCycle too.above b is.after cycle) before
    (subst (λ (ps : Place). IsLeastCycle ps is.before is.after cycle) ends.0 is.least)) in
    least_cycle_once too.above too.before too.after cycle other moved too.least

-- a place that has a layered list has no cycle
no_cycle : (n : ℕ) (place : Place) (ranks cycle : List ℕ) → IsLayered n place ranks → IsCycle place cycle → ⊥
no_cycle n place ranks cycle layered is = let leads = cycle_leads place cycle is in layered.acyclic leads.0 leads.1

-- a visited node that the search makes is the only one at its place
node_once : (m : Meaning) → PicksOne m.good m.picked → (place : Place) (node other : Node) → IsFoundNode m place node → IsFoundNode m place other →
    IsVisited node → IsVisited other → node ≡ other
node_once m picks place (Branch a s) (Branch b t) is too visited also =
    let one = layered_once m.size place is.earned.ranks too.earned.ranks is.earned.layered too.earned.layered in
    let moved = subst (λ (ranks : List ℕ). m.picked ranks a s) one is.earned.pick in
    let same = picks.one too.earned.ranks a b s t moved too.earned.pick in
    ap (λ (x : ℕ). Branch x s) same.0 ∙ ap (λ (x : List Turn). Branch b x) same.1
node_once m picks place (Branch a s) (Leaf cycle) is too visited also =
    absurd (no_cycle m.size place is.earned.ranks cycle is.earned.layered too.is_node)
node_once m picks place (Leaf cycle) (Branch a s) is too visited also =
    absurd (no_cycle m.size place too.earned.ranks cycle too.earned.layered is.is_node)
node_once m picks place (Leaf cycle) (Leaf other) is too visited also =
    ap (λ (c : List ℕ). Leaf c) (last_cycle_once place cycle other is.least_cycle too.least_cycle)
node_once m picks place Unvisited other is too visited also = absurd visited
node_once m picks place (Branch a s) Unvisited is too visited also = absurd also
node_once m picks place (Leaf cycle) Unvisited is too visited also = absurd also

-- Two fills of the same places

-- nodes, and the places that they leave open
record Filled : Type 0 where
  pub nodes : List Node
  pub left : List Place

abbrev filled : List Node → List Place → Filled
filled nodes left = record { nodes = nodes; left = left }

-- the second nodes are the first ones and some more, which fill what those leave open
record GoesOn (m : Meaning) (one other : Filled) : Type 0 where
  pub more : List Node
  pub grown : other.nodes ≡ one.nodes ++ more
  pub fills : Fill (IsFoundNode m) one.left more other.left
  pub visited : All IsVisited more

-- of two lists of visited nodes that fill the same places one goes on from the other
meet : (m : Meaning) → PicksOne m.good m.picked → (places left last : List Place) (nodes others : List Node) →
    Fill (IsFoundNode m) places nodes left → Fill (IsFoundNode m) places others last → All IsVisited nodes → All IsVisited others →
    GoesOn m (filled nodes left) (filled others last) ⊎ GoesOn m (filled others last) (filled nodes left)
meet m picks places left last [] others fill too visited also = inl (record {
  more = others;
  grown = refl;
  fills = subst (λ (ps : List Place). Fill (IsFoundNode m) ps others last) fill too;
  visited = also;
})
meet m picks places left last (node ∷ nodes) [] fill too visited also = inr (record {
  more = node ∷ nodes;
  grown = refl;
  fills = subst (λ (ps : List Place). Fill (IsFoundNode m) ps (node ∷ nodes) left) too fill;
  visited = visited;
})
meet m picks [] left last (node ∷ nodes) (other ∷ others) fill too visited also = absurd fill
meet m picks (place ∷ places) left last (node ∷ nodes) (other ∷ others) fill too visited also =
    let here = All-head IsVisited node nodes visited in
    let there = All-head IsVisited other others also in
    let same : node ≡ other = node_once m picks place node other fill.0 too.0 here there in
    let below : List Place = places_below place other ++ places in
    let moved : Fill (IsFoundNode m) below nodes left =
    subst (λ (x : Node). Fill (IsFoundNode m) (places_below place x ++ places) nodes left) same fill.1 in
    let rest = All-tail IsVisited node nodes visited in
    let others_rest = All-tail IsVisited other others also in
    elim (meet m picks below left last nodes others moved too.1 rest others_rest) [
      | inl on ↦ inl (record {
        more = on.more;
        grown = ap (λ (xs : List Node). other ∷ xs) on.grown ∙ ap (λ (x : Node). x ∷ (nodes ++ on.more)) (sym same);
        fills = on.fills;
        visited = on.visited;
      })
      | inr on ↦ inr (record {
        more = on.more;
        grown = ap (λ (xs : List Node). node ∷ xs) on.grown ∙ ap (λ (x : Node). x ∷ (others ++ on.more)) same;
        fills = on.fills;
        visited = on.visited;
      })
    ]

-- what follows at an open place that has a layered list: nothing, as at an end, or a branch, and then the list isn't good
data WhatFollows (m : Meaning) (ranks : List ℕ) (more : List Node) (AtEnd : Type 0) : Type 0 where
  nothing : AtEnd → more ≡ [] → WhatFollows m ranks more AtEnd
  branch : 1 ≤ branch_count more → ¬ m.good ranks → WhatFollows m ranks more AtEnd

what_follows : (m : Meaning) → PicksOne m.good m.picked → (place : Place) (places last : List Place) (ranks : List ℕ) (more : List Node) →
    IsLayered m.size place ranks → Fill (IsFoundNode m) (place ∷ places) more last → All IsVisited more →
    WhatFollows m ranks more (place ∷ places ≡ last)
what_follows m picks place places last ranks [] layered fills visited = nothing fills refl
what_follows m picks place places last ranks (Branch a t ∷ more) layered fills visited =
    let earned = fills.0.earned in
    let one = layered_once m.size place earned.ranks ranks earned.layered layered in
    branch (omega arith) (λ is_good. picks.none earned.ranks a t earned.pick (subst (λ (rs : List ℕ). m.good rs) (sym one) is_good))
what_follows m picks place places last ranks (Leaf cycle ∷ more) layered fills visited =
    absurd (no_cycle m.size place ranks cycle layered fills.0.is_node)
what_follows m picks place places last ranks (Unvisited ∷ more) layered fills visited =
    absurd (All-head IsVisited Unvisited more visited)

-- a first unvisited place, and what stands before it and after it
record Stop (m : Meaning) : Type 0 where
  place : Place
  ranks : List ℕ
  before : List Node
  later : List Place
  stands : StandsAt m place before later
  layered : IsLayered m.size place ranks

-- two such places are one, or at the earlier one, whose list isn't good, the other nodes have a branch
data Stops (m : Meaning) (s t : Stop m) : Type 0 where
  same : s.before ≡ t.before → s.place ≡ t.place → s.later ≡ t.later → s.ranks ≡ t.ranks → Stops m s t
  earlier : branch_count s.before + 1 ≤ branch_count t.before → ¬ m.good s.ranks → Stops m s t
  later : branch_count t.before + 1 ≤ branch_count s.before → ¬ m.good t.ranks → Stops m s t

more_branches : (nodes more others : List Node) → others ≡ nodes ++ more → 1 ≤ branch_count more → branch_count nodes + 1 ≤ branch_count others
more_branches nodes more others grown some =
    omega (arith, ap (λ (xs : List Node). branch_count xs) grown, branch_count-append nodes more, some)

stops_on : (m : Meaning) → PicksOne m.good m.picked → (s t : Stop m) →
    GoesOn m (filled s.before (s.place ∷ s.later)) (filled t.before (t.place ∷ t.later)) → Stops m s t
stops_on m picks s t on =
    elim (what_follows m picks s.place s.later (t.place ∷ t.later) s.ranks on.more s.layered on.fills on.visited) [
      | nothing places none ↦
          let place : s.place ≡ t.place = cc in
          let rest : s.later ≡ t.later = cc in
          let ends : t.before ≡ s.before = on.grown ∙ ap (λ (xs : List Node). s.before ++ xs) none ∙ append-nil s.before in
          same (sym ends) place rest
          (layered_once m.size t.place s.ranks t.ranks (subst (λ (p : Place). IsLayered m.size p s.ranks) place s.layered) t.layered)
      | branch some bad ↦ earlier (more_branches s.before on.more t.before on.grown some) bad
    ]

turned : (m : Meaning) (s t : Stop m) → Stops m t s → Stops m s t
turned m s t (same before place rest ranks) = same (sym before) (sym place) (sym rest) (sym ranks)
turned m s t (earlier more bad) = later more bad
turned m s t (later more bad) = earlier more bad

stops : (m : Meaning) → PicksOne m.good m.picked → (s t : Stop m) → Stops m s t
stops m picks s t = ⊎_elim (stops_on m picks s t) (λ on. turned m s t (stops_on m picks t s on))
    (meet m picks (m.base ∷ []) (s.place ∷ s.later) (t.place ∷ t.later) s.before t.before s.stands.fills t.stands.fills
    s.stands.visited t.stands.visited)

-- a closed tree has a branch at each place with a layered list, which isn't good
closed_goes_on : (m : Meaning) → PicksOne m.good m.picked → (tree : List Node) → IsClosedTree (IsFoundNode m) m.base tree → (s : Stop m) →
    (branch_count s.before + 1 ≤ branch_count tree) × (¬ m.good s.ranks)
closed_goes_on m picks tree closed s =
    elim (meet m picks (m.base ∷ []) [] (s.place ∷ s.later) tree s.before closed.tree s.stands.fills closed.visited s.stands.visited) [
      | inl on ↦ absurd (no_more on.more on.fills)
      | inr on ↦ elim (what_follows m picks s.place s.later [] s.ranks on.more s.layered on.fills on.visited) [
        | nothing places none ↦ absurd (let e : s.place ∷ s.later ≡ [] = places in cc)
        | branch some bad ↦ (more_branches s.before on.more tree on.grown some, bad)
      ]
    ]
  where
    no_more : (more : List Node) → Fill (IsFoundNode m) [] more (s.place ∷ s.later) → ⊥
    no_more [] fills = let e : [] ≡ s.place ∷ s.later = fills in cc
    no_more (node ∷ more) fills = fills

-- two closed trees are one
closed_once : (m : Meaning) → PicksOne m.good m.picked → (tree other : List Node) → IsClosedTree (IsFoundNode m) m.base tree →
    IsClosedTree (IsFoundNode m) m.base other → tree ≡ other
closed_once m picks tree other closed too =
    elim (meet m picks (m.base ∷ []) [] [] tree other closed.tree too.tree closed.visited too.visited) [
      | inl on ↦ sym (ends tree other on.more on.grown on.fills)
      | inr on ↦ ends other tree on.more on.grown on.fills
    ]
  where
    ends : (nodes others more : List Node) → others ≡ nodes ++ more → Fill (IsFoundNode m) [] more [] → others ≡ nodes
    ends nodes others [] grown fills = grown ∙ append-nil nodes
    ends nodes others (node ∷ more) grown fills = absurd fills

-- The three answers

-- the branches of nodes that end with unvisited places stand before these
branches_before : (before nodes : List Node) (k : ℕ) → nodes ≡ before ++ replicate k Unvisited → branch_count nodes ≡ branch_count before
branches_before before nodes k ends =
    omega (arith, ap (λ (xs : List Node). branch_count xs) ends, branch_count-append before (replicate k Unvisited), branch_count-unvisited k)

abbrev waves_stop : (m : Meaning) (budget : ℕ) (found : FoundWaves) → AreFoundWaves m budget found → Stop m
waves_stop m budget found is = record {
  place = found.pairs;
  ranks = found.ranks;
  before = is.leads.before;
  later = is.leads.later;
  stands = is.leads.stands;
  layered = is.leads.layered;
}

abbrev spent_stop : (m : Meaning) (budget : ℕ) (tree : List Node) → IsSpent m budget tree → Stop m
spent_stop m budget tree found = record {
  place = found.stopped.place;
  ranks = found.stopped.ranks;
  before = found.stopped.before;
  later = found.stopped.later;
  stands = found.stopped.stands;
  layered = found.stopped.layered;
}

-- two answers of waves are one
waves_once : (m : Meaning) (budget : ℕ) → PicksOne m.good m.picked → (w v : FoundWaves) → AreFoundWaves m budget w → AreFoundWaves m budget v →
    Waves w.ranks w.pairs w.chain w.trail ≡ Waves v.ranks v.pairs v.chain v.trail
waves_once m budget picks w v is too =
    elim (stops m picks (waves_stop m budget w is) (waves_stop m budget v too)) [
      | same before place later_places one ↦
          let trails : w.trail ≡ v.trail = is.leads.ends ∙ ap (λ (xs : List Node). xs ++ Unvisited ∷ []) before ∙ sym too.leads.ends in
          let moved : IsChain v.pairs v.ranks w.chain =
          subst (λ (rs : List ℕ). IsChain v.pairs rs w.chain) one (subst (λ (ps : List Pair). IsChain ps w.ranks w.chain) place is.chained) in
          let chains : w.chain ≡ v.chain = chain_unique v.pairs v.ranks w.chain v.chain moved too.chained in
          cc
      | earlier more bad ↦ absurd (bad is.is_good)
      | later more bad ↦ absurd (bad too.is_good)
    ]

-- two answers that the budget is spent are one
spent_once : (m : Meaning) (budget : ℕ) → PicksOne m.good m.picked → (tree other : List Node) → IsSpent m budget tree → IsSpent m budget other →
    tree ≡ other
spent_once m budget picks tree other is too =
    let one = branches_before is.stopped.before tree (suc (length is.stopped.later)) is.stopped.ends in
    let two = branches_before too.stopped.before other (suc (length too.stopped.later)) too.stopped.ends in
    elim (stops m picks (spent_stop m budget tree is) (spent_stop m budget other too)) [
      | same before place later_places ranks ↦
          is.stopped.ends ∙ ap (λ (xs : List Node). xs ++ replicate (suc (length is.stopped.later)) Unvisited) before
          ∙ ap (λ (ps : List Place). too.stopped.before ++ replicate (suc (length ps)) Unvisited) later_places ∙ sym too.stopped.ends
      | earlier more bad ↦ absurd (omega (arith, more, one, two, is.stopped.spent, too.stopped.spent))
      | later more bad ↦ absurd (omega (arith, more, one, two, is.stopped.spent, too.stopped.spent))
    ]

-- where waves are found, the budget isn't spent
waves_not_spent : (m : Meaning) (budget : ℕ) → PicksOne m.good m.picked → (found : FoundWaves) (tree : List Node) →
    AreFoundWaves m budget found → IsSpent m budget tree → ⊥
waves_not_spent m budget picks found tree is too =
    let one = branches_before is.leads.before found.trail 1 is.leads.ends in
    let two = branches_before too.stopped.before tree (suc (length too.stopped.later)) too.stopped.ends in
    elim (stops m picks (waves_stop m budget found is) (spent_stop m budget tree too)) [
      | same before place later_places same_ranks ↦ too.stopped.bad (subst (λ (rs : List ℕ). m.good rs) same_ranks is.is_good)
      | earlier more bad ↦ bad is.is_good
      | later more bad ↦ omega (arith, more, one, two, is.within, too.stopped.spent)
    ]

waves_not_refuted : (m : Meaning) (budget : ℕ) → PicksOne m.good m.picked → (found : FoundWaves) (tree : List Node) →
    AreFoundWaves m budget found → IsRefutation m budget tree → ⊥
waves_not_refuted m budget picks found tree is too =
    (closed_goes_on m picks tree too.closed (waves_stop m budget found is)).1 is.is_good

spent_not_refuted : (m : Meaning) (budget : ℕ) → PicksOne m.good m.picked → (tree other : List Node) → IsSpent m budget tree →
    IsRefutation m budget other → ⊥
spent_not_refuted m budget picks tree other is too =
    let on = closed_goes_on m picks other too.closed (spent_stop m budget tree is) in
    let one = branches_before is.stopped.before tree (suc (length is.stopped.later)) is.stopped.ends in
    omega (arith, on.0, one, is.stopped.spent, too.within)

-- what the search may answer is one: of one kind, with the same nodes, waves, pairs and chain
pub one_answer : (m : Meaning) (budget : ℕ) → PicksOne m.good m.picked → (found other : Found) → IsFound m budget found → IsFound m budget other →
    found ≡ other
one_answer m budget picks (Waves ranks pairs chain trail) (Waves others rest other nodes) is too =
    waves_once m budget picks (found_waves ranks pairs chain trail) (found_waves others rest other nodes) is too
one_answer m budget picks (Waves ranks pairs chain trail) (Refuted tree) is too =
    absurd (waves_not_refuted m budget picks (found_waves ranks pairs chain trail) tree is too)
one_answer m budget picks (Waves ranks pairs chain trail) (Spent tree) is too =
    absurd (waves_not_spent m budget picks (found_waves ranks pairs chain trail) tree is too)
one_answer m budget picks (Refuted tree) (Waves ranks pairs chain trail) is too =
    absurd (waves_not_refuted m budget picks (found_waves ranks pairs chain trail) tree too is)
one_answer m budget picks (Refuted tree) (Refuted other) is too =
    ap (λ (nodes : List Node). Refuted nodes) (closed_once m picks tree other is.closed too.closed)
one_answer m budget picks (Refuted tree) (Spent other) is too = absurd (spent_not_refuted m budget picks other tree too is)
one_answer m budget picks (Spent tree) (Waves ranks pairs chain trail) is too =
    absurd (waves_not_spent m budget picks (found_waves ranks pairs chain trail) tree too is)
one_answer m budget picks (Spent tree) (Refuted other) is too = absurd (spent_not_refuted m budget picks tree other is too)
one_answer m budget picks (Spent tree) (Spent other) is too =
    ap (λ (nodes : List Node). Spent nodes) (spent_once m budget picks tree other is too)
