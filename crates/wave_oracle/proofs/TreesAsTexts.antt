-- The texts of the trees that a search makes: a closed tree where it refutes, an unfinished one where it was stopped.
use Rattle.std.proofs.Common.{ℕ, suc, ◌<◌, List, [], ◌∷◌, ◌++◌, length, replicate, arith, refl, sym, subst, ◌≡◌}
use Rattle.net_model.specs.Refusals.{IsNetwork}
use Rattle.net_model.specs.RouterNames.{names_of}
use Rattle.igp_theory.specs.Migrations.{Migration}
use Rattle.order_search.specs.Answers.{IsRefutation, IsSpent}
use Rattle.order_search.specs.Places.{IsFoundNode}
use Rattle.plan_theory.specs.Ranked.{base_of}
use Rattle.plan_theory.specs.WavesMeaning.{night_meaning}
use Rattle.plan_theory.specs.declared.items.Items.{Items}
use Rattle.order_search.specs.Trees.{Fill, IsTreeNode, Place, Real, branch_count}
use Rattle.order_search.proofs.Fills.{Fill-append, Fill-weaker}
use Rattle.order_search.specs.declared.tree.Node.{Node}
use Rattle.order_search.specs.declared.tree.Node.TheVariants.{Unvisited}
use Rattle.refutation_check.specs.TreeTexts.{ReadsAsNodes, ranked_tree_text}
use Rattle.refutation_check.specs.Verdicts.{AreRightLines, IsHeadedVerdict, IsRightNode, leaf_count, open_count, tree_header_of}
use Rattle.refutation_check.specs.declared.verdict.Verdict.TheVariants.{Closed, Unfinished}
use Rattle.refutation_check.proofs.PrintedTrees.{trees_read_back}
use Rattle.refutation_check.proofs.ReadingFacts.{open_count-append}
use Rattle.refutation_check.proofs.Refuting.{asked_base}
use Rattle.wave_oracle.proofs.TreeNodes.{nodes_below, nodes_read}

-- Unvisited places

-- as many unvisited nodes as there are places fill these
open_places : (real : Real) (places : List Place) → Fill (IsTreeNode real) places (replicate (length places) Unvisited) []
open_places real [] = refl
open_places real (place ∷ places) = (tt, open_places real places)

-- the last of some unvisited nodes is open
open_some : (nodes : List Node) (n : ℕ) → 0 < open_count (nodes ++ replicate (suc n) Unvisited)
open_some nodes n = omega (arith, open_count-append nodes (replicate (suc n) Unvisited))

module _ (items : Items) (move : Migration) (budget : ℕ) where
  -- the first place of a tree
  abbrev pub first_places : List Place
  first_places = base_of items (length move.net) ∷ []

  found_fill : (places left : List Place) (nodes : List Node) → Fill (IsFoundNode (night_meaning items move)) places nodes left →
      Fill (IsRightNode items move) places nodes left
  found_fill places left nodes fill =
      Fill-weaker (IsFoundNode (night_meaning items move)) (IsRightNode items move) (λ place node is. is.is_node) places left nodes fill

  based_fill : (left : List Place) (nodes : List Node) →
      Fill (IsFoundNode (night_meaning items move)) ((night_meaning items move).base ∷ []) nodes left → Fill (IsRightNode items move) first_places nodes left
  based_fill left nodes fill =
      subst (λ (place : Place). Fill (IsRightNode items move) (place ∷ []) nodes left) (asked_base items move)
      (found_fill ((night_meaning items move).base ∷ []) left nodes fill)

  -- the branches of a refutation are loops of the network
  pub refuted_fill : (tree : List Node) → IsRefutation (night_meaning items move) budget tree → Fill (IsRightNode items move) first_places tree []
  refuted_fill tree is = based_fill [] tree is.closed.tree

  -- and so are those of a tree that was stopped
  pub spent_fill : (tree : List Node) → IsSpent (night_meaning items move) budget tree → Fill (IsRightNode items move) first_places tree []
  spent_fill tree is =
      let stopped = is.stopped in
      let before = based_fill (stopped.place ∷ stopped.later) stopped.before stopped.stands.fills in
      let rest = open_places (night_meaning items move).real (stopped.place ∷ stopped.later) in
      subst (λ (nodes : List Node). Fill (IsRightNode items move) first_places nodes []) (sym stopped.ends)
      (Fill-append (IsRightNode items move) first_places (stopped.place ∷ stopped.later) [] stopped.before
      (replicate (suc (length stopped.later)) Unvisited) before rest)

  module _ (network : IsNetwork move.net) where
    -- a tree whose branches are loops of the network reads back as this tree
    tree_reads : (nodes : List Node) → Fill (IsRightNode items move) first_places nodes [] →
        ReadsAsNodes items move.net (ranked_tree_text items (names_of move.net) nodes) nodes
    tree_reads nodes fill = trees_read_back items move.net nodes network (nodes_below items move [] nodes fill) (nodes_read items move [] nodes fill)

    right_lines : (nodes : List Node) (fill : Fill (IsRightNode items move) first_places nodes []) →
        AreRightLines items move (tree_reads nodes fill).lines nodes []
    right_lines nodes fill = record { said = (tree_reads nodes fill).said; fills = fill }

    -- a refutation is a closed text
    pub refutation_closes : (tree : List Node) → IsRefutation (night_meaning items move) budget tree →
        IsHeadedVerdict items (tree_header_of items) move (ranked_tree_text items (names_of move.net) tree) (Closed (branch_count tree) (leaf_count tree))
    refutation_closes tree is =
        let fill = refuted_fill tree is in
        let back = tree_reads tree fill in
        record {
          lines = back.lines;
          text_is = back.text_is;
          holds = record {
            nodes = tree;
            right = right_lines tree fill;
            visited = is.closed.visited;
            branches_are = refl;
            leaves_are = refl;
          };
        }

    -- a tree that was stopped is an unfinished text
    pub spent_stays_open : (tree : List Node) → IsSpent (night_meaning items move) budget tree →
        IsHeadedVerdict items (tree_header_of items) move (ranked_tree_text items (names_of move.net) tree) (Unfinished (open_count tree))
    spent_stays_open tree is =
        let fill = spent_fill tree is in
        let back = tree_reads tree fill in
        record {
          lines = back.lines;
          text_is = back.text_is;
          holds = record {
            nodes = tree;
            right = right_lines tree fill;
            some = subst (λ (nodes : List Node). 0 < open_count nodes) (sym is.stopped.ends) (open_some is.stopped.before (length is.stopped.later));
            unvisited_are = refl;
          };
        }
