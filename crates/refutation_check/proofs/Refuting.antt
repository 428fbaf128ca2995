-- A closed tree whose branches are loops of the network refutes every ranking, and every list of the changes.
use Rattle.std.proofs.Common.{arith}
use Rattle.std.proofs.lemmas.Grind.{common_steps}
use Rattle.std.proofs.Common.{◌≡◌, ℕ, List, [], ◌∷◌, length, sym, subst}
use Rattle.igp_theory.specs.LoopLaws.{BeginsOld}
use Rattle.igp_theory.specs.Migrations.{Migration}
use Rattle.order_core.specs.Pairs.{Pair}
use Rattle.order_search.specs.Trees.{Fill}
use Rattle.order_search.proofs.TreeRefutes.{closed_tree_refutes}
use Rattle.plan_theory.specs.Laws.{HasNoneSound}
use Rattle.plan_theory.specs.Ranked.{CanRank, base_of, ranked}
use Rattle.plan_theory.specs.WavesMeaning.{night_meaning}
use Rattle.plan_theory.specs.declared.items.Items.{Items}
use Rattle.plan_theory.specs.declared.items.Items.TheVariants.{Routers}
use Rattle.plan_theory.proofs.Decided.{rankings_decided}
use Rattle.plan_theory.proofs.ItemsServe.{items_ask, items_serve}
use Rattle.plan_theory.proofs.Meaning.{none_seamless, none_without_rankings}
use Rattle.refutation_check.specs.Verdicts.{IsClosedTreeOf, IsHeadedVerdict, IsRightNode, IsTextVerdict, LeavesNoneWhereClosed, RefutesWhereClosed}
use Rattle.refutation_check.specs.declared.verdict.Verdict.{Verdict}
use Rattle.refutation_check.specs.declared.verdict.Verdict.TheVariants.{Closed, Unfinished, Wrong}

-- what a search asks begins with the pairs that every ranking keeps
pub asked_base : (items : Items) (move : Migration) → (night_meaning items move).base ≡ base_of items (length move.net)
asked_base items move = grind (arith, common_steps)

module _ (items : Items) (move : Migration) (can : CanRank items move) where
  -- no ranking is good, since loops decide which ones are
  pub closed_leaves_none : (lines : List (List ℕ)) (branches leaves : ℕ) → IsClosedTreeOf items move lines branches leaves →
      HasNoneSound items move
  closed_leaves_none lines branches leaves is =
      none_without_rankings items move can
      (closed_tree_refutes (night_meaning items move).good (night_meaning items move).real (night_meaning items move).base
      (rankings_decided move (ranked items move) (items_serve items move can) (night_meaning items move) (items_ask items move)) is.nodes (record {
        tree = subst (λ (base : List Pair). Fill (IsRightNode items move) (base ∷ []) is.nodes []) (sym (asked_base items move)) is.right.fills;
        visited = is.visited;
      }))

  -- what each verdict means
  pub verdict_leaves_none : (header text : List ℕ) (verdict : Verdict) → IsHeadedVerdict items header move text verdict →
      LeavesNoneWhereClosed items move verdict
  verdict_leaves_none header text (Closed branches leaves) is = closed_leaves_none is.lines branches leaves is.holds
  verdict_leaves_none header text (Unfinished unvisited) is = tt
  verdict_leaves_none header text (Wrong line kind) is = tt

-- where routers are ranked and every one begins in Old, no wave list and no order is seamless
refutes_old : (move : Migration) (verdict : Verdict) → BeginsOld move → LeavesNoneWhereClosed Routers move verdict → RefutesWhereClosed move verdict
refutes_old move verdict begins none = grind (arith, common_steps, none_seamless)

pub verdict_refutes : (move : Migration) (text : List ℕ) (verdict : Verdict) → BeginsOld move → IsTextVerdict move text verdict →
    RefutesWhereClosed move verdict
verdict_refutes move text verdict begins is = refutes_old move verdict begins (verdict_leaves_none Routers move tt _ text verdict is)
