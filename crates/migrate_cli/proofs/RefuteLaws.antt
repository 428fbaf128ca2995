-- `refute` decides one thing of a tree file and a network.
use Rattle.std.proofs.Common.{◌≡◌, ℕ, List, ap}
use Rattle.igp_theory.specs.Migrations.{Migration}
use Rattle.refutation_check.specs.declared.verdict.Verdict.{Verdict}
use Rattle.refutation_check.specs.declared.verdict.Verdict.TheVariants.{Closed, Unfinished, Wrong}
use Rattle.refutation_check.specs.declared.verdict.WrongKind.{WrongKind}
use Rattle.refutation_check.proofs.OneVerdict.{one_verdict}
use Rattle.migration_report.specs.Outcomes.{IsTellable, decision_status}
use Rattle.migration_report.specs.declared.decision.Decision.{Decision}
use Rattle.migration_report.specs.declared.decision.Decision.TheVariants.{Tree}
use Rattle.migrate_cli.specs.Completeness.{DecidesTree}
use Rattle.migrate_cli.specs.Completeness.DecidesTree.{closed_tree, no_closed_tree}
use Rattle.migrate_cli.specs.RefuteDecision.{IsTreeDecision}
use Rattle.migrate_cli.specs.RefuteDecision.IsTreeDecision.{judged_tree}

pub one_tree_decision : {move : Migration} {tree : List ℕ} {d e : Decision} → IsTreeDecision move tree d → IsTreeDecision move tree e → d ≡ e
one_tree_decision {move} {tree} (judged_tree one network is _) (judged_tree other _ its _) =
    ap (λ (v : Verdict). Tree v) (one_verdict move network tree one other is its)

pub tree_tellable : {move : Migration} {tree : List ℕ} {d : Decision} → IsTreeDecision move tree d → IsTellable move.net d
tree_tellable (judged_tree _ _ _ _) = tt

-- no other verdict is that of a closed tree
pub closed_or_unfinished : (b l u : ℕ) → Closed b l ≡ Unfinished u → ⊥
closed_or_unfinished b l u e = Prim.cc e

pub closed_or_wrong : (b l n : ℕ) (k : WrongKind) → Closed b l ≡ Wrong n k → ⊥
closed_or_wrong b l n k e = Prim.cc e

-- so it tells whether the tree is closed
pub tree_decides : (tree : List ℕ) (move : Migration) {d : Decision} → IsTreeDecision move tree d → DecidesTree move tree (decision_status d)
tree_decides tree move (judged_tree (Closed b l) network is none) = closed_tree b l is none
tree_decides tree move (judged_tree (Unfinished u) network is _) =
    no_closed_tree (λ b l other. closed_or_unfinished b l u (one_verdict move network tree (Closed b l) (Unfinished u) other is))
tree_decides tree move (judged_tree (Wrong n k) network is _) =
    no_closed_tree (λ b l other. closed_or_wrong b l n k (one_verdict move network tree (Closed b l) (Wrong n k) other is))
