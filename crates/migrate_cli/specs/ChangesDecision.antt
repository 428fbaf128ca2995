-- What is decided of an order file of single changes, and of a tree file of them.
use Rattle.std.specs.Prelude.{ℕ, List, length}
use Rattle.net_model.specs.Refusals.{IsNetwork}
use Rattle.igp_theory.specs.Migrations.{Migration}
use Rattle.igp_theory.specs.Timetables.{IsSoundThroughout, change_times}
use Rattle.igp_theory.specs.WaveFaults.{IsTimesFault}
use Rattle.order_core.specs.Rankings.{wave_count}
use Rattle.plan_theory.specs.Plans.{fault_told}
use Rattle.plan_theory.specs.declared.items.Items.TheVariants.{Changes}
use Rattle.plan_theory.specs.declared.planned.EndFault.{EndFault}
use Rattle.refutation_check.specs.Verdicts.{IsTwoVerdict, LeavesNoneWhereClosed}
use Rattle.refutation_check.specs.declared.verdict.Verdict.{Verdict}
use Rattle.change_orders.specs.TwoFaults.{IsLeastTwoFault}
use Rattle.change_orders.specs.TwoFiles.{AreTwoWaves, NamesTwo}
use Rattle.change_orders.specs.TwoTexts.{two_refusal_text}
use Rattle.change_orders.specs.declared.kind.TwoKind.{TwoKind}
use Rattle.migration_report.specs.declared.decision.Decision.{Decision}
use Rattle.migration_report.specs.declared.decision.Decision.TheVariants.{SafeWaves, UnsafeWave, Tree, BadChanges}
use Rattle.migrate_cli.specs.Reading.{NamedText}

-- what is decided of a wave list of single changes: it is safe where in every state after every prefix of every interleaving of the
-- changes within each wave each packet for an address with a target reaches an originator from every router, along every
-- equal-cost choice; else its first wave with an unsound state is told, from 1
pub data IsChangesDecision (move : Migration) (ranks : List ℕ) : Decision → Type 0 where
  safe_changes : IsSoundThroughout move (change_times ranks) → IsChangesDecision move ranks (SafeWaves (wave_count ranks))
  unsafe_changes : (wave : ℕ) (fault : EndFault) → ¬ IsSoundThroughout move (change_times ranks) →
      IsTimesFault move (change_times ranks) wave (fault_told fault) → IsChangesDecision move ranks (UnsafeWave wave fault)

-- and of an order file of them: it has a faulty line, or names a wave list in which each router's first change stands in an earlier
-- wave than its second
pub data IsChangesCheck (move : Migration) (order : NamedText) : Decision → Type 0 where
  faulty_changes : (number : ℕ) (kind : TwoKind) → IsLeastTwoFault move.net order.text number kind →
      IsChangesCheck move order (BadChanges (two_refusal_text order.file number kind))
  named_changes : (ranks : List ℕ) (decision : Decision) → NamesTwo move.net order.text ranks → AreTwoWaves (length move.net) ranks →
      IsChangesDecision move ranks decision → IsChangesCheck move order decision

-- what is decided of a tree file of single changes: it is a closed tree, and then no list of all changes, each router's first before
-- its second, has only sound states; or each of its lines is right, but it has unvisited places; or its first wrong line is told,
-- with its lowest kind
pub data IsChangesTree (move : Migration) (tree : List ℕ) : Decision → Type 0 where
  judged_changes : (verdict : Verdict) → IsNetwork move.net → IsTwoVerdict move tree verdict → LeavesNoneWhereClosed Changes move verdict →
      IsChangesTree move tree (Tree verdict)
