-- What `why` decides of an order file of single changes and a network that is at its start: what `check` decides of it, and behind the
-- line of that why it is so.
use Rattle.std.specs.Prelude.{ℕ, List, length}
use Rattle.net_model.specs.Refusals.{IsNetwork}
use Rattle.igp_theory.specs.Migrations.{Migration}
use Rattle.order_core.specs.Rankings.{wave_count}
use Rattle.plan_theory.specs.Plans.{fault_told}
use Rattle.plan_theory.specs.declared.planned.EndFault.{EndFault}
use Rattle.change_orders.specs.TwoFaults.{IsLeastTwoFault}
use Rattle.change_orders.specs.TwoFiles.{AreTwoWaves, NamesTwo}
use Rattle.change_orders.specs.TwoTexts.{two_refusal_text}
use Rattle.change_orders.specs.declared.kind.TwoKind.{TwoKind}
use Rattle.explained_texts.specs.WayTexts.{IsWayText, change_span}
use Rattle.explained_changes.specs.ChangeReasonTexts.{IsChangeReasonsText}
use Rattle.migration_report.specs.Outcomes.{decision_text}
use Rattle.migration_report.specs.declared.decision.Decision.{Decision}
use Rattle.migration_report.specs.declared.decision.Decision.TheVariants.{SafeWaves, UnsafeWave, BadChanges, ExplainedSafe, ExplainedUnsafe}
use Rattle.migrate_cli.specs.ChangesDecision.{IsChangesDecision}
use Rattle.migrate_cli.specs.ExplainedTexts.{TellsBehind}
use Rattle.migrate_cli.specs.Reading.{NamedText}

-- behind the line of `check` of a wave list of single changes: where it is safe, of each change behind the first wave why it isn't in
-- the wave before, or that it may be; where it isn't, the way of a packet in one state of its first wave with an unsound state
pub data AreExplainedChanges (move : Migration) (ranks : List ℕ) : Decision → Type 0 where
  changes_reasons : (text : List ℕ) → IsChangesDecision move ranks (SafeWaves (wave_count ranks)) →
      TellsBehind (IsChangeReasonsText move ranks) (decision_text move.net (SafeWaves (wave_count ranks))) text →
      AreExplainedChanges move ranks (ExplainedSafe text)
  changes_way : (wave : ℕ) (fault : EndFault) (text : List ℕ) → IsNetwork move.net →
      IsChangesDecision move ranks (UnsafeWave wave fault) →
      TellsBehind (IsWayText move (change_span ranks wave) (fault_told fault)) (decision_text move.net (UnsafeWave wave fault)) text →
      AreExplainedChanges move ranks (ExplainedUnsafe text)

-- the order file has a faulty line, or names a wave list in which each router's first change stands in an earlier wave than its second
pub data IsExplainedChangesFile (move : Migration) (order : NamedText) : Decision → Type 0 where
  faulty_changes : (number : ℕ) (kind : TwoKind) → IsLeastTwoFault move.net order.text number kind →
      IsExplainedChangesFile move order (BadChanges (two_refusal_text order.file number kind))
  explained_changes : (ranks : List ℕ) (decision : Decision) → NamesTwo move.net order.text ranks → AreTwoWaves (length move.net) ranks →
      AreExplainedChanges move ranks decision → IsExplainedChangesFile move order decision
