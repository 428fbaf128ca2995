-- What `why` decides of an order file and a network that is at its start: what `check` decides of the file, and behind the line of that
-- why it is so.
use Rattle.std.specs.Prelude.{ℕ, List}
use Rattle.net_model.specs.Network.{Network}
use Rattle.net_model.specs.Refusals.{IsNetwork}
use Rattle.igp_theory.specs.Migrations.{Migration, ospf_to_isis}
use Rattle.igp_theory.specs.Waves.{AreSeamlessWaves}
use Rattle.order_core.specs.Rankings.{flat_of, wave_count}
use Rattle.plan_theory.specs.Plans.{fault_told}
use Rattle.plan_theory.specs.declared.planned.EndFault.{EndFault}
use Rattle.step_scripts.specs.FaultyLines.{IsLeastFaultyLine}
use Rattle.change_orders.specs.TwoFaults.{two_header}
use Rattle.step_scripts.specs.WaveFiles.{NamesWaves}
use Rattle.step_scripts.specs.declared.kind.OrderKind.{OrderKind}
use Rattle.step_scripts.specs.declared.version.Version.{Version}
use Rattle.step_scripts.specs.declared.version.Version.TheVariants.{One, Two}
use Rattle.explained_texts.specs.ReasonTexts.{IsReasonsText}
use Rattle.explained_texts.specs.WayTexts.{IsWayText, order_span, wave_span}
use Rattle.migration_report.specs.Outcomes.{decision_text}
use Rattle.migration_report.specs.declared.decision.Decision.{Decision}
use Rattle.migration_report.specs.declared.decision.Decision.TheVariants.{Safe, SafeWaves, Unsafe, UnsafeWave, BadOrder}
use Rattle.migration_report.specs.declared.decision.Decision.TheVariants.{ExplainedSafe, ExplainedUnsafe}
use Rattle.migrate_cli.specs.CheckDecision.{IsOrderDecision, IsWavesDecision}
use Rattle.migrate_cli.specs.ExplainedChanges.{IsExplainedChangesFile}
use Rattle.migrate_cli.specs.ExplainedTexts.{TellsBehind}
use Rattle.migrate_cli.specs.FirstLines.{BeginsWith}
use Rattle.migrate_cli.specs.Reading.{NamedText}

-- behind the line of `check` of an order: where it is safe, and so is the list in which each router is a wave, of each router but the
-- first why it isn't beside the one before it, or that it may be; where it isn't, the way of a packet in its first unsound state
pub data IsExplainedOrder (move : Migration) (ranks : List ℕ) : Decision → Type 0 where
  order_reasons : (text : List ℕ) → IsOrderDecision move (flat_of ranks) Safe → AreSeamlessWaves move ranks →
      TellsBehind (IsReasonsText move ranks) (decision_text move.net Safe) text → IsExplainedOrder move ranks (ExplainedSafe text)
  order_way : (state : ℕ) (fault : EndFault) (text : List ℕ) → IsNetwork move.net →
      IsOrderDecision move (flat_of ranks) (Unsafe state fault) →
      TellsBehind (IsWayText move (order_span (flat_of ranks) state) (fault_told fault)) (decision_text move.net (Unsafe state fault)) text →
      IsExplainedOrder move ranks (ExplainedUnsafe text)

-- the same of a wave list: where it is safe, of each router behind the first wave why it isn't in the wave before, or that it may
-- be; where it isn't, the way of a packet in one state of its first wave with an unsound state
pub data IsExplainedWaves (move : Migration) (ranks : List ℕ) : Decision → Type 0 where
  waves_reasons : (text : List ℕ) → IsWavesDecision move ranks (SafeWaves (wave_count ranks)) →
      TellsBehind (IsReasonsText move ranks) (decision_text move.net (SafeWaves (wave_count ranks))) text →
      IsExplainedWaves move ranks (ExplainedSafe text)
  waves_way : (wave : ℕ) (fault : EndFault) (text : List ℕ) → IsNetwork move.net →
      IsWavesDecision move ranks (UnsafeWave wave fault) →
      TellsBehind (IsWayText move (wave_span move.start ranks wave) (fault_told fault)) (decision_text move.net (UnsafeWave wave fault)) text →
      IsExplainedWaves move ranks (ExplainedUnsafe text)

-- by the version of the file; in version 1 each router is a wave
abbrev pub IsExplainedList : Migration → Version → List ℕ → Decision → Type 0
IsExplainedList move One ranks decision = IsExplainedOrder move ranks decision
IsExplainedList move Two ranks decision = IsExplainedWaves move ranks decision

-- the order file has a faulty line, or names a list of routers, which is explained
pub data IsExplainedFile (move : Migration) (order : NamedText) : Decision → Type 0 where
  faulty_list : (number : ℕ) (kind : OrderKind) → IsLeastFaultyLine move.net order.text number kind →
      IsExplainedFile move order (BadOrder order.file number kind)
  explained_list : (version : Version) (ranks : List ℕ) (decision : Decision) → NamesWaves move.net order.text version ranks →
      IsExplainedList move version ranks decision → IsExplainedFile move order decision

-- by the tables of OSPF and of IS-IS, where a file whose first line is that of single changes is one of these, and every other file
-- one of routers
pub data IsExplainedDecision (order : NamedText) (net : Network) : Decision → Type 0 where
  explained_routers : (decision : Decision) → ¬ BeginsWith two_header order.text → IsExplainedFile (ospf_to_isis net) order decision →
      IsExplainedDecision order net decision
  explained_singles : (decision : Decision) → BeginsWith two_header order.text → IsExplainedChangesFile (ospf_to_isis net) order decision →
      IsExplainedDecision order net decision
