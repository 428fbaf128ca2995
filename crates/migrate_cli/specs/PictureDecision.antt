-- What `picture` decides of an order file and a network that is at its start: what `check` decides of the file as one of routers, and
-- the picture of it.
use Rattle.std.specs.Prelude.{ℕ, List, length, Option, Some, None}
use Rattle.net_model.specs.Network.{Network}
use Rattle.net_model.specs.Refusals.{IsNetwork}
use Rattle.igp_theory.specs.Loops.{Fault}
use Rattle.igp_theory.specs.Migrations.{ospf_to_isis}
use Rattle.plan_theory.specs.Plans.{fault_told}
use Rattle.plan_theory.specs.declared.planned.EndFault.{EndFault}
use Rattle.step_scripts.specs.FaultyLines.{IsLeastFaultyLine}
use Rattle.step_scripts.specs.WaveFiles.{NamesWaves}
use Rattle.step_scripts.specs.declared.kind.OrderKind.{OrderKind}
use Rattle.step_scripts.specs.declared.version.Version.{Version}
use Rattle.drawn_network.specs.Pictures.{IsPicture}
use Rattle.migration_report.specs.EndTexts.{EndFaultBelow}
use Rattle.migration_report.specs.Outcomes.{decision_text}
use Rattle.migration_report.specs.declared.decision.Decision.{Decision}
use Rattle.migration_report.specs.declared.decision.Decision.TheVariants.{Safe, SafeWaves, Unsafe, UnsafeWave, BadOrder}
use Rattle.migration_report.specs.declared.decision.Decision.TheVariants.{ExplainedSafe, ExplainedUnsafe}
use Rattle.migrate_cli.specs.CheckDecision.{IsCheckOver}
use Rattle.migrate_cli.specs.Reading.{NamedText}

-- the fault that `check` tells, where it tells one
abbrev pub drawn_fault : Decision → Option Fault
drawn_fault (Unsafe state fault) = Some (fault_told fault)
drawn_fault (UnsafeWave wave fault) = Some (fault_told fault)
drawn_fault _ = None

-- a text is the picture of a wave list: what `check` says of it stands above, and the fault that it tells is marked
abbrev pub Draws : Network → List ℕ → Decision → List ℕ → Type 0
Draws net ranks checked text = IsPicture net ranks (decision_text net checked) (drawn_fault checked) text

-- `check` says yes, or no
abbrev pub IsListVerdict : Network → Decision → Type 0
IsListVerdict net Safe = Unit {0}
IsListVerdict net (SafeWaves waves) = Unit {0}
IsListVerdict net (Unsafe state fault) = EndFaultBelow (length net) fault
IsListVerdict net (UnsafeWave wave fault) = EndFaultBelow (length net) fault
IsListVerdict net _ = ⊥

-- what is decided where `check` decides so of a wave list: its picture, with the same status
pub data IsDrawn (net : Network) (ranks : List ℕ) : Decision → Decision → Type 0 where
  drawn_safe : (text : List ℕ) → Draws net ranks Safe text → IsDrawn net ranks Safe (ExplainedSafe text)
  drawn_safe_waves : (waves : ℕ) (text : List ℕ) → Draws net ranks (SafeWaves waves) text →
      IsDrawn net ranks (SafeWaves waves) (ExplainedSafe text)
  drawn_unsafe : (state : ℕ) (fault : EndFault) (text : List ℕ) → Draws net ranks (Unsafe state fault) text →
      IsDrawn net ranks (Unsafe state fault) (ExplainedUnsafe text)
  drawn_unsafe_wave : (wave : ℕ) (fault : EndFault) (text : List ℕ) → Draws net ranks (UnsafeWave wave fault) text →
      IsDrawn net ranks (UnsafeWave wave fault) (ExplainedUnsafe text)

-- the order file has a faulty line, and one of single changes has in its first line; or it names a wave list, in version 1 one router
-- a wave, which is drawn
pub data IsPictureDecision (order : NamedText) (net : Network) : Decision → Type 0 where
  faulty_file : (number : ℕ) (kind : OrderKind) → IsLeastFaultyLine net order.text number kind →
      IsPictureDecision order net (BadOrder order.file number kind)
  drawn_list : (version : Version) (ranks : List ℕ) (checked decision : Decision) → IsNetwork net →
      NamesWaves net order.text version ranks → IsCheckOver (ospf_to_isis net) order checked → IsDrawn net ranks checked decision →
      IsPictureDecision order net decision
