-- What a call of `why` promises: it says what `check` says, and what it writes behind the line of `check` is so.
use Rattle.std.specs.Prelude.{◌≡◌, ℕ, ◌<◌, List, [], ◌∷◌, length}
use Rattle.change_orders.specs.TwoFiles.{AreTwoWaves, NamesTwo}
use Rattle.net_model.specs.Network.{Network}
use Rattle.igp_theory.specs.Migrations.{Migration, ospf_to_isis}
use Rattle.igp_theory.specs.Phases.{State}
use Rattle.igp_theory.specs.States.{state_of}
use Rattle.igp_theory.specs.Timetables.{IsStateOfWave, change_times, router_times}
use Rattle.igp_theory.specs.Waves.{AreSeamlessWaves}
use Rattle.order_core.specs.Rankings.{flat_of, rank_of}
use Rattle.plan_theory.specs.Plans.{fault_told}
use Rattle.plan_theory.specs.declared.planned.EndFault.{EndFault}
use Rattle.step_scripts.specs.WaveFiles.{NamesWaves}
use Rattle.step_scripts.specs.declared.version.Version.{Version}
use Rattle.explained_texts.specs.ReasonTexts.{IsReasonsText}
use Rattle.explained_texts.specs.WayStates.{IsShownInOne}
use Rattle.explained_texts.specs.WayTexts.{IsWayText, StateSpan, change_span, order_span, wave_span}
use Rattle.explained_waves.specs.Reasons.{AreSoundRanks, MayBeEarlier, reranked}
use Rattle.explained_changes.specs.ChangeReasons.{AreSoundChanges, ChangeMayBeEarlier}
use Rattle.explained_changes.specs.ChangeReasonTexts.{IsChangeReasonsText, IsRightBehind}
use Rattle.store_edge.specs.Sink.{AddsBytes}
use Rattle.migrate_words.specs.Asked.{Asks}
use Rattle.migrate_words.specs.declared.command.Command.{Command}
use Rattle.migrate_words.specs.declared.command.CommandKind.TheVariants.{Why}
use Rattle.migration_report.specs.Outcomes.{decision_status, decision_text}
use Rattle.migration_report.specs.declared.decision.Decision.{Decision}
use Rattle.migration_report.specs.declared.decision.Decision.TheVariants.{Unsafe, UnsafeWave}
use Rattle.migration_report.specs.declared.status.Status.{Status}
use Rattle.migrate_cli.specs.Calls.{Call, Outside, course, Course}
use Rattle.migrate_cli.specs.CheckDecision.{IsCheckDecision}
use Rattle.migrate_cli.specs.CommandFiles.{command_of, config_texts, files_of, own_texts}
use Rattle.migrate_cli.specs.Completeness.{Decides, IsAccepted, IsYesOrNo, NoFaultRose}
use Rattle.migrate_cli.specs.Configurations.{GiveNetwork, IsAtStart}
use Rattle.migrate_cli.specs.ExplainedTexts.{TellsBehind}
use Rattle.migrate_cli.specs.Reading.{AreRead, AreWithin, named_text}
use Rattle.migrate_cli.specs.SplitDecision.{IsYes}

-- ---- what stands behind the line of `check` ----

-- the reasons of a list that is safe. Where a router may not stand one wave earlier it may stand in no earlier wave, so that it is
-- enough to tell what keeps it from the wave before its own
pub record HasReasons (move : Migration) (ranks behind : List ℕ) : Type 0 where
  pub seamless : AreSeamlessWaves move ranks
  pub told : IsReasonsText move ranks behind
  pub none_earlier : (v rank : ℕ) → ¬ MayBeEarlier move ranks v → rank < rank_of ranks v → ¬ AreSoundRanks move (reranked ranks v rank)

-- the same of single changes. Where a change may not stand one wave earlier it may stand in no earlier wave; and one right behind its
-- router's first change stands in no earlier wave of a list in which each router's first change comes before its second
pub record HasChangeReasons (move : Migration) (ranks behind : List ℕ) : Type 0 where
  pub sound : AreSoundChanges move ranks
  pub told : IsChangeReasonsText move ranks behind
  pub none_earlier : (i rank : ℕ) → ¬ IsRightBehind ranks i → ¬ ChangeMayBeEarlier move ranks i → rank < rank_of ranks i →
      ¬ AreSoundChanges move (reranked ranks i rank)
  pub first_before : (i rank : ℕ) → IsRightBehind ranks i → rank < rank_of ranks i → ¬ AreTwoWaves (length move.net) (reranked ranks i rank)

-- the way of a packet of a fault found in some states. In one of them each router of the ring is in the phase that is told of it and
-- steps to the next one, by the entry that is told; or the router told lacks a step
pub record ShowsWay (move : Migration) (states : State → Type 0) (span : StateSpan) (fault : EndFault) (behind : List ℕ) : Type 0 where
  pub told : IsWayText move span (fault_told fault) behind
  pub shown : IsShownInOne move states span (fault_told fault)

-- what explains what `check` decides of a list
pub data Explains (move : Migration) (ranks behind : List ℕ) : Decision → Type 0 where
  explains_safe : (decision : Decision) → IsYes decision → HasReasons move ranks behind → Explains move ranks behind decision
  explains_state : (state : ℕ) (fault : EndFault) →
      ShowsWay move (λ s. s ≡ state_of (flat_of ranks) state) (order_span (flat_of ranks) state) fault behind →
      Explains move ranks behind (Unsafe state fault)
  explains_wave : (wave : ℕ) (fault : EndFault) →
      ShowsWay move (IsStateOfWave (length move.net) (router_times move.start ranks) wave) (wave_span move.start ranks wave) fault behind →
      Explains move ranks behind (UnsafeWave wave fault)

-- and of a list of single changes
pub data ExplainsChanges (move : Migration) (ranks behind : List ℕ) : Decision → Type 0 where
  explains_changes : (decision : Decision) → IsYes decision → HasChangeReasons move ranks behind → ExplainsChanges move ranks behind decision
  explains_change_wave : (wave : ℕ) (fault : EndFault) →
      ShowsWay move (IsStateOfWave (length move.net) (change_times ranks) wave) (change_span ranks wave) fault behind →
      ExplainsChanges move ranks behind (UnsafeWave wave fault)

-- an order file names a wave list of routers, in version 1 one router a wave; or one of single changes
pub data NamesList (net : Network) (text : List ℕ) : Type 0 where
  routers_listed : (version : Version) (ranks : List ℕ) → NamesWaves net text version ranks → NamesList net text
  changes_listed : (ranks : List ℕ) → NamesTwo net text ranks → NamesList net text

-- what is written begins with what `check` writes of the list that a file names, and explains it behind that
pub data ExplainsFile (net : Network) (text : List ℕ) (checked : Decision) (written : List ℕ) : Type 0 where
  of_routers : (version : Version) (ranks : List ℕ) → NamesWaves net text version ranks →
      TellsBehind (λ behind. Explains (ospf_to_isis net) ranks behind checked) (decision_text net checked) written →
      ExplainsFile net text checked written
  of_changes : (ranks : List ℕ) → NamesTwo net text ranks → AreTwoWaves (length net) ranks →
      TellsBehind (λ behind. ExplainsChanges (ospf_to_isis net) ranks behind checked) (decision_text net checked) written →
      ExplainsFile net text checked written

-- ---- a call ----

-- `why` of these files
abbrev pub why_of : List ℕ → List (List ℕ) → Command
why_of file configs = command_of Why (file ∷ []) configs 0

-- `why` of these files has explained: its texts were read within the limits; the first one names a wave list of the network of the
-- others; it ends as `check` of that text does; and the bytes written begin with what `check` writes, and explain it behind that
pub record HasExplained (call : Call) (file : List ℕ) (configs : List (List ℕ)) (outside : Course) (status : Status) : Type 0 where
  pub texts : List (List ℕ)
  pub read : AreRead call.content (files_of (why_of file configs)) texts
  pub within : AreWithin (files_of (why_of file configs)) texts
  pub net : Network
  pub gives : GiveNetwork (config_texts (why_of file configs) texts) net
  pub start : IsAtStart net
  pub text : List ℕ
  pub text_is : own_texts (why_of file configs) texts ≡ text ∷ []
  pub checked : Decision
  pub checks : (name : List ℕ) → IsCheckDecision (named_text name text) net checked
  pub status_is : status ≡ decision_status checked
  pub written : List ℕ
  pub adds : AddsBytes outside.before.written outside.after.written written
  pub explains : ExplainsFile net text checked written

-- `why` of these files, whose order file names a wave list of the routers, in either version, or of their single changes
pub record AcceptsWhy (call : Call) : Type 0 where
  pub file : List ℕ
  pub configs : List (List ℕ)
  pub texts : List (List ℕ)
  pub net : Network
  pub accepted : IsAccepted call (why_of file configs) texts net []
  pub text : List ℕ
  pub text_is : own_texts (why_of file configs) texts ≡ text ∷ []
  pub names : NamesList net text

-- where a call asks for `why` and ends with yes or no, it has explained; and where nothing of its input is refused and no fault
-- rises, it ends so, or for want of memory
pub record ExplainedPromise (call : Call) (before after : Outside) (status : Status) : Type 0 where
  pub means :
      (file : List ℕ) (configs : List (List ℕ)) → Asks call.words (why_of file configs) → IsYesOrNo status →
      HasExplained call file configs (course before after) status
  pub decides : AcceptsWhy call → NoFaultRose before after → Decides status
