-- What `failures` decides of an order file and a network that is at its start: what `check` decides of the file as one of routers, and
-- where that is a yes, behind the line of that what the list comes to without each link of the network.
use Rattle.std.specs.Prelude.{ℕ, List, ◌++◌, All, Any, IsTrue, map}
use Rattle.net_addr.specs.Addresses.{Block}
use Rattle.net_model.specs.Network.{Network}
use Rattle.net_model.specs.Refusals.{IsNetwork}
use Rattle.net_model.specs.RouterNames.{names_of}
use Rattle.net_model.specs.declared.refusal.NetRefusal.{NetRefusal}
use Rattle.igp_theory.specs.LoopLaws.{AreSoundEnds}
use Rattle.igp_theory.specs.Loops.{IsFault, IsFirstFault}
use Rattle.igp_theory.specs.Migrations.{Migration, ospf_to_isis}
use Rattle.igp_theory.specs.States.{IsSeamless}
use Rattle.igp_theory.specs.Timetables.{router_times}
use Rattle.igp_theory.specs.WaveFaults.{IsTimesFault}
use Rattle.igp_theory.specs.Waves.{AreSeamlessWaves}
use Rattle.order_core.specs.Rankings.{flat_of}
use Rattle.plan_theory.specs.Plans.{IsUnsoundNew, fault_told}
use Rattle.plan_theory.specs.declared.planned.EndFault.{EndFault}
use Rattle.step_scripts.specs.WaveFiles.{NamesWaves}
use Rattle.step_scripts.specs.declared.version.Version.{Version}
use Rattle.step_scripts.specs.declared.version.Version.TheVariants.{One, Two}
use Rattle.failed_links.specs.SharedLinks.{ListsLinks}
use Rattle.failed_links.specs.ShutDown.{IsRefusedWithout, StandsWithout, shut_down}
use Rattle.failure_texts.specs.FailureTexts.{failures_text}
use Rattle.failure_texts.specs.LinkVerdicts.{is_break}
use Rattle.failure_texts.specs.declared.verdict.FailedLink.{FailedLink}
use Rattle.failure_texts.specs.declared.verdict.LinkVerdict.{LinkVerdict}
use Rattle.failure_texts.specs.declared.verdict.LinkVerdict.TheVariants.{Withstood, Breaks, BreaksWave, UnsoundOld, UnsoundNew, Refused}
use Rattle.migration_report.specs.Outcomes.{decision_text}
use Rattle.migration_report.specs.declared.decision.Decision.{Decision}
use Rattle.migration_report.specs.declared.decision.Decision.TheVariants.{ExplainedSafe, ExplainedUnsafe}
use Rattle.migrate_cli.specs.CheckDecision.{IsCheckOver}
use Rattle.migrate_cli.specs.Reading.{NamedText}
use Rattle.migrate_cli.specs.SplitDecision.{IsYes}

-- what a list comes to in a migration, an order in version 1 and waves in version 2: an end isn't sound, so that no list helps; or both
-- are, and it is seamless; or both are, and its first unsound state or the first wave with one is told
pub data IsVerdictOver (move : Migration) (ranks : List ℕ) : Version → LinkVerdict → Type 0 where
  old_end : {version : Version} (fault : EndFault) → IsFault move move.start (fault_told fault) →
      IsVerdictOver move ranks version (UnsoundOld fault)
  new_end : {version : Version} (fault : EndFault) → IsUnsoundNew move (fault_told fault) → IsVerdictOver move ranks version (UnsoundNew fault)
  order_kept : AreSoundEnds move → IsSeamless move (flat_of ranks) → AreSeamlessWaves move ranks → IsVerdictOver move ranks One Withstood
  order_broken : (state : ℕ) (fault : EndFault) → AreSoundEnds move → IsFirstFault move (flat_of ranks) state (fault_told fault) →
      IsVerdictOver move ranks One (Breaks state fault)
  waves_kept : AreSoundEnds move → AreSeamlessWaves move ranks → IsVerdictOver move ranks Two Withstood
  waves_broken : (wave : ℕ) (fault : EndFault) → AreSoundEnds move →
      IsTimesFault move (router_times move.start ranks) wave (fault_told fault) → IsVerdictOver move ranks Two (BreaksWave wave fault)

-- the migration of a network with a link down, by the tables of OSPF and of IS-IS there
abbrev pub without_link : Network → Block → Migration
without_link net p = ospf_to_isis (shut_down p net)

-- what a list comes to without a link: the configurations with its interfaces shut down make no network; or they make one, and there
-- it comes to this
pub data IsLinkVerdict (net : Network) (version : Version) (ranks : List ℕ) (p : Block) : LinkVerdict → Type 0 where
  refused : (refusal : NetRefusal) → IsRefusedWithout net p refusal → IsLinkVerdict net version ranks p (Refused refusal)
  judged : (verdict : LinkVerdict) → StandsWithout net p → IsVerdictOver (without_link net p) ranks version verdict →
      IsLinkVerdict net version ranks p verdict

-- each link of a network, ascending, with what a list comes to without it
pub record AreFailedLinks (net : Network) (version : Version) (ranks : List ℕ) (failed : List FailedLink) : Type 0 where
  pub links : ListsLinks net (map (λ (x : FailedLink). x.link) failed)
  pub verdicts : All (λ (x : FailedLink). IsLinkVerdict net version ranks x.link x.verdict) failed

-- one of the links breaks the list
abbrev pub HasBreak : List FailedLink → Type 0
HasBreak failed = Any (λ (x : FailedLink). IsTrue (is_break x.verdict)) failed

-- the line of `check`, and behind it those of the links with their counts
abbrev pub told_failures : Network → Decision → List FailedLink → List ℕ
told_failures net checked failed = decision_text net checked ++ failures_text (names_of net) failed

-- it is a yes where no link breaks the list, and a no where one does
pub data IsToldFailures (net : Network) (checked : Decision) (failed : List FailedLink) : Decision → Type 0 where
  none_breaks : ¬ HasBreak failed → IsToldFailures net checked failed (ExplainedSafe (told_failures net checked failed))
  some_breaks : HasBreak failed → IsToldFailures net checked failed (ExplainedUnsafe (told_failures net checked failed))

-- what `check` says of the order file as one of routers, where that is no yes; or the file names a list, of which it says yes, and what
-- this comes to without each link is told
pub data IsFailuresDecision (order : NamedText) (net : Network) : Decision → Type 0 where
  no_yes : (decision : Decision) → IsCheckOver (ospf_to_isis net) order decision → ¬ IsYes decision → IsFailuresDecision order net decision
  of_links : (version : Version) (ranks : List ℕ) (checked decision : Decision) (failed : List FailedLink) → IsNetwork net →
      NamesWaves net order.text version ranks → IsCheckOver (ospf_to_isis net) order checked → IsYes checked →
      AreFailedLinks net version ranks failed → IsToldFailures net checked failed decision → IsFailuresDecision order net decision
