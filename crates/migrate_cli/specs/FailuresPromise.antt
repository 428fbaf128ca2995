-- What a call of `failures` promises: it says what `check` says, and where that is a yes, of each link of the network exactly what the
-- list comes to without it, in packets.
use Rattle.std.specs.Prelude.{◌≡◌, ℕ, ◌+◌, List, [], ◌∷◌, All, length}
use Rattle.net_addr.specs.Addresses.{Block}
use Rattle.net_model.specs.Network.{Network}
use Rattle.igp_theory.specs.LoopLaws.{AreSoundEnds}
use Rattle.igp_theory.specs.Loops.{IsFault, IsFirstFault}
use Rattle.igp_theory.specs.Timetables.{router_times}
use Rattle.igp_theory.specs.WaveFaults.{IsTimesFault}
use Rattle.igp_theory.specs.Waves.{AreSeamlessWaves}
use Rattle.order_core.specs.Rankings.{flat_of}
use Rattle.plan_theory.specs.Plans.{IsUnsoundNew, fault_told}
use Rattle.step_scripts.specs.WaveFiles.{NamesWaves}
use Rattle.step_scripts.specs.declared.version.Version.{Version}
use Rattle.store_edge.specs.Sink.{AddsBytes}
use Rattle.failed_links.specs.ShutDown.{IsRefusedWithout, StandsWithout}
use Rattle.failure_texts.specs.LinkVerdicts.{break_count, end_count, withstood_count}
use Rattle.failure_texts.specs.declared.verdict.FailedLink.{FailedLink}
use Rattle.failure_texts.specs.declared.verdict.LinkVerdict.{LinkVerdict}
use Rattle.failure_texts.specs.declared.verdict.LinkVerdict.TheVariants.{Withstood, Breaks, BreaksWave, UnsoundOld, UnsoundNew, Refused}
use Rattle.migrate_words.specs.Asked.{Asks}
use Rattle.migrate_words.specs.declared.command.Command.{Command}
use Rattle.migrate_words.specs.declared.command.CommandKind.TheVariants.{Failures}
use Rattle.migration_report.specs.Outcomes.{decision_text}
use Rattle.migration_report.specs.declared.decision.Decision.{Decision}
use Rattle.migration_report.specs.declared.status.Status.{Status}
use Rattle.migration_report.specs.declared.status.Status.TheVariants.{Done, Negative}
use Rattle.migrate_cli.specs.Calls.{Call, Outside, course, Course}
use Rattle.migrate_cli.specs.CheckDecision.{IsCheckDecision}
use Rattle.migrate_cli.specs.CommandFiles.{command_of, config_texts, files_of, own_texts}
use Rattle.migrate_cli.specs.Completeness.{Decides, IsAccepted, IsYesOrNo, NoFaultRose}
use Rattle.migrate_cli.specs.Configurations.{GiveNetwork, IsAtStart}
use Rattle.migrate_cli.specs.FailuresDecision.{AreFailedLinks, HasBreak, told_failures, without_link}
use Rattle.migrate_cli.specs.Headline.{NoneDelivers, WavesDeliver}
use Rattle.migrate_cli.specs.Reading.{AreRead, AreWithin, named_text}
use Rattle.migrate_cli.specs.SplitDecision.{IsYes}

-- ---- a link ----

-- the list withstands it: without it each packet is delivered in each state of each run of the waves, and each is sound
pub record Withstands (net : Network) (ranks : List ℕ) (p : Block) : Type 0 where
  pub stands : StandsWithout net p
  pub deliver : WavesDeliver (without_link net p) ranks
  pub sound : AreSeamlessWaves (without_link net p) ranks

-- it breaks the list: without it both ends are sound, and some state of some run of the waves loses a packet
pub record BreaksList (net : Network) (ranks : List ℕ) (p : Block) : Type 0 where
  pub stands : StandsWithout net p
  pub ends : AreSoundEnds (without_link net p)
  pub loses : ¬ WavesDeliver (without_link net p) ranks
  pub not_sound : ¬ AreSeamlessWaves (without_link net p) ranks

-- no list helps without it
pub record IsBeyondLists (net : Network) (p : Block) : Type 0 where
  pub stands : StandsWithout net p
  pub none : NoneDelivers (without_link net p)

-- what the line of a link means, and the fault that it tells, in the network without the link
abbrev pub MeansOfLink : Network → List ℕ → Block → LinkVerdict → Type 0
MeansOfLink net ranks p Withstood = Withstands net ranks p
MeansOfLink net ranks p (Breaks state fault) =
    BreaksList net ranks p × IsFirstFault (without_link net p) (flat_of ranks) state (fault_told fault)
MeansOfLink net ranks p (BreaksWave wave fault) =
    BreaksList net ranks p
    × IsTimesFault (without_link net p) (router_times (without_link net p).start ranks) wave (fault_told fault)
MeansOfLink net ranks p (UnsoundOld fault) =
    IsBeyondLists net p × IsFault (without_link net p) (without_link net p).start (fault_told fault)
MeansOfLink net ranks p (UnsoundNew fault) = IsBeyondLists net p × IsUnsoundNew (without_link net p) (fault_told fault)
MeansOfLink net ranks p (Refused refusal) = IsRefusedWithout net p refusal

-- ---- a call ----

-- `failures` of these files
abbrev pub failures_of : List ℕ → List (List ℕ) → Command
failures_of file configs = command_of Failures (file ∷ []) configs 0

-- `check` says no, and nothing else is written
pub record TellsNo (net : Network) (checked : Decision) (status : Status) (written : List ℕ) : Type 0 where
  pub no : ¬ IsYes checked
  pub status_is : status ≡ Negative
  pub line : written ≡ decision_text net checked

-- `check` says yes, and behind its line stands of each link of the network, ascending, what the list comes to without it, with counts
-- that add up; the call ends with no where some link breaks the list, and else with yes
pub record TellsLinks (net : Network) (version : Version) (ranks : List ℕ) (checked : Decision) (status : Status) (written : List ℕ) : Type 0 where
  pub yes : IsYes checked
  pub failed : List FailedLink
  pub exact : AreFailedLinks net version ranks failed
  pub means : All (λ (x : FailedLink). MeansOfLink net ranks x.link x.verdict) failed
  pub add_up : withstood_count failed + break_count failed + end_count failed ≡ length failed
  pub done : status ≡ Done → ¬ HasBreak failed
  pub negative : status ≡ Negative → HasBreak failed
  pub text : written ≡ told_failures net checked failed

pub data TellsFailures (net : Network) (version : Version) (ranks : List ℕ) (checked : Decision) (status : Status) (written : List ℕ) : Type 0 where
  tells_no : TellsNo net checked status written → TellsFailures net version ranks checked status written
  tells_links : TellsLinks net version ranks checked status written → TellsFailures net version ranks checked status written

-- `failures` of these files has told: its texts were read within the limits; the first one names a wave list of the network of the
-- others, in version 1 one router a wave; and the bytes written begin with what `check` says of it, and tell of each link what the list
-- comes to without it
pub record HasFailures (call : Call) (file : List ℕ) (configs : List (List ℕ)) (outside : Course) (status : Status) : Type 0 where
  pub texts : List (List ℕ)
  pub read : AreRead call.content (files_of (failures_of file configs)) texts
  pub within : AreWithin (files_of (failures_of file configs)) texts
  pub net : Network
  pub gives : GiveNetwork (config_texts (failures_of file configs) texts) net
  pub start : IsAtStart net
  pub text : List ℕ
  pub text_is : own_texts (failures_of file configs) texts ≡ text ∷ []
  pub version : Version
  pub ranks : List ℕ
  pub names : NamesWaves net text version ranks
  pub checked : Decision
  pub checks : (name : List ℕ) → IsCheckDecision (named_text name text) net checked
  pub written : List ℕ
  pub adds : AddsBytes outside.before.written outside.after.written written
  pub tells : TellsFailures net version ranks checked status written

-- `failures` of these files, whose order file names a wave list of the routers, in either version
pub record AcceptsFailures (call : Call) : Type 0 where
  pub file : List ℕ
  pub configs : List (List ℕ)
  pub texts : List (List ℕ)
  pub net : Network
  pub accepted : IsAccepted call (failures_of file configs) texts net []
  pub text : List ℕ
  pub text_is : own_texts (failures_of file configs) texts ≡ text ∷ []
  pub version : Version
  pub ranks : List ℕ
  pub names : NamesWaves net text version ranks

-- where a call asks for `failures` and ends with yes or no, it has told; and where nothing of its input is refused and no fault rises,
-- it ends so, or for want of memory
pub record FailuresPromise (call : Call) (before after : Outside) (status : Status) : Type 0 where
  pub means :
      (file : List ℕ) (configs : List (List ℕ)) → Asks call.words (failures_of file configs) → IsYesOrNo status →
      HasFailures call file configs (course before after) status
  pub decides : AcceptsFailures call → NoFaultRose before after → Decides status
