-- What a call of `observe` promises: a journal that it wrote is one that `replay` follows, to a state of a run that the
-- configurations of now show; and where they are those of before after the first changes of some run, it writes one.
use Rattle.std.specs.Prelude.{◌≡◌, ℕ, List, [], ◌∷◌, All, Option, length}
use Rattle.net_model.specs.Configuration.{Configuration}
use Rattle.net_model.specs.Network.{Network, HasConfiguration}
use Rattle.igp_theory.specs.Phases.{State, all_old}
use Rattle.igp_theory.specs.Timetables.{IsStateOf, router_times}
use Rattle.step_scripts.specs.WaveFiles.{NamesWaves}
use Rattle.step_scripts.specs.declared.version.Version.{Version}
use Rattle.state_replay.specs.declared.half.Half.{Half}
use Rattle.applied_changes.specs.AppliedTexts.{in_phase}
use Rattle.observed_night.specs.Differences.{AreOneNight}
use Rattle.observed_night.specs.ObservedLaws.{JournalReaches}
use Rattle.observed_night.specs.ShownPhases.{IsShownState}
use Rattle.store_edge.specs.Sink.{AddsBytes}
use Rattle.migrate_words.specs.Asked.{Asks}
use Rattle.migrate_words.specs.declared.command.Command.{Command}
use Rattle.migrate_words.specs.declared.command.CommandKind.TheVariants.{Observe}
use Rattle.migration_report.specs.declared.decision.Decision.TheVariants.{Reached}
use Rattle.migration_report.specs.declared.status.Status.{Status}
use Rattle.migration_report.specs.declared.status.Status.TheVariants.{Done}
use Rattle.migrate_cli.specs.AnswerLaws.{IsFileTold}
use Rattle.migrate_cli.specs.Answers.{AsksForFew}
use Rattle.migrate_cli.specs.Calls.{Call, Outside, course, Course}
use Rattle.migrate_cli.specs.CommandFiles.{command_of, config_texts, files_of, own_texts}
use Rattle.migrate_cli.specs.Completeness.{Decides, NoFaultRose, Writes}
use Rattle.migrate_cli.specs.Configurations.{GiveNetwork, IsAtStart}
use Rattle.migrate_cli.specs.Reading.{AreRead, AreWithin, file_names, named_text}
use Rattle.migrate_cli.specs.ReplayDecision.{AreNext, IsReplayDecision, journal_of}

-- `observe` of these files
abbrev pub observe_of : List ℕ → List ℕ → List (List ℕ) → Command
observe_of file before configs = command_of Observe (file ∷ before ∷ []) configs 0

-- `replay` with this order file says of a journal that its changes are made
pub record ReplaysSo (net : Network) (order journal : List ℕ) (ranks : List ℕ) : Type 0 where
  pub made : ℕ
  pub done : List ℕ
  pub decides : (file : List ℕ) (nexts : List (Option Half)) → AreNext ranks done (length net) nexts →
      IsReplayDecision (named_text file order) (journal_of journal net) (Reached made nexts)

-- `observe` of these files has written what it was asked for: its texts were read within the limits; those of before and of now give
-- two networks that are alike but for distances, the one of before at its start; the bytes written are a journal that reaches a
-- state of a run of the wave list in which each router's distances are those of now; and so says `replay`
pub record HasObserved (call : Call) (file before : List ℕ) (configs : List (List ℕ)) (outside : Course) : Type 0 where
  pub texts : List (List ℕ)
  pub read : AreRead call.content (files_of (observe_of file before configs)) texts
  pub within : AreWithin (files_of (observe_of file before configs)) texts
  pub order : List ℕ
  pub old : List ℕ
  pub own_are : own_texts (observe_of file before configs) texts ≡ order ∷ old ∷ []
  pub net : Network
  pub gives : GiveNetwork (old ∷ []) net
  pub start : IsAtStart net
  pub now : Network
  pub gives_now : GiveNetwork (config_texts (observe_of file before configs) texts) now
  pub version : Version
  pub ranks : List ℕ
  pub names : NamesWaves net order version ranks
  pub night : AreOneNight net now
  pub state : State
  pub shown : IsShownState net now ranks state
  pub journal : List ℕ
  pub adds : AddsBytes outside.before.written outside.after.written journal
  pub reaches : JournalReaches net ranks journal state
  pub replays : ReplaysSo net order journal ranks

-- `observe` of these files, of which nothing is refused
pub record AcceptsObserve (call : Call) : Type 0 where
  pub file : List ℕ
  pub before : List ℕ
  pub configs : List (List ℕ)
  pub texts : List (List ℕ)
  pub asked : AsksForFew call.words (observe_of file before configs)
  pub told : All (IsFileTold call.content) (file_names (files_of (observe_of file before configs)))
  pub read : AreRead call.content (files_of (observe_of file before configs)) texts
  pub within : AreWithin (files_of (observe_of file before configs)) texts
  pub order : List ℕ
  pub old : List ℕ
  pub own_are : own_texts (observe_of file before configs) texts ≡ order ∷ old ∷ []
  pub net : Network
  pub gives : GiveNetwork (old ∷ []) net
  pub start : IsAtStart net
  pub now : Network
  pub gives_now : GiveNetwork (config_texts (observe_of file before configs) texts) now
  pub version : Version
  pub ranks : List ℕ
  pub names : NamesWaves net order version ranks

-- the network of now is that of before after the first changes of some run: each router's configuration is the one in its phase
pub record IsAfterChanges (net now : Network) (ranks : List ℕ) : Type 0 where
  pub state : State
  pub of_run : IsStateOf (length net) all_old (router_times all_old ranks) state
  pub routers : length net ≡ length now
  pub each : (u : ℕ) (c d : Configuration) → HasConfiguration net u c → HasConfiguration now u d → d ≡ in_phase (state u) c

-- where a call asks for `observe` and ends with `Done`, it has observed; where nothing of its input is refused and no fault rises it
-- says yes or no, and yes where the network of now is that of before after the first changes of some run
pub record ObservePromise (call : Call) (before after : Outside) (status : Status) : Type 0 where
  pub observes :
      (file old : List ℕ) (configs : List (List ℕ)) → Asks call.words (observe_of file old configs) → status ≡ Done →
      HasObserved call file old configs (course before after)
  pub decides : AcceptsObserve call → NoFaultRose before after → Decides status
  pub finds : (it : AcceptsObserve call) → IsAfterChanges it.net it.now it.ranks → NoFaultRose before after → Writes status
