-- What a call may come to, and the status and the text that tell it.
use Rattle.std.specs.Prelude.{◌≡◌, ◌≢◌, ℕ, ◌*◌, Bool, true, false, List, ◌++◌, length}
use Rattle.net_model.specs.Network.{Network}
use Rattle.net_model.specs.RouterNames.{names_of}
use Rattle.net_model.specs.declared.refusal.NetRefusal.{NetRefusal}
use Rattle.net_model.specs.declared.refusal.NetRefusal.TheVariants.{Limit as TooMany}
use Rattle.order_search.specs.declared.found.Found.{Found}
use Rattle.order_search.specs.declared.found.Found.TheVariants.{Waves, Refuted, Spent as SpentTree}
use Rattle.ospf_pair.specs.PairTexts.{pair_refusal_text}
use Rattle.ospf_pair.specs.declared.refusal.PairRefusal.TheVariants.{OutOfMemory as NoPairMemory}
use Rattle.plan_theory.specs.Plans.{fault_told}
use Rattle.plan_theory.specs.declared.planned.Planned.{Planned}
use Rattle.plan_theory.specs.declared.planned.Planned.TheVariants.{UnsoundOld, UnsoundNew, Searched}
use Rattle.plan_theory.specs.declared.items.Items.{Items}
use Rattle.plan_theory.specs.declared.items.Items.TheVariants.{Routers, Changes}
use Rattle.refused_texts.specs.Kinds.{read_kind_name}
use Rattle.refused_texts.specs.Texts.{network_text}
use Rattle.wave_oracle.specs.PlannedTexts.{IsPrintable, planned_text}
use Rattle.refutation_check.specs.declared.verdict.Verdict.{Verdict}
use Rattle.refutation_check.specs.declared.verdict.Verdict.TheVariants.{Closed, Unfinished, Wrong}
use Rattle.step_scripts.specs.Scripts.{script_text}
use Rattle.migration_report.specs.DesignTexts.{refused_design_text}
use Rattle.migration_report.specs.EndTexts.{EndFaultBelow, unsound_text}
use Rattle.migration_report.specs.JournalTexts.{departs_text, reached_text}
use Rattle.migration_report.specs.Kinds.{order_kind_name}
use Rattle.migration_report.specs.RestPlanTexts.{rest_plan_text}
use Rattle.migration_report.specs.SummaryTexts.{summary_text}
use Rattle.migration_report.specs.Texts.{IsPrinted, faulty_text, long_file_text, long_files_text, many_files_text, off_start_text}
use Rattle.migration_report.specs.Texts.{read_fault_text, safe_text, unsafe_text, waves_safe_text, waves_unsafe_text, words_refused_text}
use Rattle.migration_report.specs.TreeVerdictTexts.{verdict_text}
use Rattle.migration_report.specs.declared.decision.Decision.{Decision}
use Rattle.migration_report.specs.declared.decision.Decision.TheVariants.{Safe, SafeWaves, Unsafe, UnsafeWave, Plan, TwoPass, Summary, Tree, Script}
use Rattle.migration_report.specs.declared.decision.Decision.TheVariants.{Reached, Departs, Prepared, PairScript, Designed, BadPair, BadOrder, BadChanges, BadDesign, Split, Delta, Tables, Rest, WayBack}
use Rattle.migration_report.specs.declared.decision.Decision.TheVariants.{ExplainedSafe, ExplainedUnsafe, Observed, NotObserved}
use Rattle.migration_report.specs.declared.ends.End.TheVariants.{Old, New}
use Rattle.migration_report.specs.declared.outcome.Outcome.{Outcome}
use Rattle.migration_report.specs.declared.outcome.Outcome.TheVariants.{Refused, Decided, Survey}
use Rattle.migration_report.specs.declared.refusal.Refusal.{Refusal}
use Rattle.migration_report.specs.declared.refusal.Refusal.TheVariants.{Words, Read, Config, Network as NoNetwork, OffStart, Files, Length, Total}
use Rattle.migration_report.specs.declared.status.Status.{Status}
use Rattle.migration_report.specs.declared.status.Status.TheVariants as status

-- how a call ends whose configurations make no network: a limit has a status of its own
abbrev pub network_status : NetRefusal → Status
network_status (TooMany _ _) = status.Limit
network_status _ = status.Refused

-- how a call ends whose input is refused
abbrev pub refusal_status : Refusal → Status
refusal_status (Words detail) = status.Words
refusal_status (Read file) = status.ReadFault
refusal_status (Config file line kind) = status.Refused
refusal_status (NoNetwork refusal) = network_status refusal
refusal_status (OffStart name) = status.Refused
refusal_status (Files number) = status.Limit
refusal_status (Length file) = status.Limit
refusal_status (Total number) = status.Limit

-- and what it writes
abbrev pub refusal_text : Refusal → List ℕ
refusal_text (Words detail) = words_refused_text ++ detail
refusal_text (Read file) = read_fault_text file
refusal_text (Config file line kind) = faulty_text file line (read_kind_name kind)
refusal_text (NoNetwork refusal) = network_text refusal
refusal_text (OffStart name) = off_start_text name
refusal_text (Files number) = many_files_text number
refusal_text (Length file) = long_file_text file
refusal_text (Total number) = long_files_text number

-- a closed tree is a yes, everything else a no
abbrev pub verdict_status : Verdict → Status
verdict_status (Closed branches leaves) = status.Done
verdict_status (Unfinished unvisited) = status.Negative
verdict_status (Wrong line kind) = status.Negative

-- how a call ends that found this between sound ends
abbrev pub found_status : Found → Status
found_status (Waves ranks pairs chain trail) = status.Done
found_status (Refuted tree) = status.Negative
found_status (SpentTree tree) = status.Spent

-- how a call ends with a plan
abbrev pub plan_status : Planned → Status
plan_status (UnsoundOld fault) = status.Unsound
plan_status (UnsoundNew fault) = status.Unsound
plan_status (Searched found) = found_status found

-- and what it writes, of waves of routers or of single changes, by the names of the routers
abbrev pub plan_text : Items → List (List ℕ) → Planned → List ℕ
plan_text items names (UnsoundOld fault) = unsound_text Old names (fault_told fault)
plan_text items names (UnsoundNew fault) = unsound_text New names (fault_told fault)
plan_text items names (Searched found) = planned_text items names found

-- how a call ends with a decision: it is a yes or a no, a plan ends as it says, and what is refused is refused
abbrev pub decision_status : Decision → Status
decision_status Safe = status.Done
decision_status (SafeWaves waves) = status.Done
decision_status (Unsafe state fault) = status.Negative
decision_status (UnsafeWave wave fault) = status.Negative
decision_status (Plan planned) = plan_status planned
decision_status (TwoPass planned) = plan_status planned
decision_status (Summary counts waves) = status.Done
decision_status (Tree verdict) = verdict_status verdict
decision_status (Script version waves) = status.Done
decision_status (Reached made nexts) = status.Done
decision_status (Departs line) = status.Negative
decision_status (Prepared text) = status.Done
decision_status (PairScript text) = status.Done
decision_status (Designed text) = status.Done
decision_status (BadPair refusal) = status.Refused
decision_status (BadOrder file line kind) = status.Refused
decision_status (BadChanges text) = status.Refused
decision_status (BadDesign file path kind) = status.Refused
decision_status (Split text) = status.Done
decision_status (Delta text) = status.Done
decision_status (Tables text) = status.Done
decision_status (Rest start planned) = plan_status planned
decision_status (WayBack text) = status.Done
decision_status (Observed text) = status.Done
decision_status (NotObserved text) = status.Negative
decision_status (ExplainedSafe text) = status.Done
decision_status (ExplainedUnsafe text) = status.Negative

-- and what it writes of the network; each router has two changes
abbrev pub decision_text : Network → Decision → List ℕ
decision_text net Safe = safe_text (2 * length net)
decision_text net (SafeWaves waves) = waves_safe_text (2 * length net) waves
decision_text net (Unsafe state fault) = unsafe_text (names_of net) state (fault_told fault)
decision_text net (UnsafeWave wave fault) = waves_unsafe_text (names_of net) wave (fault_told fault)
decision_text net (Plan planned) = plan_text Routers (names_of net) planned
decision_text net (TwoPass planned) = plan_text Changes (names_of net) planned
decision_text net (Summary counts waves) = summary_text (names_of net) counts waves
decision_text net (Tree verdict) = verdict_text verdict
decision_text net (Script version waves) = script_text version net waves
decision_text net (Reached made nexts) = reached_text (names_of net) made nexts (length net)
decision_text net (Departs line) = departs_text line
decision_text net (Prepared text) = text
decision_text net (PairScript text) = text
decision_text net (Designed text) = text
decision_text net (BadPair refusal) = pair_refusal_text refusal
decision_text net (BadOrder file line kind) = faulty_text file line (order_kind_name kind)
decision_text net (BadChanges text) = text
decision_text net (BadDesign file path kind) = refused_design_text file path kind
decision_text net (Split text) = text
decision_text net (Delta text) = text
decision_text net (Tables text) = text
decision_text net (Rest start planned) = rest_plan_text (names_of net) start planned
decision_text net (WayBack text) = text
decision_text net (Observed text) = text
decision_text net (NotObserved text) = text
decision_text net (ExplainedSafe text) = text
decision_text net (ExplainedUnsafe text) = text

-- a plan has a text: it is of the routers of the network
abbrev pub IsPlanTellable : Items → Network → Planned → Type 0
IsPlanTellable items net (UnsoundOld fault) = EndFaultBelow (length net) fault
IsPlanTellable items net (UnsoundNew fault) = EndFaultBelow (length net) fault
IsPlanTellable items net (Searched found) = IsPrintable items net found

-- a decision has a text: it is of the routers of the network, and no want of memory is told
abbrev pub IsTellable : Network → Decision → Type 0
IsTellable net (Unsafe state fault) = EndFaultBelow (length net) fault
IsTellable net (UnsafeWave wave fault) = EndFaultBelow (length net) fault
IsTellable net (Plan planned) = IsPlanTellable Routers net planned
IsTellable net (TwoPass planned) = IsPlanTellable Changes net planned
IsTellable net (Summary counts waves) = length waves ≡ length net
IsTellable net (Script version waves) = length waves ≡ length net
IsTellable net (Reached made nexts) = length nexts ≡ length net
IsTellable net (Rest start planned) = (length start ≡ length net) × IsPlanTellable Routers net planned
IsTellable net (BadPair refusal) = refusal ≢ NoPairMemory
IsTellable net _ = Unit {0}

-- how a survey ends: with no where something stands out
abbrev pub survey_status : Bool → Status
survey_status true = status.Negative
survey_status false = status.Done

-- how a call ends that comes to this and writes its text whole
abbrev pub status_of : Outcome → Status
status_of (Refused refusal) = refusal_status refusal
status_of (Decided net decision) = decision_status decision
status_of (Survey stands_out text) = survey_status stands_out

-- the text that tells it
abbrev pub outcome_text : Outcome → List ℕ
outcome_text (Refused refusal) = refusal_text refusal
outcome_text (Decided net decision) = decision_text net decision
outcome_text (Survey stands_out text) = text

-- it has a text: no want of memory is told as a refusal, and a decision is of the routers of its network
abbrev pub HasOutcomeText : Outcome → Type 0
HasOutcomeText (Refused refusal) = IsPrinted refusal
HasOutcomeText (Decided net decision) = IsTellable net decision
HasOutcomeText (Survey stands_out text) = Unit {0}
