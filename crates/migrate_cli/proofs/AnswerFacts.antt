-- Which answer each step of a call gives.
use Rattle.std.proofs.Common.{arith}
use Rattle.std.proofs.lemmas.Grind.{common_steps}
use Rattle.std.proofs.Common.{◌≡◌, ◌≢◌, ◌⊎◌, inl, inr, ℕ, List, [], ◌∷◌, ◌++◌, Result, Ok, Err, IfOk, OnOk, sym, subst, append-nil}
use Rattle.std.specs.declared.alloc.AllocError.{AllocError}
use Rattle.net_model.specs.declared.refusal.NetRefusal.{NetRefusal}
use Rattle.net_model.specs.declared.refusal.NetRefusal.TheVariants.{OutOfMemory as NoNetMemory}
use Rattle.isis_writer.specs.ReadTexts.{ReadsTexts}
use Rattle.net_model.specs.Configuration.{Configuration}
use Rattle.net_model.specs.Network.{HasConfiguration, Network}
use Rattle.net_model.specs.OffStarts.{IsLowestOffStart}
use Rattle.migrate_words.specs.Refusals.{IsRefusal}
use Rattle.migrate_words.specs.declared.command.Command.{Command}
use Rattle.migrate_words.specs.declared.refusal.WordsRefused.{WordsRefused}
use Rattle.migrate_words.specs.declared.refusal.WordsRefused.TheVariants.{Words as NotTaken, Number, OutOfMemory as NoMemoryForWords}
use Rattle.migration_report.specs.Outcomes.{HasOutcomeText, network_status, status_of}
use Rattle.migration_report.specs.declared.outcome.Outcome.{Outcome}
use Rattle.migration_report.specs.declared.outcome.Outcome.TheVariants.{Refused, Decided}
use Rattle.migration_report.specs.declared.decision.Decision.TheVariants.{BadPair}
use Rattle.ospf_pair.specs.declared.refusal.PairRefusal.{PairRefusal}
use Rattle.ospf_pair.specs.declared.refusal.PairRefusal.TheVariants.{OutOfMemory as NoPairMemory}
use Rattle.migration_report.specs.declared.refusal.Refusal.TheVariants.{Read, Length, Network as NoNetwork, OffStart}
use Rattle.migration_report.specs.declared.status.Status.TheVariants.{ReadFault, WriteFault}
use Rattle.store_edge.specs.Files.{ReadsSoFar}
use Rattle.migrate_cli.specs.Answers.{AsksForFew, IsAnswer, MayAsk, MayFail, ReadsAgree}
use Rattle.migrate_cli.specs.Answers.IsAnswer.{refused_words, many_files, read_fault, long_file, long_files, judged}
use Rattle.migrate_cli.specs.Answers.MayAsk.{asks_none, asks_some}
use Rattle.migrate_cli.specs.Answers.MayFail.{last_failed, none_failed}
use Rattle.migrate_cli.specs.Calls.{Call}
use Rattle.migrate_cli.specs.CallWords.AreRefused.{not_taken, value_off}
use Rattle.migrate_cli.specs.CommandFiles.{AsksNetworks, GivenTexts, NeedsStart, config_texts, files_of, given_texts, groups_of, own_texts, text_names}
use Rattle.migrate_cli.specs.Configurations.{GiveNetworks, IsAtStart, RefusesFirst}
use Rattle.migrate_cli.specs.Decisions.{IsDecision, input_of}
use Rattle.migrate_cli.specs.Outcomes.{IsOutcome}
use Rattle.migrate_cli.specs.Outcomes.IsOutcome.{faulty_configuration, no_network, off_start, decided}
use Rattle.migrate_cli.specs.Reading.{AreRead, AreWithin, NoneFailed, file_names, to_read}
use Rattle.migrate_cli.specs.declared.configurations.Unread.{Unread}
use Rattle.migrate_cli.specs.declared.configurations.Unread.TheVariants.{Bad, OutOfMemory as NoMemoryToRead}
use Rattle.migrate_cli.specs.declared.reading.Stop.{Stop}
use Rattle.migrate_cli.specs.declared.reading.Stop.TheVariants.{Fault, Long, Total, OutOfMemory}
use Rattle.migrate_cli.specs.steps.Answering.{HasAnswer, ReadsEnd, RefusesSo, StopsSo}
use Rattle.migrate_cli.specs.ObserveDecision.{ConfigTexts, IsNightOutcome, NightTexts, RefusesTexts}
use Rattle.migrate_cli.specs.steps.FilesRead.{AreTextsApart}
use Rattle.migrate_cli.specs.steps.Stops.{MayRead, HasRead, StopReads}
use Rattle.migrate_cli.specs.steps.Stops.MayRead.{none_yet, so_far}
use Rattle.migrate_cli.specs.steps.Unread.{IsUnread, RefusesUnread}
use Rattle.migrate_cli.proofs.OutcomeLaws.{outcome_has_text}
use Rattle.migrate_cli.proofs.StatusFacts.{NoFault, decision_no_fault, limit_no_fault, refused_no_fault, survey_no_fault}
use Rattle.migrate_cli.proofs.StopFacts.{read_so_far}

-- what holds of a value holds of a result that has it
pub from_equal : {T E : Type 0} (r : Result T E) (value : T) (P : T → Type 0) → IfOk r (λ t. t ≡ value) → P value → IfOk r P
from_equal r value P same holds = grind (arith, common_steps)

-- what holds of a result under a premise holds of what it has
pub under_premise : {T E G : Type 0} (P : T → Type 0) (r : Result T E) → (G → IfOk r P) → IfOk r (λ t. G → P t)
under_premise P (Ok t) holds = λ g. holds g
under_premise P (Err e) holds = tt

-- an answer after these names were asked for
pub answered : (call : Call) (before after asked : List (List ℕ)) (r : Result Outcome AllocError) → after ≡ before ++ asked
    → IfOk r (IsAnswer call asked) → MayAsk call asked → HasAnswer call before after r
answered call before after asked r asked_is answer may_ask = grind (arith, common_steps, may_ask)

-- an answer for which no name was asked for
pub answered_at_once : (call : Call) (before : List (List ℕ)) (r : Result Outcome AllocError) → IfOk r (IsAnswer call [])
    → HasAnswer call before before r
answered_at_once call before r answer = answered call before before [] r (sym (append-nil before)) answer asks_none

-- what words come to that are refused
words_refused_so : (call : Call) (refused : WordsRefused) (outcome : Outcome) → IsRefusal call.words refused → RefusesSo refused outcome
    → IsAnswer call [] outcome
words_refused_so call (NotTaken detail) outcome is so = subst (IsAnswer call []) (sym so) (refused_words _ (not_taken _ is))
words_refused_so call Number outcome is so = subst (IsAnswer call []) (sym so) (refused_words [] (value_off is.1))
words_refused_so call NoMemoryForWords outcome is so = absurd so

pub refusal_answer : (call : Call) (before : List (List ℕ)) (refused : WordsRefused) (r : Result Outcome AllocError) → IsRefusal call.words refused
    → IfOk r (RefusesSo refused) → HasAnswer call before before r
refusal_answer call before refused (Ok outcome) is so = answered_at_once call before (Ok outcome) (words_refused_so call refused outcome is so)
refusal_answer call before refused (Err e) is so = answered_at_once call before (Err e) tt

-- where memory may run out in reading, the call may have asked for those names
may_ask : {call : Call} {asked : List (List ℕ)} (command : Command) → AsksForFew call.words command → MayRead call.content (files_of command) asked →
    MayAsk call asked
may_ask command ask none_yet = asks_none
may_ask command ask (so_far asked texts file up) = asks_some command asked texts file ask up

-- and for all names where all were read
pub may_ask_all : (call : Call) (command : Command) (texts : List (List ℕ)) → AsksForFew call.words command
    → AreRead call.content (files_of command) texts → AreWithin (files_of command) texts → MayAsk call (file_names (files_of command))
may_ask_all call command texts ask read within =
    may_ask command ask (read_so_far call.content (files_of command) (files_of command) [] texts (sym (append-nil (files_of command))) read within)

-- so it may have that has an answer, where there is no memory to write it
pub may_have_asked : {call : Call} {asked : List (List ℕ)} {outcome : Outcome} → IsAnswer call asked outcome → MayAsk call asked
may_have_asked (refused_words _ _) = asks_none
may_have_asked (many_files _ _ _) = asks_none
may_have_asked (read_fault command asked texts file ask up) = asks_some command asked texts file ask up
may_have_asked (long_file command asked texts file ask up _) = asks_some command asked texts file ask up
may_have_asked (long_files command asked texts file _ ask up _) = asks_some command asked texts file ask up
may_have_asked {call} (judged command texts _ ask read within _) = may_ask_all call command texts ask read within

-- why reading stopped is the answer
module _ (call : Call) (before after : List (List ℕ)) (command : Command) (ask : AsksForFew call.words command) where
  stopped_so : (stop : Stop) (outcome : Outcome) (read : HasRead (to_read call.content (files_of command)) before after (Err stop)) →
      StopsSo stop outcome → IsAnswer call read.asked outcome
  stopped_so (Fault name) outcome read so =
      let stops = read.reads.stops in
      subst (IsAnswer call read.asked) (sym so)
      (subst (λ n. IsAnswer call read.asked (Refused (Read n))) (sym stops)
      (read_fault command read.asked read.reads.texts read.reads.file ask read.reads.up_to))
  stopped_so (Long name) outcome read so =
      let stops = read.reads.stops in
      subst (IsAnswer call read.asked) (sym so)
      (subst (λ n. IsAnswer call read.asked (Refused (Length n))) (sym stops.0)
      (long_file command read.asked read.reads.texts read.reads.file ask read.reads.up_to stops.1))
  stopped_so (Total number) outcome read so =
      subst (IsAnswer call read.asked) (sym so)
      (long_files command read.asked read.reads.texts read.reads.file number ask read.reads.up_to read.reads.stops)
  stopped_so OutOfMemory outcome read so = absurd so

  may_stop : (stop : Stop) (read : HasRead (to_read call.content (files_of command)) before after (Err stop)) → MayAsk call read.asked
  may_stop (Fault name) read = asks_some command read.asked read.reads.texts read.reads.file ask read.reads.up_to
  may_stop (Long name) read = asks_some command read.asked read.reads.texts read.reads.file ask read.reads.up_to
  may_stop (Total number) read = asks_some command read.asked read.reads.texts read.reads.file ask read.reads.up_to
  may_stop OutOfMemory read = may_ask command ask read.reads

  pub stop_answer : (stop : Stop) (r : Result Outcome AllocError) → HasRead (to_read call.content (files_of command)) before after (Err stop) →
      IfOk r (StopsSo stop) → HasAnswer call before after r
  stop_answer stop (Ok outcome) read so =
      answered call before after read.asked (Ok outcome) read.asked_is (stopped_so stop outcome read so) (may_stop stop read)
  stop_answer stop (Err e) read so = answered call before after read.asked (Err e) read.asked_is tt (may_stop stop read)

-- ---- no outcome of texts is a fault ----

network_no_fault : (refusal : NetRefusal) → NoFault (network_status refusal)
network_no_fault refusal = grind (arith, common_steps, limit_no_fault, refused_no_fault)

refusal_no_fault : {files : ConfigTexts} {outcome : Outcome} → RefusesTexts files outcome → NoFault (status_of outcome)
refusal_no_fault it_0 = grind (arith, common_steps, network_no_fault, refused_no_fault)

night_no_fault : {texts : NightTexts} {outcome : Outcome} → IsNightOutcome texts outcome → NoFault (status_of outcome)
night_no_fault it_0 = grind (arith, common_steps, decision_no_fault, refusal_no_fault, refused_no_fault)

pub outcome_no_fault : {command : Command} {texts : GivenTexts} {outcome : Outcome} → IsOutcome command texts outcome → NoFault (status_of outcome)
outcome_no_fault it_0 =
    grind (arith, common_steps, decision_no_fault, network_no_fault, night_no_fault, refused_no_fault, survey_no_fault)

-- that a write failed is no answer
pub answer_writes : {call : Call} {asked : List (List ℕ)} {outcome : Outcome} → IsAnswer call asked outcome → status_of outcome ≢ WriteFault
answer_writes it_0 = grind (arith, common_steps, outcome_no_fault)

-- an answer is a read fault, or it isn't
pub reads_or_not : {call : Call} {asked : List (List ℕ)} {outcome : Outcome} → IsAnswer call asked outcome
    → (status_of outcome ≡ ReadFault) ⊎ (status_of outcome ≢ ReadFault)
reads_or_not it_0 = grind (arith, common_steps, outcome_no_fault)

-- an answer has a text
pub answer_has_text : {call : Call} {asked : List (List ℕ)} {outcome : Outcome} → IsAnswer call asked outcome → HasOutcomeText outcome
answer_has_text (judged command texts _ _ _ _ is) = outcome_has_text command (given_texts (own_texts command texts) (config_texts command texts)) is
answer_has_text (refused_words _ _) = tt
answer_has_text (many_files _ _ _) = tt
answer_has_text (read_fault _ _ _ _ _ _) = tt
answer_has_text (long_file _ _ _ _ _ _ _) = tt
answer_has_text (long_files _ _ _ _ _ _ _ _) = tt

-- where no read failed the reads agree with an outcome of texts
pub reads_end : (command : Command) (texts : GivenTexts) (r : Result Outcome AllocError) (before after : ReadsSoFar) → NoneFailed before after →
    IfOk r (IsOutcome command texts) → ReadsEnd r before after
reads_end command texts r before after none is = grind (arith, common_steps, outcome_no_fault)

-- and with why reading stopped
reads_stop : (stop : Stop) (outcome : Outcome) (before after : ReadsSoFar) → StopReads stop before after → StopsSo stop outcome →
    ReadsAgree (status_of outcome) before after
reads_stop stop outcome before after failed so = grind (arith, common_steps)

may_fail : (stop : Stop) (before after : ReadsSoFar) → StopReads stop before after → MayFail before after
may_fail stop before after failed = grind (arith, common_steps)

pub stop_reads_end : (stop : Stop) (r : Result Outcome AllocError) (before after : ReadsSoFar) → StopReads stop before after → IfOk r (StopsSo stop) →
    ReadsEnd r before after
stop_reads_end stop r before after reads so = grind (arith, common_steps, may_fail, reads_stop)

-- an outcome or no memory, where no read was tried
pub no_reads_end : (r : Result Outcome AllocError) (reads : ReadsSoFar) → IfOk r (λ outcome. status_of outcome ≢ ReadFault) → ReadsEnd r reads reads
no_reads_end r reads no_fault = grind (arith, common_steps)

-- where there is no memory for the text of an answer
pub agree_may_fail : {call : Call} {asked : List (List ℕ)} {outcome : Outcome} {before after : ReadsSoFar} → IsAnswer call asked outcome →
    ReadsAgree (status_of outcome) before after → MayFail before after
agree_may_fail is agree = elim (reads_or_not is) [ inl fault ↦ last_failed (agree.read_fault fault) | inr none ↦ none_failed (agree.unless_read_fault none) ]

-- why configurations aren't read is the outcome
pub unread_outcome : (command : Command) (texts : GivenTexts) (unread : Unread) (r : Result Outcome AllocError) →
    AsksNetworks command.kind → IsUnread (text_names command) texts.configs unread → IfOk r (RefusesUnread unread) → IfOk r (IsOutcome command texts)
unread_outcome command texts (Bad file line kind) (Ok outcome) asks is so =
    subst (IsOutcome command texts) (sym so) (faulty_configuration file.now line kind asks is)
unread_outcome command texts NoMemoryToRead (Ok outcome) asks is so = absurd so
unread_outcome command texts unread (Err e) asks is so = tt

-- that a group of configurations makes no network is the outcome
pub refused_network : (command : Command) (texts : GivenTexts) (all : List Configuration) (refusal : NetRefusal) (r : Result Outcome AllocError) →
    ReadsTexts texts.configs all → RefusesFirst refusal (groups_of command.kind texts.configs) → OnOk r (refusal ≢ NoNetMemory) →
    IfOk r (λ outcome. outcome ≡ Refused (NoNetwork refusal)) → IfOk r (IsOutcome command texts)
refused_network command texts all refusal (Ok outcome) read refuses told so =
    subst (IsOutcome command texts) (sym so) (no_network all refusal read refuses told)
refused_network command texts all refusal (Err e) read refuses told so = tt

-- what a command comes to on its own texts and those of configurations, into which its texts are split, it comes to on these
pub split_outcome : (command : Command) {texts own configs : List (List ℕ)} (r : Result Outcome AllocError) → AreTextsApart command texts own configs →
    IfOk r (IsOutcome command (given_texts own configs)) → IfOk r (IsOutcome command (given_texts (own_texts command texts) (config_texts command texts)))
split_outcome command {texts} {own} {configs} r split is =
    subst (λ (some : List (List ℕ)). IfOk r (IsOutcome command (given_texts (own_texts command texts) some))) split.configs_are
    (subst (λ (some : List (List ℕ)). IfOk r (IsOutcome command (given_texts some configs))) split.own_are is)

-- that a router is off the start is the outcome
pub start_refused : (command : Command) (texts : GivenTexts) (net : Network) (others : List Network) (router : ℕ) (r : Result Outcome AllocError) →
    GiveNetworks (groups_of command.kind texts.configs) (net ∷ others) → NeedsStart command.kind → IsLowestOffStart net router →
    IfOk r (λ outcome. (config : Configuration) → HasConfiguration net router config → outcome ≡ Refused (OffStart config.name)) →
    IfOk r (IsOutcome command texts)
start_refused command texts net others router (Ok outcome) gives needs lowest so =
    let off = lowest.holds in
    subst (IsOutcome command texts) (sym (so off.config off.router)) (off_start net others router off.config gives needs lowest off.router)
start_refused command texts net others router (Err e) gives needs lowest so = tt

-- and that two networks make no pair
pub pair_refused : (command : Command) (texts : GivenTexts) (old new : Network) (refusal : PairRefusal) (r : Result Outcome AllocError) →
    GiveNetworks (groups_of command.kind texts.configs) (old ∷ new ∷ []) → (NeedsStart command.kind → IsAtStart old) →
    (refusal ≢ NoPairMemory → IsDecision command.kind (input_of command texts old (new ∷ [])) (BadPair refusal)) →
    OnOk r (refusal ≢ NoPairMemory) → IfOk r (λ outcome. outcome ≡ Decided old (BadPair refusal)) → IfOk r (IsOutcome command texts)
pair_refused command texts old new refusal (Ok outcome) gives start is told so =
    subst (IsOutcome command texts) (sym so) (decided old (new ∷ []) (BadPair refusal) gives start (is told))
pair_refused command texts old new refusal (Err e) gives start is told so = tt
