-- Where nothing of the input is refused, a command decides.
use Rattle.std.proofs.Common.{arith}
use Rattle.std.proofs.lemmas.Grind.{common_steps}
use Rattle.std.proofs.Common.{◌≡◌, ◌≢◌, ℕ, List, [], ◌∷◌, All, ap, drop, get_or, sym, ◌∙◌, subst}
use Rattle.net_model.specs.Network.{Network}
use Rattle.net_model.specs.Refusals.{NamesAscend}
use Rattle.design_file.specs.Answers.{SaysDesign}
use Rattle.igp_theory.specs.Migrations.{Migration}
use Rattle.migrate_words.proofs.OneCommand.{one_command}
use Rattle.migrate_words.specs.declared.command.Command.{Command}
use Rattle.migrate_words.specs.declared.command.CommandKind.{CommandKind}
use Rattle.migrate_words.specs.declared.command.CommandKind.TheVariants.{Prepare, Scripts, Replay}
use Rattle.step_scripts.specs.WaveFiles.{NamesWaves}
use Rattle.step_scripts.specs.declared.version.Version.{Version}
use Rattle.step_scripts.proofs.WaveFileLaws.{no_fault}
use Rattle.migration_report.specs.Outcomes.{decision_status, status_of}
use Rattle.migration_report.specs.declared.decision.Decision.{Decision}
use Rattle.migration_report.specs.declared.outcome.Outcome.{Outcome}
use Rattle.migration_report.specs.declared.outcome.Outcome.TheVariants.{Decided}
use Rattle.migration_report.specs.declared.status.Status.{Status}
use Rattle.migration_report.specs.declared.status.Status.TheVariants.{ReadFault}
use Rattle.migrate_cli.specs.Answers.{IsAnswer}
use Rattle.migrate_cli.specs.Calls.{Call}
use Rattle.migrate_cli.specs.CheckDecision.{IsCheckOver, IsOrderDecision, IsWavesDecision}
use Rattle.migrate_cli.specs.CheckDecision.IsCheckOver.{faulty_order, of_order, of_waves}
use Rattle.migrate_cli.specs.CheckDecision.IsOrderDecision.{safe, unsafe}
use Rattle.migrate_cli.specs.CheckDecision.IsWavesDecision.{safe_waves, unsafe_wave}
use Rattle.migrate_cli.specs.CommandFiles.{NeedsStart, command_of, config_texts, files_of, groups_of, own_texts, given_texts}
use Rattle.migrate_cli.specs.Completeness.{AcceptsReplay, AcceptsScripts, Decides, IsAccepted, Writes}
use Rattle.migrate_cli.specs.Completeness.Decides.{yes, no}
use Rattle.migrate_cli.specs.Completeness.Writes.{written}
use Rattle.migrate_cli.specs.Configurations.{GiveNetwork, GiveNetworks, IsAtStart}
use Rattle.migrate_cli.specs.Decisions.{Input, IsDecision, input_of}
use Rattle.migrate_cli.specs.Outcomes.{IsOutcome}
use Rattle.migrate_cli.specs.Outcomes.IsOutcome.{faulty_configuration, no_network, off_start, decided, surveyed, observed}
use Rattle.migrate_cli.specs.PrepareDecision.{configured, with_settled_lines}
use Rattle.migrate_cli.specs.PreparePromise.{AcceptsPrepare}
use Rattle.migrate_cli.specs.Reading.{NamedText, named_text, named_texts}
use Rattle.migrate_cli.specs.ReplayDecision.{IsJournalDecision, IsReplayDecision, Journal, journal_of}
use Rattle.migrate_cli.specs.ReplayDecision.IsJournalDecision.{reached, departs}
use Rattle.migrate_cli.specs.ReplayDecision.IsReplayDecision.{faulty_waves as faulty_replay, of_waves as replay_of}
use Rattle.migrate_cli.specs.ScriptsDecision.{IsScriptsDecision}
use Rattle.migrate_cli.specs.ScriptsDecision.IsScriptsDecision.{faulty_waves as faulty_scripts, of_waves as script_of}
use Rattle.migrate_cli.proofs.CallLaws.{OfFiles, OfWords, question, few_or_many, refused_or_asks, steps_of, stop_or_all}
use Rattle.migrate_cli.proofs.CallLaws.OfFiles.{above, stopped, all_read}
use Rattle.migrate_cli.proofs.CallLaws.OfWords.{refused, asks}
use Rattle.migrate_cli.proofs.GroupLaws.{given_unrefused, none_refuses, same_networks}
use Rattle.migrate_cli.proofs.SettlingLaws.{settled_writes}
use Rattle.migrate_cli.proofs.StopLaws.{one_list, told_files, told_with, IsToldOf}

-- ---- what is decided, is decided of the network ----

-- the command has decided of its input
pub record IsDecided (command : Command) (input : Input) (outcome : Outcome) : Type 0 where
  pub decision : Decision
  pub outcome_is : outcome ≡ Decided input.net decision
  pub is : IsDecision command.kind input decision

-- where nothing of some texts is refused, the command decides
pub judged_alone : (command : Command) (own texts : List (List ℕ)) (net : Network) (others : List Network) {outcome : Outcome} →
    GiveNetworks (groups_of command.kind texts) (net ∷ others) → (NeedsStart command.kind → IsAtStart net) →
    IsOutcome command (given_texts own texts) outcome → IsDecided command (input_of command (given_texts own texts) net others) outcome
judged_alone command own texts net others gives start (faulty_configuration _ _ _ networks first) =
    absurd (given_unrefused command.kind texts (net ∷ others) networks gives first)
judged_alone command own texts net others gives start (surveyed _ kind _) =
    absurd (subst (λ (k : CommandKind). GiveNetworks (groups_of k texts) (net ∷ others)) kind gives)
judged_alone command own texts net others gives start (observed _ _ _ kind _ _) =
    absurd (subst (λ (k : CommandKind). GiveNetworks (groups_of k texts) (net ∷ others)) kind gives)
judged_alone command own texts net others gives start (no_network _ _ _ refuses told) = absurd (none_refuses (net ∷ others) gives told refuses)
judged_alone command own texts net others gives start (off_start other more router _ given needs lowest _) =
    let same = same_networks (groups_of command.kind texts) (net ∷ others) (other ∷ more) gives given in
    let at_start : IsAtStart other = subst (λ (all : List Network). IsAtStart (get_or all 0 net)) same (start needs) in
    absurd (at_start router lowest.holds)
judged_alone command own texts net others gives start (decided other more decision given _ is) =
    let same = same_networks (groups_of command.kind texts) (other ∷ more) (net ∷ others) given gives in
    record {
      decision = decision;
      outcome_is = ap (λ (all : List Network). Decided (get_or all 0 net) decision) same;
      is =
          subst
          (λ (all : List Network). IsDecision command.kind (input_of command (given_texts own texts) (get_or all 0 net) (drop 1 all)) decision)
          same is;
    }

module _ (call : Call) (command : Command) (texts : List (List ℕ)) (net : Network) (others : List Network)
    (accepted : IsAccepted call command texts net others) where
  abbrev pub input : Input
  input = input_of command (given_texts (own_texts command texts) (config_texts command texts)) net others

  files_judged : {asked : List (List ℕ)} {outcome : Outcome} → OfFiles (question call.content command) asked outcome →
      IsDecided command input outcome
  files_judged (above many) = absurd (few_or_many call.content command many accepted.asked.few)
  files_judged (stopped before file read text _ _ stop _) =
      let tell = told_files call.content (files_of command) accepted.told in
      absurd (stop_or_all call.content command before file read text texts
      (told_with call.content before file stop.after (subst (All (IsToldOf call.content)) stop.files_are tell)) stop accepted.read accepted.within)
  files_judged {outcome = outcome} (all_read some _ read _ is) =
      let same = one_list call.content (files_of command) some texts (told_files call.content (files_of command) accepted.told) read accepted.read in
      judged_alone command (own_texts command texts) (config_texts command texts) net others accepted.gives accepted.start
      (subst (λ list. IsOutcome command (given_texts (own_texts command list) (config_texts command list)) outcome) same is)

  words_judged : {asked : List (List ℕ)} {outcome : Outcome} → OfWords call asked outcome → IsDecided command input outcome
  words_judged (refused detail are) = absurd (refused_or_asks call.words detail command are accepted.asked.asked)
  words_judged {asked} {outcome} (asks some ask files) =
      let same = one_command call.words some command ask accepted.asked.asked in
      files_judged (subst (λ other. OfFiles (question call.content other) asked outcome) same files)

  -- an answer that is no fault of reading is what the command decides
  pub accepted_decision : (asked : List (List ℕ)) (outcome : Outcome) → status_of outcome ≢ ReadFault → IsAnswer call asked outcome →
      IsDecided command input outcome
  accepted_decision asked outcome no_fault is = words_judged (steps_of no_fault is)

  -- so the call ends as what it decides
  pub ends_decided : (D : Status → Type 0) → ((decision : Decision) → IsDecision command.kind input decision → D (decision_status decision)) →
      (asked : List (List ℕ)) (outcome : Outcome) → status_of outcome ≢ ReadFault → IsAnswer call asked outcome → D (status_of outcome)
  ends_decided D holds asked outcome no_fault is =
      let it = accepted_decision asked outcome no_fault is in
      subst (λ (o : Outcome). D (status_of o)) (sym it.outcome_is) (holds it.decision it.is)

-- the network of some texts has ascending names
names_ascend : {texts : List (List ℕ)} {net : Network} → GiveNetwork texts net → NamesAscend net
names_ascend gives = gives.make.network.ascending

-- what is said of the one own text is said of the file that is decided on
pub said_of : (name : List ℕ) {own : List (List ℕ)} {one : List ℕ} {other : NamedText} (P : List ℕ → Type 0) → own ≡ one ∷ [] →
    named_texts (name ∷ []) own ≡ other ∷ [] → P one → P other.text
said_of name {own} {one} {other} P first second holds = grind (arith, common_steps)

-- ---- `check` ----

order_decides : {move : Migration} {order : List ℕ} {d : Decision} → IsOrderDecision move order d → Decides (decision_status d)
order_decides (safe _) = yes
order_decides (unsafe _ _ _ _) = no

waves_decide : {move : Migration} {ranks : List ℕ} {d : Decision} → IsWavesDecision move ranks d → Decides (decision_status d)
waves_decide (safe_waves _) = yes
waves_decide (unsafe_wave _ _ _ _) = no

-- an order file that names a wave list is judged
pub check_of_waves : {move : Migration} {order : NamedText} {version : Version} {ranks : List ℕ} {d : Decision} → NamesAscend move.net →
    NamesWaves move.net order.text version ranks → IsCheckOver move order d → Decides (decision_status d)
check_of_waves {move} {order} {version} {ranks} ascending names (faulty_order n k least) =
    absurd (no_fault move.net order.text version ranks n k ascending names least.faulty)
check_of_waves ascending names (of_order _ _ _ is) = order_decides is
check_of_waves ascending names (of_waves _ _ _ is) = waves_decide is

-- ---- `scripts` ----

scripts_of_waves : {order : NamedText} {net : Network} {d : Decision} {version : Version} {ranks : List ℕ} → NamesAscend net →
    NamesWaves net order.text version ranks → IsScriptsDecision order net d → Writes (decision_status d)
scripts_of_waves {order} {net} {version = version} {ranks = ranks} ascending names (faulty_scripts n k least) =
    absurd (no_fault net order.text version ranks n k ascending names least.faulty)
scripts_of_waves ascending names (script_of _ _ _) = written

pub scripts_write : (call : Call) → AcceptsScripts call → (asked : List (List ℕ)) (outcome : Outcome) → status_of outcome ≢ ReadFault →
    IsAnswer call asked outcome → Writes (status_of outcome)
scripts_write call it =
    ends_decided call (command_of Scripts (it.file ∷ []) it.configs 0) it.texts it.net [] it.accepted Writes
    (λ decision is. scripts_of_waves (names_ascend it.accepted.gives.0)
    (said_of it.file (λ t. NamesWaves it.net t it.version it.ranks) it.text_is is.1 it.names) is.2)

-- ---- `replay` ----

-- a journal of a wave list begins a run, or it doesn't
journal_decides : {journal : Journal} {ranks : List ℕ} {d : Decision} → IsJournalDecision journal ranks d → Decides (decision_status d)
journal_decides (reached _ _ _ _ _) = yes
journal_decides (departs _ _ _) = no

replay_of_waves : {order : NamedText} {journal : Journal} {d : Decision} {version : Version} {ranks : List ℕ} → NamesAscend journal.net →
    NamesWaves journal.net order.text version ranks → IsReplayDecision order journal d → Decides (decision_status d)
replay_of_waves {order} {journal} {version = version} {ranks = ranks} ascending names (faulty_replay n k least) =
    absurd (no_fault journal.net order.text version ranks n k ascending names least.faulty)
replay_of_waves ascending names (replay_of _ _ _ _ is) = journal_decides is

pub replay_decides : (call : Call) → AcceptsReplay call → (asked : List (List ℕ)) (outcome : Outcome) → status_of outcome ≢ ReadFault →
    IsAnswer call asked outcome → Decides (status_of outcome)
replay_decides call it =
    ends_decided call (command_of Replay (it.file ∷ it.journal_file ∷ []) it.configs 0) it.texts it.net [] it.accepted Decides
    (λ decision is. let both : List (List ℕ) → List NamedText = named_texts (it.file ∷ it.journal_file ∷ []) in
    let lists : named_text it.file it.text ∷ named_text it.journal_file it.journal ∷ [] ≡ is.0 ∷ is.1 ∷ [] = ap both (sym it.texts_are) ∙ is.2 in
    let same : named_text it.file it.text ≡ is.0 = cc lists in
    replay_of_waves {order = is.0} {journal = journal_of is.1.text it.net} (names_ascend it.accepted.gives.0)
    (subst (λ (file : NamedText). NamesWaves it.net file.text it.version it.ranks) same it.names) is.3)

-- ---- `prepare` ----

pub prepare_writes : (call : Call) → AcceptsPrepare call → (asked : List (List ℕ)) (outcome : Outcome) → status_of outcome ≢ ReadFault →
    IsAnswer call asked outcome → Writes (status_of outcome)
prepare_writes call it =
    ends_decided call (command_of Prepare (it.file ∷ []) it.configs 0) it.texts it.net [] it.accepted Writes
    (λ decision is. settled_writes is.0 it.net (with_settled_lines (configured (config_texts (command_of Prepare (it.file ∷ []) it.configs 0) it.texts) it.net))
    it.design it.settled (λ some. written) (said_of it.file (λ t. SaysDesign t it.design) it.text_is is.1 it.says) it.settles is.2)
