-- What calls of the commands over two networks promise.
use Rattle.std.proofs.Common.{◌≡◌, ◌≢◌, ◌∙◌, ◌<◌, ℕ, List, [], ◌∷◌, ap, arith, length, refl, subst, sym}
use Rattle.igp_theory.proofs.Delivery.{ospf_hop_is_router}
use Rattle.net_model.specs.Network.{Network}
use Rattle.net_model.specs.Refusals.{NamesAscend}
use Rattle.ospf_pair.proofs.AlikeInterfaces.{AreOneNetwork-from}
use Rattle.ospf_pair.proofs.PairRefusalLaws.{MakePair-refused}
use Rattle.ospf_pair.specs.NetworkPairs.{NetworkPair, network_pair}
use Rattle.ospf_pair.specs.PairMigrations.{ospf_to_ospf}
use Rattle.ospf_pair.specs.PairRefusals.{MakePair}
use Rattle.step_scripts.proofs.WaveFileLaws.{no_fault}
use Rattle.step_scripts.specs.WaveFiles.{NamesWaves}
use Rattle.step_scripts.specs.declared.version.Version.{Version}
use Rattle.store_edge.specs.Sink.{AddsBytes}
use Rattle.migrate_words.specs.Asked.{Asks}
use Rattle.migrate_words.specs.declared.command.CommandKind.TheVariants.{Pair, PairCheck, PairRefute, PairScripts}
use Rattle.migration_report.specs.Outcomes.{decision_status, decision_text, status_of, outcome_text}
use Rattle.migration_report.specs.declared.decision.Decision.{Decision}
use Rattle.migration_report.specs.declared.outcome.Outcome.{Outcome}
use Rattle.migration_report.specs.declared.status.Status.TheVariants.{ReadFault, Refused}
use Rattle.migrate_cli.specs.Answers.{IsAnswer}
use Rattle.migrate_cli.specs.Calls.{Call, Course}
use Rattle.migrate_cli.specs.CommandFiles.{command_of, groups_of}
use Rattle.migrate_cli.specs.Completeness.{Decides, DecidesTree, Writes}
use Rattle.migrate_cli.specs.Completeness.Writes.{written}
use Rattle.migrate_cli.specs.Configurations.{GiveNetworks}
use Rattle.migrate_cli.specs.Headline.{Headline}
use Rattle.migrate_cli.specs.PairDecision.{IsPairCheck, IsPairDecision, IsPairPlan, IsPairScripts, IsPairTree, IsScriptOfPair}
use Rattle.migrate_cli.specs.PairDecision.IsPairDecision.{no_pair, of_pair}
use Rattle.migrate_cli.specs.PairDecision.IsScriptOfPair.{faulty_waves, of_waves}
use Rattle.migrate_cli.specs.PairPromise.{AcceptsPair, AcceptsPairCheck, AcceptsPairRefute, AcceptsPairScripts, HasPaired, pair_of}
use Rattle.migrate_cli.specs.PlanDecision.{IsPlanOver}
use Rattle.migrate_cli.specs.PlanDecision.IsPlanOver.{plans}
use Rattle.migrate_cli.specs.PlanPromise.{IsOfPlan, PlansOrNot}
use Rattle.migrate_cli.specs.PlanPromise.PlansOrNot.{planned as as_planned}
use Rattle.migrate_cli.specs.Reading.{NamedText, named_text, named_texts}
use Rattle.migrate_cli.specs.RefuteDecision.{IsTreeDecision}
use Rattle.migrate_cli.proofs.CommandLaws.{redesigned}
use Rattle.migrate_cli.proofs.CompletenessLaws.{check_of_waves, ends_decided, said_of}
use Rattle.migrate_cli.proofs.DecidedLaws.{answer_decided}
use Rattle.migrate_cli.proofs.GroupLaws.{first_ascends}
use Rattle.migrate_cli.proofs.HeadlineLaws.{headline}
use Rattle.migrate_cli.proofs.PlanPromiseLaws.{plan_no_refusal}
use Rattle.migrate_cli.proofs.RefuteLaws.{tree_decides}

-- what is decided of two networks that make a pair is decided of the pair
of_made : {nets : NetworkPair} {P : Decision → Type 0} {d : Decision} → MakePair nets → IsPairDecision nets P d → P d
of_made {nets} make (no_pair refusal refuses told) = absurd (told (MakePair-refused nets refusal make refuses))
of_made make (of_pair _ _ is) = is

-- where that isn't refused they make one
made_pair : {nets : NetworkPair} {P : Decision → Type 0} {d : Decision} → IsPairDecision nets P d → decision_status d ≢ Refused → MakePair nets
made_pair (no_pair _ _ _) not = absurd (not refl)
made_pair (of_pair _ make _) not = make

-- ---- `pair` ----

pair_means : {budget : ℕ} {old new : Network} {d : Decision} → MakePair (network_pair old new) → IsPlanOver (ospf_to_ospf old new) budget d →
    Headline (ospf_to_ospf old new) budget (decision_status d) (decision_text old d)
pair_means {budget} {old} {new} make (plans planned some network is) =
    let same : length old ≡ length new = (AreOneNetwork-from (network_pair old new) make).routers in
    headline (ospf_to_ospf old new) (λ u. refl) (λ u h q e below entry leads. ospf_hop_is_router old u h q e entry leads)
    (λ u h q e below entry leads. let hop : h < length new = ospf_hop_is_router new u h q e entry leads in omega (arith, hop, same))
    budget some network planned is

pub has_paired : (call : Call) (budget : ℕ) (old_file new_file : List ℕ) (outside : Course) {asked : List (List ℕ)} {outcome : Outcome} →
    Asks call.words (pair_of budget old_file new_file) → IsAnswer call asked outcome →
    AddsBytes outside.before.written outside.after.written (outcome_text outcome) → IsOfPlan (status_of outcome) →
    HasPaired call budget old_file new_file outside (status_of outcome)
has_paired call budget old_file new_file outside {outcome = outcome} asks is adds of =
    let it = answer_decided IsOfPlan plan_no_refusal call (pair_of budget old_file new_file) tt asks is of in
    let made = made_pair it.is.2 (λ e. subst IsOfPlan e (subst (λ (o : Outcome). IsOfPlan (status_of o)) it.outcome_is of)) in
    record {
      texts = it.texts;
      read = it.read;
      within = it.within;
      old = it.net;
      new = it.is.0;
      gives = subst (λ (others : List Network). GiveNetworks (groups_of Pair it.texts) (it.net ∷ others)) it.is.1 it.gives;
      start = it.start tt;
      pair = made;
      text = outcome_text outcome;
      written = adds;
      means =
          subst (λ (o : Outcome). Headline (ospf_to_ospf it.net it.is.0) budget (status_of o) (outcome_text o)) (sym it.outcome_is)
          (pair_means made (of_made made it.is.2));
    }

pub pair_decides : (call : Call) → (it : AcceptsPair call) → (asked : List (List ℕ)) (outcome : Outcome) → status_of outcome ≢ ReadFault →
    IsAnswer call asked outcome → PlansOrNot (ospf_to_ospf it.old it.new) (status_of outcome)
pair_decides call it =
    ends_decided call (pair_of it.budget it.old_file it.new_file) it.texts it.old (it.new ∷ []) it.accepted (PlansOrNot (ospf_to_ospf it.old it.new))
    (λ decision is. as_planned (pair_means it.pair
    (of_made it.pair (redesigned (λ new. IsPairPlan (network_pair it.old new) it.budget decision) refl is.1 is.2))).ends)

-- ---- the other ones ----

pub pair_check_decides : (call : Call) → (it : AcceptsPairCheck call) → (asked : List (List ℕ)) (outcome : Outcome) →
    status_of outcome ≢ ReadFault → IsAnswer call asked outcome → Decides (status_of outcome)
pair_check_decides call it =
    ends_decided call (command_of PairCheck (it.file ∷ []) it.configs 0) it.texts it.old (it.new ∷ []) it.accepted Decides
    (λ decision is. check_of_waves (first_ascends _ it.old (it.new ∷ []) it.accepted.gives)
    (said_of it.file (λ t. NamesWaves it.old t it.version it.ranks) it.text_is is.3 it.names)
    (of_made it.pair (redesigned (λ new. IsPairCheck (network_pair it.old new) is.2 decision) refl is.1 is.4)))

pub pair_refute_decides : (call : Call) → (it : AcceptsPairRefute call) → (asked : List (List ℕ)) (outcome : Outcome) →
    status_of outcome ≢ ReadFault → IsAnswer call asked outcome → DecidesTree (ospf_to_ospf it.old it.new) it.tree (status_of outcome)
pair_refute_decides call it =
    ends_decided call (command_of PairRefute (it.file ∷ []) it.configs 0) it.texts it.old (it.new ∷ []) it.accepted
    (DecidesTree (ospf_to_ospf it.old it.new) it.tree)
    (λ decision is. let lists : named_text it.file it.tree ∷ [] ≡ is.2 ∷ [] = ap (named_texts (it.file ∷ [])) (sym it.tree_is) ∙ is.3 in
    let same : named_text it.file it.tree ≡ is.2 = cc lists in
    tree_decides it.tree (ospf_to_ospf it.old it.new)
    (subst (λ (file : NamedText). IsTreeDecision (ospf_to_ospf it.old it.new) file.text decision) (sym same)
    (of_made it.pair (redesigned (λ new. IsPairTree (network_pair it.old new) is.2.text decision) refl is.1 is.4))))

script_of_names : {nets : NetworkPair} {order : NamedText} {d : Decision} {version : Version} {ranks : List ℕ} → NamesAscend nets.old →
    NamesWaves nets.old order.text version ranks → IsScriptOfPair nets order d → Writes (decision_status d)
script_of_names {nets} {order} {version = version} {ranks = ranks} ascending names (faulty_waves n k least) =
    absurd (no_fault nets.old order.text version ranks n k ascending names least.faulty)
script_of_names ascending names (of_waves _ _ _) = written

pub pair_scripts_write : (call : Call) → (it : AcceptsPairScripts call) → (asked : List (List ℕ)) (outcome : Outcome) →
    status_of outcome ≢ ReadFault → IsAnswer call asked outcome → Writes (status_of outcome)
pair_scripts_write call it =
    ends_decided call (command_of PairScripts (it.file ∷ []) it.configs 0) it.texts it.old (it.new ∷ []) it.accepted Writes
    (λ decision is. script_of_names {nets = network_pair it.old it.new} {order = is.2} (first_ascends _ it.old (it.new ∷ []) it.accepted.gives)
    (said_of it.file (λ t. NamesWaves it.old t it.version it.ranks) it.text_is is.3 it.names)
    (of_made it.pair (redesigned (λ new. IsPairScripts (network_pair it.old new) is.2 decision) refl is.1 is.4)))
