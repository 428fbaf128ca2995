-- What calls of `check` and `refute` promise of files of single changes, and what they say of the text of a plan.
use Rattle.std.proofs.Common.{◌≡◌, ◌≢◌, ℕ, List, [], ◌∷◌, ap, length, refl, sym, ◌∙◌, subst}
use Rattle.net_model.specs.Network.{Network}
use Rattle.net_model.specs.Refusals.{NamesAscend}
use Rattle.igp_theory.specs.LoopLaws.{BeginsOld}
use Rattle.igp_theory.specs.Migrations.{Migration, ospf_to_isis}
use Rattle.order_core.specs.Rankings.{wave_count}
use Rattle.plan_theory.specs.declared.items.Items.TheVariants.{Changes}
use Rattle.refutation_check.specs.TreeLines.{two_tree_header}
use Rattle.refutation_check.specs.Verdicts.{IsTextVerdict}
use Rattle.refutation_check.specs.declared.verdict.Verdict.TheVariants.{Closed, Unfinished, Wrong}
use Rattle.refutation_check.proofs.OneVerdict.{one_headed}
use Rattle.step_scripts.specs.WaveFiles.{NamesWaves}
use Rattle.step_scripts.specs.declared.version.Version.{Version}
use Rattle.step_scripts.specs.declared.version.Version.TheVariants.{Two}
use Rattle.change_orders.specs.TwoFiles.{AreTwoWaves, NamesTwo}
use Rattle.change_orders.proofs.TwoFileLaws.{one_list}
use Rattle.migrate_words.specs.declared.command.CommandKind.TheVariants.{Check, Refute}
use Rattle.migration_report.specs.Outcomes.{decision_status, status_of}
use Rattle.migration_report.specs.declared.decision.Decision.{Decision}
use Rattle.migration_report.specs.declared.decision.Decision.TheVariants.{Tree}
use Rattle.migration_report.specs.declared.outcome.Outcome.{Outcome}
use Rattle.migration_report.specs.declared.status.Status.{Status}
use Rattle.migration_report.specs.declared.status.Status.TheVariants.{ReadFault}
use Rattle.migrate_cli.specs.Answers.{IsAnswer}
use Rattle.migrate_cli.specs.Calls.{Call}
use Rattle.migrate_cli.specs.ChangesDecision.{IsChangesDecision, IsChangesTree}
use Rattle.migrate_cli.specs.ChangesDecision.IsChangesCheck.{faulty_changes, named_changes}
use Rattle.migrate_cli.specs.ChangesDecision.IsChangesDecision.{safe_changes, unsafe_changes}
use Rattle.migrate_cli.specs.ChangesDecision.IsChangesTree.{judged_changes}
use Rattle.migrate_cli.specs.ChangesPromise.{AcceptsChanges, DecidesChanges, DecidesChangesTree, DecidesRefutation}
use Rattle.migrate_cli.specs.ChangesPromise.DecidesChanges.{all_sound, some_unsound}
use Rattle.migrate_cli.specs.ChangesPromise.DecidesChangesTree.{closed_changes, no_closed_changes}
use Rattle.migrate_cli.specs.ChangesPromise.DecidesRefutation.{of_routers, of_changes, of_rest}
use Rattle.migrate_cli.specs.CheckDecision.{IsCheckDecision}
use Rattle.migrate_cli.specs.CheckDecision.IsCheckDecision.{by_routers, by_changes}
use Rattle.migrate_cli.specs.CommandFiles.{command_of}
use Rattle.migrate_cli.specs.Completeness.{AcceptsCheck, AcceptsRefute, Decides}
use Rattle.migrate_cli.specs.Headline.{Headline}
use Rattle.migrate_cli.specs.JudgedTexts.{IsJudgedSo}
use Rattle.migrate_cli.specs.Reading.{NamedText, named_text, named_texts}
use Rattle.migrate_cli.specs.RefuteDecision.{IsRefuteDecision, IsTreeDecision}
use Rattle.migrate_cli.specs.RefuteDecision.IsRefuteDecision.{by_routers as tree_of_routers, by_changes as tree_of_changes, by_rest as tree_of_rest}
use Rattle.migrate_cli.specs.RefuteDecision.IsTreeDecision.{judged_tree}
use Rattle.migrate_cli.proofs.ChangesLaws.{names_changes, names_no_changes, tree_of_no_other}
use Rattle.migrate_cli.proofs.CompletenessLaws.{check_of_waves, ends_decided, said_of}
use Rattle.migrate_cli.proofs.RefuteLaws.{closed_or_unfinished, closed_or_wrong, tree_decides}
use Rattle.migrate_cli.proofs.RestTreeLaws.{rest_tree_decides}

-- ---- `check` ----

-- an order file that names a wave list of routers is judged
check_of_routers : {order : NamedText} {net : Network} {version : Version} {ranks : List ℕ} {d : Decision} → NamesAscend net →
    NamesWaves net order.text version ranks → IsCheckDecision order net d → Decides (decision_status d)
check_of_routers ascending names (by_routers _ _ is) = check_of_waves ascending names is
check_of_routers {order} {net} {version} {ranks} ascending names (by_changes _ begins _) =
    absurd (names_no_changes net order.text version ranks names begins)

pub check_decides : (call : Call) → AcceptsCheck call → (asked : List (List ℕ)) (outcome : Outcome) → status_of outcome ≢ ReadFault →
    IsAnswer call asked outcome → Decides (status_of outcome)
check_decides call it =
    ends_decided call (command_of Check (it.file ∷ []) it.configs 0) it.texts it.net [] it.accepted Decides
    (λ decision is. check_of_routers it.accepted.gives.0.make.network.ascending
    (said_of it.file (λ t. NamesWaves it.net t it.version it.ranks) it.text_is is.1 it.names) is.2)

changes_decide : {move : Migration} {ranks : List ℕ} {d : Decision} → AreTwoWaves (length move.net) ranks → IsChangesDecision move ranks d →
    DecidesChanges move ranks (decision_status d)
changes_decide turns (safe_changes sound) = all_sound sound
changes_decide turns (unsafe_changes _ _ not _) = some_unsound turns not

-- and one that names a wave list of single changes
check_of_changes : {order : NamedText} {net : Network} {ranks : List ℕ} {d : Decision} → NamesAscend net →
    NamesTwo net order.text ranks → IsCheckDecision order net d → DecidesChanges (ospf_to_isis net) ranks (decision_status d)
check_of_changes {order} {net} {ranks} ascending names (by_routers _ not _) = absurd (not (names_changes net order.text ranks names))
check_of_changes ascending names (by_changes _ _ (faulty_changes n k least)) = absurd (names.faultless n k least.faulty)
check_of_changes {order} {net} {ranks} {d} ascending names (by_changes _ _ (named_changes other _ again turns is)) =
    subst (λ (some : List ℕ). DecidesChanges (ospf_to_isis net) some (decision_status d)) (one_list net order.text other ranks ascending again names)
    (changes_decide {move = ospf_to_isis net} turns is)

pub change_check_decides : (call : Call) → (it : AcceptsChanges call) → (asked : List (List ℕ)) (outcome : Outcome) →
    status_of outcome ≢ ReadFault → IsAnswer call asked outcome → DecidesChanges (ospf_to_isis it.net) it.ranks (status_of outcome)
change_check_decides call it =
    ends_decided call (command_of Check (it.file ∷ []) it.configs 0) it.texts it.net [] it.accepted (DecidesChanges (ospf_to_isis it.net) it.ranks)
    (λ decision is. check_of_changes it.accepted.gives.0.make.network.ascending
    (said_of it.file (λ t. NamesTwo it.net t it.ranks) it.text_is is.1 it.names) is.2)

-- ---- `refute` ----

changes_tree_decides : (tree : List ℕ) (move : Migration) {d : Decision} → BeginsOld move → IsChangesTree move tree d →
    DecidesChangesTree move tree (decision_status d)
changes_tree_decides tree move begins (judged_changes (Closed b l) network is none) = closed_changes b l is none
changes_tree_decides tree move begins (judged_changes (Unfinished u) network is _) =
    no_closed_changes (λ b l other. closed_or_unfinished b l u
    (one_headed Changes move begins network two_tree_header tree (Closed b l) (Unfinished u) other is))
changes_tree_decides tree move begins (judged_changes (Wrong n k) network is _) =
    no_closed_changes (λ b l other. closed_or_wrong b l n k
    (one_headed Changes move begins network two_tree_header tree (Closed b l) (Wrong n k) other is))

refutation_decides : (tree : List ℕ) (net : Network) {d : Decision} → IsRefuteDecision tree net d → DecidesRefutation net tree (decision_status d)
refutation_decides tree net (tree_of_routers _ other is) = of_routers other (tree_decides tree (ospf_to_isis net) is)
refutation_decides tree net (tree_of_changes _ begins is) = of_changes begins (changes_tree_decides tree (ospf_to_isis net) (λ u. refl) is)
refutation_decides tree net (tree_of_rest _ begins is) = of_rest begins (rest_tree_decides tree (ospf_to_isis net) is)

pub refute_decides : (call : Call) → (it : AcceptsRefute call) → (asked : List (List ℕ)) (outcome : Outcome) → status_of outcome ≢ ReadFault
    → IsAnswer call asked outcome → DecidesRefutation it.net it.tree (status_of outcome)
refute_decides call it =
    ends_decided call (command_of Refute (it.file ∷ []) it.configs 0) it.texts it.net [] it.accepted (DecidesRefutation it.net it.tree)
    (λ decision is. let lists : named_text it.file it.tree ∷ [] ≡ is.0 ∷ [] = ap (named_texts (it.file ∷ [])) (sym it.tree_is) ∙ is.1 in
    let same : named_text it.file it.tree ≡ is.0 = cc lists in
    refutation_decides it.tree it.net (subst (λ (file : NamedText). IsRefuteDecision file.text it.net decision) (sym same) is.2))

-- ---- the text of a plan ----

closed_verdict : {move : Migration} {text : List ℕ} {b l : ℕ} → IsTreeDecision move text (Tree (Closed b l)) → IsTextVerdict move text (Closed b l)
closed_verdict (judged_tree _ _ is _) = is

open_verdict : {move : Migration} {text : List ℕ} {u : ℕ} → IsTreeDecision move text (Tree (Unfinished u)) → IsTextVerdict move text (Unfinished u)
open_verdict (judged_tree _ _ is _) = is

-- what the headline says of `paircheck` and `pairrefute` holds of `check` and `refute`
pub judged_so : {net : Network} {budget : ℕ} {status : Status} {text : List ℕ} → Headline (ospf_to_isis net) budget status text →
    IsJudgedSo net status text
judged_so {net} {text = text} means = record {
  safe = λ done file.
      let it = means.safe_waves done in
      (wave_count it.ranks, by_routers _ (names_no_changes net text Two it.ranks it.names) (it.checks file));
  closed = λ negative.
      let it = means.no_waves negative in
      let is = closed_verdict it.refutes in
      (it.branches, it.leaves, tree_of_routers _ (tree_of_no_other text is.lines is.text_is) it.refutes);
  stopped = λ spent.
      let it = means.no_more spent in
      let is = open_verdict it.refutes in
      (it.unvisited, tree_of_routers _ (tree_of_no_other text is.lines is.text_is) it.refutes);
}
