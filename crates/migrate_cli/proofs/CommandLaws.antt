-- A command decides one thing of its input, and what it decides has a text.
use Rattle.std.proofs.Common.{arith}
use Rattle.std.proofs.lemmas.Grind.{common_steps}
use Rattle.std.proofs.Common.{◌≡◌, ◌∙◌, ◌∷◌, [], List, ap, get_or, refl, sym, subst}
use Rattle.net_model.specs.Refusals.{NamesAscend}
use Rattle.migrate_words.specs.declared.command.CommandKind.{CommandKind}
use Rattle.migrate_words.specs.declared.command.CommandKind.TheVariants.{Check, Prepare, Plan, TwoPass, Refute, Scripts, Replay, Sample}
use Rattle.migrate_words.specs.declared.command.CommandKind.TheVariants.{Pair, PairScripts, PairCheck, PairRefute, Design, Split, Delta, Tables, Why, Rollback, Replan, Observe, Picture, Failures, Survey}
use Rattle.migration_report.specs.Outcomes.{IsTellable}
use Rattle.migration_report.specs.declared.decision.Decision.{Decision}
use Rattle.net_model.specs.Network.{Network}
use Rattle.ospf_pair.specs.NetworkPairs.{network_pair}
use Rattle.migrate_cli.specs.CheckDecision.{IsCheckDecision, IsCheckOver}
use Rattle.migrate_cli.specs.PairDecision.{IsPairCheck, IsPairPlan, IsPairScripts, IsPairTree, IsScriptOfPair, pair_move}
use Rattle.migrate_cli.specs.PlanDecision.{IsPlanOver}
use Rattle.migrate_cli.specs.Decisions.{Input, IsDecision}
use Rattle.migrate_cli.specs.DeltaDecision.{IsDeltaDecision, settled_lines_alone}
use Rattle.migrate_cli.specs.ExplainedDecision.{IsExplainedDecision}
use Rattle.migrate_cli.specs.FailuresDecision.{IsFailuresDecision}
use Rattle.migrate_cli.specs.PictureDecision.{IsPictureDecision}
use Rattle.migrate_cli.specs.PrepareDecision.{IsPrepareDecision, configured, with_settled_lines}
use Rattle.migrate_cli.specs.Reading.{NamedText}
use Rattle.migrate_cli.specs.RefuteDecision.{IsRefuteDecision, IsTreeDecision}
use Rattle.migrate_cli.specs.ReplanDecision.{IsReplanDecision}
use Rattle.migrate_cli.specs.ReplayDecision.{IsReplayDecision, journal_of}
use Rattle.migrate_cli.specs.RollbackDecision.{IsRollbackDecision}
use Rattle.migrate_cli.specs.ScriptsDecision.{IsScriptsDecision}
use Rattle.migrate_cli.specs.SplitDecision.{IsSplitDecision}
use Rattle.migrate_cli.proofs.ChangesLaws.{judged_order_tellable, judged_tree_tellable, one_judged_order, one_judged_tree}
use Rattle.migrate_cli.proofs.CheckLaws.{check_tellable, one_check_decision}
use Rattle.migrate_cli.proofs.DesignLaws.{design_tellable, one_design_decision}
use Rattle.migrate_cli.proofs.ExplainedLaws.{explained_tellable, one_explained_decision}
use Rattle.migrate_cli.proofs.FailuresLaws.{failures_tellable, one_failures_decision}
use Rattle.migrate_cli.proofs.PictureLaws.{one_picture_decision, picture_tellable}
use Rattle.migrate_cli.proofs.PairLaws.{one_pair_decision, one_script, pair_tellable, script_tellable}
use Rattle.migrate_cli.proofs.PlanLaws.{one_plan_decision, one_sample_decision, plan_decision_tellable, sample_tellable}
use Rattle.migrate_cli.proofs.RefuteLaws.{one_tree_decision, tree_tellable}
use Rattle.migrate_cli.proofs.ReplanLaws.{one_replan_decision, replan_tellable}
use Rattle.migrate_cli.proofs.ReplayLaws.{one_replay_decision, replay_tellable}
use Rattle.migrate_cli.proofs.RollbackLaws.{one_rollback_decision, rollback_tellable}
use Rattle.migrate_cli.proofs.ScriptsLaws.{one_scripts_decision, scripts_tellable}
use Rattle.migrate_cli.proofs.SettlingLaws.{settled_tellable, one_settled_decision}
use Rattle.migrate_cli.proofs.SplitLaws.{one_split_decision, split_tellable}
use Rattle.migrate_cli.proofs.TablesLaws.{one_tables_decision, tables_tellable}
use Rattle.migrate_cli.proofs.TwoPassLaws.{one_two_pass_decision, two_pass_tellable}

-- what is decided of one own file is decided of the other one, where they are the same list
moved : {own : List NamedText} {one other : NamedText} (P : NamedText → Type 0) → own ≡ one ∷ [] → own ≡ other ∷ [] → P other → P one
moved {one = one} {other = other} P first second holds =
    let lists : one ∷ [] ≡ other ∷ [] = sym first ∙ second in
    let same : one ≡ other = cc lists in
    subst P (sym same) holds

-- and of one redesign of the other one
pub redesigned : {others : List Network} {one other : Network} (P : Network → Type 0) → others ≡ one ∷ [] → others ≡ other ∷ [] → P other → P one
redesigned {one = one} P first second holds =
    subst P (sym (ap (λ (nets : List Network). get_or nets 0 one) (sym first ∙ second))) holds

pub one_decision : (kind : CommandKind) (input : Input) {d e : Decision} → NamesAscend input.net → IsDecision kind input d →
    IsDecision kind input e → d ≡ e
one_decision Check input {e = e} ascending one other =
    one_judged_order ascending one.2 (moved (λ file. IsCheckDecision file input.net e) one.1 other.1 other.2)
one_decision Prepare input {e = e} ascending one other =
    one_settled_decision one.0 input.net (with_settled_lines (configured input.configs input.net)) one.2
    (moved (λ file. IsPrepareDecision file (configured input.configs input.net) e) one.1 other.1 other.2)
one_decision Plan input ascending one other = one_plan_decision one other
one_decision TwoPass input ascending one other = one_two_pass_decision (λ u. refl) one other
one_decision Refute input {e = e} ascending one other =
    one_judged_tree one.2 (moved (λ file. IsRefuteDecision file.text input.net e) one.1 other.1 other.2)
one_decision Scripts input {e = e} ascending one other =
    one_scripts_decision one.0 input.net ascending one.2 (moved (λ file. IsScriptsDecision file input.net e) one.1 other.1 other.2)
one_decision Replay input {e = e} ascending one other =
    let lists : one.0 ∷ one.1 ∷ [] ≡ other.0 ∷ other.1 ∷ [] = sym one.2 ∙ other.2 in
    let order : one.0 ≡ other.0 = cc lists in
    let journal : one.1 ≡ other.1 = cc lists in
    one_replay_decision one.0 (journal_of one.1.text input.net) ascending one.3
    (subst (λ (file : NamedText). IsReplayDecision file (journal_of one.1.text input.net) e) (sym order)
    (subst (λ (file : NamedText). IsReplayDecision other.0 (journal_of file.text input.net) e) (sym journal) other.3))
one_decision Sample input ascending one other = one_sample_decision one other
one_decision Pair input {e = e} ascending one other =
    one_pair_decision (network_pair input.net one.0) (IsPlanOver (pair_move (network_pair input.net one.0)) input.number) one_plan_decision one.2
    (redesigned (λ new. IsPairPlan (network_pair input.net new) input.number e) one.1 other.1 other.2)
one_decision PairScripts input {e = e} ascending one other =
    let nets = network_pair input.net one.0 in
    one_pair_decision nets (IsScriptOfPair nets one.2) (one_script nets one.2 ascending) one.4
    (redesigned (λ new. IsPairScripts (network_pair input.net new) one.2 e) one.1 other.1
    (moved (λ file. IsPairScripts (network_pair input.net other.0) file e) one.3 other.3 other.4))
one_decision PairCheck input {e = e} ascending one other =
    let nets = network_pair input.net one.0 in
    one_pair_decision nets (IsCheckOver (pair_move nets) one.2) (one_check_decision (pair_move nets) one.2 ascending) one.4
    (redesigned (λ new. IsPairCheck (network_pair input.net new) one.2 e) one.1 other.1
    (moved (λ file. IsPairCheck (network_pair input.net other.0) file e) one.3 other.3 other.4))
one_decision PairRefute input {e = e} ascending one other =
    let nets = network_pair input.net one.0 in
    one_pair_decision nets (IsTreeDecision (pair_move nets) one.2.text) one_tree_decision one.4
    (redesigned (λ new. IsPairTree (network_pair input.net new) one.2.text e) one.1 other.1
    (moved (λ file. IsPairTree (network_pair input.net other.0) file.text e) one.3 other.3 other.4))
one_decision Split input {e = e} ascending one other =
    one_split_decision one.0 input.number input.net ascending one.2
    (moved (λ file. IsSplitDecision file input.number input.net e) one.1 other.1 other.2)
one_decision Delta input {e = e} ascending one other =
    one_settled_decision one.0 input.net (settled_lines_alone (configured input.configs input.net)) one.2
    (moved (λ file. IsDeltaDecision file (configured input.configs input.net) e) one.1 other.1 other.2)
one_decision Tables input ascending one other = one_tables_decision one other
one_decision Why input {e = e} ascending one other =
    one_explained_decision one.0 input.net ascending one.2 (moved (λ file. IsExplainedDecision file input.net e) one.1 other.1 other.2)
one_decision Rollback input {e = e} ascending one other =
    let lists : one.0 ∷ one.1 ∷ [] ≡ other.0 ∷ other.1 ∷ [] = sym one.2 ∙ other.2 in
    let order : one.0 ≡ other.0 = cc lists in
    let journal : one.1 ≡ other.1 = cc lists in
    one_rollback_decision one.0 (journal_of one.1.text input.net) ascending one.3
    (subst (λ (file : NamedText). IsRollbackDecision file (journal_of one.1.text input.net) e) (sym order)
    (subst (λ (file : NamedText). IsRollbackDecision other.0 (journal_of file.text input.net) e) (sym journal) other.3))
one_decision Replan input {e = e} ascending one other =
    let lists : one.0 ∷ one.1 ∷ [] ≡ other.0 ∷ other.1 ∷ [] = sym one.2 ∙ other.2 in
    let order : one.0 ≡ other.0 = cc lists in
    let journal : one.1 ≡ other.1 = cc lists in
    one_replan_decision one.0 (journal_of one.1.text input.net) input.number ascending one.3
    (subst (λ (file : NamedText). IsReplanDecision file (journal_of one.1.text input.net) input.number e) (sym order)
    (subst (λ (file : NamedText). IsReplanDecision other.0 (journal_of file.text input.net) input.number e) (sym journal) other.3))
one_decision Picture input {e = e} ascending one other =
    one_picture_decision one.0 input.net ascending one.2 (moved (λ file. IsPictureDecision file input.net e) one.1 other.1 other.2)
one_decision Failures input {e = e} ascending one other =
    one_failures_decision one.0 input.net ascending one.2 (moved (λ file. IsFailuresDecision file input.net e) one.1 other.1 other.2)
one_decision Design input ascending one other = one_design_decision one other
one_decision Observe input ascending one other = absurd one
one_decision Survey input ascending one other = absurd one

pub decision_tellable : (kind : CommandKind) (input : Input) (d : Decision) → IsDecision kind input d → IsTellable input.net d
decision_tellable kind input d is =
    grind (arith, common_steps, check_tellable, design_tellable, explained_tellable, failures_tellable, judged_order_tellable, judged_tree_tellable, pair_tellable, picture_tellable, plan_decision_tellable, replan_tellable, replay_tellable, rollback_tellable, sample_tellable, script_tellable, scripts_tellable, settled_tellable, split_tellable, tables_tellable, tree_tellable, two_pass_tellable)
