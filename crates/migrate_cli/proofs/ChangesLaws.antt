-- One thing is decided of a file of single changes; and of any order file by `check`, and of any tree file by `refute`.
use Rattle.std.proofs.lemmas.Grind.{common_steps}
use Rattle.std.proofs.Common.{◌≡◌, ℕ, List, [], ◌∷◌, Some, length, get_or, arith, refl, sym, ap, ◌∙◌, subst}
use Rattle.std.specs.Prelude.{slice_get}
use Rattle.net_addr.specs.Lines.{line_texts}
use Rattle.net_model.specs.Network.{Network}
use Rattle.net_model.specs.Refusals.{NamesAscend}
use Rattle.igp_theory.specs.LoopLaws.{BeginsOld}
use Rattle.igp_theory.specs.Migrations.{Migration, ospf_to_isis}
use Rattle.igp_theory.specs.Timetables.{IsStateOfWave, change_times}
use Rattle.igp_theory.proofs.WaveFaultLaws.{times_fault_unique}
use Rattle.plan_theory.specs.declared.items.Items.TheVariants.{Changes}
use Rattle.plan_theory.proofs.OnePlan.{told_once}
use Rattle.refutation_check.specs.TreeLines.{rest_tree_header, tree_header, two_tree_header}
use Rattle.refutation_check.specs.declared.verdict.Verdict.{Verdict}
use Rattle.refutation_check.proofs.OneVerdict.{one_headed}
use Rattle.step_scripts.specs.WaveFiles.{NamesWaves}
use Rattle.step_scripts.specs.WaveLines.{header_of}
use Rattle.step_scripts.specs.declared.version.Version.{Version}
use Rattle.step_scripts.proofs.LeastFaults.{first_header}
use Rattle.change_orders.specs.TwoFaults.{IsLeastTwoFault, two_header}
use Rattle.change_orders.specs.TwoFiles.{NamesTwo}
use Rattle.change_orders.specs.TwoTexts.{two_refusal_text}
use Rattle.change_orders.specs.declared.kind.TwoKind.{TwoKind}
use Rattle.change_orders.specs.declared.kind.TwoRefusal.{TwoRefusal}
use Rattle.change_orders.specs.declared.kind.TwoRefusal.TheVariants.{Bad, OutOfMemory}
use Rattle.change_orders.proofs.TwoFileLaws.{one_list, one_refusal}
use Rattle.migration_report.specs.Outcomes.{IsTellable}
use Rattle.migration_report.specs.declared.decision.Decision.{Decision}
use Rattle.migration_report.specs.declared.decision.Decision.TheVariants.{UnsafeWave, BadChanges, Tree}
use Rattle.migrate_cli.specs.ChangesDecision.{IsChangesCheck, IsChangesDecision, IsChangesTree}
use Rattle.migrate_cli.specs.ChangesDecision.IsChangesCheck.{faulty_changes, named_changes}
use Rattle.migrate_cli.specs.ChangesDecision.IsChangesDecision.{safe_changes, unsafe_changes}
use Rattle.migrate_cli.specs.ChangesDecision.IsChangesTree.{judged_changes}
use Rattle.migrate_cli.specs.CheckDecision.{IsCheckDecision}
use Rattle.migrate_cli.specs.CheckDecision.IsCheckDecision.{by_routers, by_changes}
use Rattle.migrate_cli.specs.FirstLines.{BeginsWith}
use Rattle.migrate_cli.specs.Reading.{NamedText}
use Rattle.migrate_cli.specs.RefuteDecision.{HasOtherHeader, IsRefuteDecision}
use Rattle.migrate_cli.specs.RefuteDecision.IsRefuteDecision.{by_routers as tree_of_routers, by_changes as tree_of_changes, by_rest as tree_of_rest}
use Rattle.migrate_cli.proofs.CheckLaws.{check_tellable, one_check_decision}
use Rattle.migrate_cli.proofs.FaultFacts.{fault_over_below}
use Rattle.migrate_cli.proofs.RefuteLaws.{one_tree_decision, tree_tellable}
use Rattle.migrate_cli.proofs.RestTreeLaws.{one_rest_tree, rest_tree_tellable}

-- ---- first lines ----

-- a text begins with the first of its lines
pub begins_with_first : (text first : List ℕ) (rest : List (List ℕ)) → line_texts text ≡ first ∷ rest → BeginsWith first text
begins_with_first text first rest lines = ap (λ (all : List (List ℕ)). slice_get all 0) lines

-- and with no other one
pub begins_with_one : (text first other : List ℕ) → BeginsWith first text → BeginsWith other text → first ≡ other
begins_with_one text first other one also = let same : Some first ≡ Some other = sym one ∙ also in cc same

other_headers : (version : Version) → header_of version ≡ two_header → ⊥
other_headers version same = grind (arith, common_steps)

-- a file of routers is none of single changes
pub names_no_changes : (net : Network) (text : List ℕ) (version : Version) (ranks : List ℕ) → NamesWaves net text version ranks →
    ¬ BeginsWith two_header text
names_no_changes net text version ranks names begins = grind (arith, common_steps, begins_with_one, first_header, other_headers)

pub names_changes : (net : Network) (text ranks : List ℕ) → NamesTwo net text ranks → BeginsWith two_header text
names_changes net text ranks names = begins_with_first text two_header names.entries names.lines

-- the headers of trees are others
tree_not_two : tree_header ≡ two_tree_header → ⊥
tree_not_two same = let last : 49 ≡ 50 = ap (λ (bytes : List ℕ). get_or bytes 5 0) same in omega (arith, last)

tree_not_rest : tree_header ≡ rest_tree_header → ⊥
tree_not_rest same = let last : 49 ≡ 51 = ap (λ (bytes : List ℕ). get_or bytes 5 0) same in omega (arith, last)

two_not_rest : two_tree_header ≡ rest_tree_header → ⊥
two_not_rest same = let last : 50 ≡ 51 = ap (λ (bytes : List ℕ). get_or bytes 5 0) same in omega (arith, last)

pub tree_of_no_other : (text : List ℕ) (rest : List (List ℕ)) → line_texts text ≡ tree_header ∷ rest → HasOtherHeader text
tree_of_no_other text rest lines = grind (arith, common_steps, begins_with_first, begins_with_one, tree_not_rest, tree_not_two)

-- ---- order files ----

pub one_changes_decision : {move : Migration} {ranks : List ℕ} {d e : Decision} → IsChangesDecision move ranks d → IsChangesDecision move ranks e → d ≡ e
one_changes_decision (safe_changes _) (safe_changes _) = refl
one_changes_decision (safe_changes sound) (unsafe_changes _ _ not _) = absurd (not sound)
one_changes_decision (unsafe_changes _ _ not _) (safe_changes sound) = absurd (not sound)
one_changes_decision (unsafe_changes _ fault _ first) (unsafe_changes _ other _ again) =
    let same = times_fault_unique first again in
    let told : fault ≡ other = told_once fault other same.1 in
    λ i. UnsafeWave (same.0 i) (told i)

-- the line that tells a refusal
abbrev told_line : List ℕ → TwoRefusal → List ℕ
told_line file (Bad number kind) = two_refusal_text file number kind
told_line file OutOfMemory = []

pub one_faulty_changes : (net : Network) (order : NamedText) (n m : ℕ) (k j : TwoKind) → IsLeastTwoFault net order.text n k →
    IsLeastTwoFault net order.text m j → BadChanges (two_refusal_text order.file n k) ≡ BadChanges (two_refusal_text order.file m j)
one_faulty_changes net order n m k j one other =
    let same : Bad n k ≡ Bad m j = one_refusal net order.text (Bad n k) (Bad m j) (λ e. Prim.cc e) (λ e. Prim.cc e) one other in
    ap (λ (r : TwoRefusal). BadChanges (told_line order.file r)) same

one_changes_check : {move : Migration} {order : NamedText} {d e : Decision} → NamesAscend move.net → IsChangesCheck move order d →
    IsChangesCheck move order e → d ≡ e
one_changes_check {move} {order} ascending (faulty_changes n k one) (faulty_changes m j other) =
    one_faulty_changes move.net order n m k j one other
one_changes_check ascending (faulty_changes n k least) (named_changes _ _ names _ _) = absurd (names.faultless n k least.faulty)
one_changes_check ascending (named_changes _ _ names _ _) (faulty_changes n k least) = absurd (names.faultless n k least.faulty)
one_changes_check {move} {order} {e = e} ascending (named_changes one _ names _ is) (named_changes other _ again _ its) =
    let same : one ≡ other = one_list move.net order.text one other ascending names again in
    one_changes_decision is (subst (λ (ranks : List ℕ). IsChangesDecision move ranks e) (sym same) its)

-- `check` decides one thing of an order file
pub one_judged_order : {order : NamedText} {net : Network} {d e : Decision} → NamesAscend net → IsCheckDecision order net d →
    IsCheckDecision order net e → d ≡ e
one_judged_order {order} {net} ascending (by_routers _ _ is) (by_routers _ _ its) = one_check_decision (ospf_to_isis net) order ascending is its
one_judged_order ascending (by_routers _ not _) (by_changes _ begins _) = absurd (not begins)
one_judged_order ascending (by_changes _ begins _) (by_routers _ not _) = absurd (not begins)
one_judged_order ascending (by_changes _ _ is) (by_changes _ _ its) = one_changes_check ascending is its

decision_below : {move : Migration} {ranks : List ℕ} {d : Decision} → IsChangesDecision move ranks d → IsTellable move.net d
decision_below (safe_changes _) = tt
decision_below {move} {ranks} (unsafe_changes wave fault _ first) =
    fault_over_below move (IsStateOfWave (length move.net) (change_times ranks) wave) fault first.here

changes_tellable : {move : Migration} {order : NamedText} {d : Decision} → IsChangesCheck move order d → IsTellable move.net d
changes_tellable (faulty_changes _ _ _) = tt
changes_tellable (named_changes _ _ _ _ is) = decision_below is

pub judged_order_tellable : {order : NamedText} {net : Network} {d : Decision} → IsCheckDecision order net d → IsTellable net d
judged_order_tellable (by_routers _ _ is) = check_tellable is
judged_order_tellable (by_changes _ _ is) = changes_tellable is

-- ---- tree files ----

-- a text has one verdict as a tree of single changes
pub one_changes_tree : {move : Migration} {tree : List ℕ} {d e : Decision} → BeginsOld move → IsChangesTree move tree d → IsChangesTree move tree e →
    d ≡ e
one_changes_tree {move} {tree} begins (judged_changes one network is _) (judged_changes other _ its _) =
    ap (λ (v : Verdict). Tree v) (one_headed Changes move begins network two_tree_header tree one other is its)

-- `refute` decides one thing of a tree file
pub one_judged_tree : {tree : List ℕ} {net : Network} {d e : Decision} → IsRefuteDecision tree net d → IsRefuteDecision tree net e → d ≡ e
one_judged_tree (tree_of_routers _ _ is) (tree_of_routers _ _ its) = one_tree_decision is its
one_judged_tree (tree_of_routers _ other _) (tree_of_changes _ begins _) = absurd (other.no_changes begins)
one_judged_tree (tree_of_routers _ other _) (tree_of_rest _ begins _) = absurd (other.no_start begins)
one_judged_tree (tree_of_changes _ begins _) (tree_of_routers _ other _) = absurd (other.no_changes begins)
one_judged_tree (tree_of_changes _ _ is) (tree_of_changes _ _ its) = one_changes_tree (λ u. refl) is its
one_judged_tree {tree} (tree_of_changes _ one _) (tree_of_rest _ other _) =
    absurd (two_not_rest (begins_with_one tree two_tree_header rest_tree_header one other))
one_judged_tree (tree_of_rest _ begins _) (tree_of_routers _ other _) = absurd (other.no_start begins)
one_judged_tree {tree} (tree_of_rest _ one _) (tree_of_changes _ other _) =
    absurd (two_not_rest (begins_with_one tree two_tree_header rest_tree_header other one))
one_judged_tree (tree_of_rest _ _ is) (tree_of_rest _ _ its) = one_rest_tree is its

changes_tree_tellable : {move : Migration} {tree : List ℕ} {d : Decision} → IsChangesTree move tree d → IsTellable move.net d
changes_tree_tellable (judged_changes _ _ _ _) = tt

pub judged_tree_tellable : {tree : List ℕ} {net : Network} {d : Decision} → IsRefuteDecision tree net d → IsTellable net d
judged_tree_tellable (tree_of_routers _ _ is) = tree_tellable is
judged_tree_tellable (tree_of_changes _ _ is) = changes_tree_tellable is
judged_tree_tellable (tree_of_rest _ _ is) = rest_tree_tellable is
