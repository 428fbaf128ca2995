-- What calls of `check` promise of files of single changes, and calls of `refute` of trees.
use Rattle.std.specs.Prelude.{◌≡◌, ℕ, List, [], ◌∷◌, length}
use Rattle.net_model.specs.Network.{Network}
use Rattle.igp_theory.specs.Migrations.{Migration, ospf_to_isis}
use Rattle.igp_theory.specs.Timetables.{IsSoundThroughout, change_times}
use Rattle.plan_theory.specs.Laws.{HasNoneSound}
use Rattle.plan_theory.specs.declared.items.Items.TheVariants.{Changes}
use Rattle.refutation_check.specs.RestVerdicts.{IsRestVerdict, LeavesNoRest}
use Rattle.refutation_check.specs.TreeLines.{rest_tree_header, two_tree_header}
use Rattle.refutation_check.specs.Verdicts.{IsTwoVerdict, StandsBehind}
use Rattle.refutation_check.specs.declared.verdict.Verdict.TheVariants.{Closed}
use Rattle.change_orders.specs.TwoFiles.{AreTwoWaves, NamesTwo}
use Rattle.migrate_words.specs.declared.command.CommandKind.TheVariants.{Check}
use Rattle.migration_report.specs.declared.status.Status.{Status}
use Rattle.migration_report.specs.declared.status.Status.TheVariants.{Done, Negative, Memory}
use Rattle.migrate_cli.specs.Calls.{Call, Outside}
use Rattle.migrate_cli.specs.CommandFiles.{command_of, own_texts}
use Rattle.migrate_cli.specs.Completeness.{AcceptsRefute, DecidesTree, IsAccepted, NoFaultRose}
use Rattle.migrate_cli.specs.FirstLines.{BeginsWith}
use Rattle.migrate_cli.specs.RefuteDecision.{HasOtherHeader}

-- `check` of these files, whose order file names a wave list of single changes
pub record AcceptsChanges (call : Call) : Type 0 where
  pub file : List ℕ
  pub configs : List (List ℕ)
  pub texts : List (List ℕ)
  pub net : Network
  pub accepted : IsAccepted call (command_of Check (file ∷ []) configs 0) texts net []
  pub text : List ℕ
  pub text_is : own_texts (command_of Check (file ∷ []) configs 0) texts ≡ text ∷ []
  pub ranks : List ℕ
  pub names : NamesTwo net text ranks

-- it ends with yes where every state of every run of the wave list is sound, with no where some isn't, each router's first change
-- standing in an earlier wave than its second, or for want of memory
pub data DecidesChanges (move : Migration) (ranks : List ℕ) : Status → Type 0 where
  all_sound : IsSoundThroughout move (change_times ranks) → DecidesChanges move ranks Done
  some_unsound : AreTwoWaves (length move.net) ranks → ¬ IsSoundThroughout move (change_times ranks) → DecidesChanges move ranks Negative
  no_memory : DecidesChanges move ranks Memory

-- where nothing of the input of `check` is refused and no fault rises, it decides
abbrev pub ChangesCheckDecides : Call → Outside → Outside → Status → Type 0
ChangesCheckDecides call before after result =
    (accepts : AcceptsChanges call) → NoFaultRose before after → DecidesChanges (ospf_to_isis accepts.net) accepts.ranks result

-- a command that decides on a tree of single changes ends with yes where the tree is closed, and then no list of all changes, each
-- router's first before its second, has only sound states; with no where the text is no closed tree
pub data DecidesChangesTree (move : Migration) (tree : List ℕ) : Status → Type 0 where
  closed_changes : (branches leaves : ℕ) → IsTwoVerdict move tree (Closed branches leaves) → HasNoneSound Changes move →
      DecidesChangesTree move tree Done
  no_closed_changes : ((branches leaves : ℕ) → ¬ IsTwoVerdict move tree (Closed branches leaves)) → DecidesChangesTree move tree Negative

-- a command that decides on a tree from a start ends with yes where the tree is closed, and then no list of the changes that are left
-- at this start, each router's first before its second and its two next to each other where both are left, has only sound states,
-- whatever the start is; with no where the text is no closed tree
pub data DecidesRestTree (move : Migration) (tree : List ℕ) : Status → Type 0 where
  closed_rest : (branches leaves : ℕ) → IsRestVerdict move tree (Closed branches leaves) →
      StandsBehind (rest_tree_header ∷ []) tree (LeavesNoRest move) → DecidesRestTree move tree Done
  no_closed_rest : ((branches leaves : ℕ) → ¬ IsRestVerdict move tree (Closed branches leaves)) → DecidesRestTree move tree Negative

-- `refute` decides on its tree, of routers or, where its first line says so, of single changes or from a start; or there is no memory
pub data DecidesRefutation (net : Network) (tree : List ℕ) : Status → Type 0 where
  of_routers : {status : Status} → HasOtherHeader tree → DecidesTree (ospf_to_isis net) tree status → DecidesRefutation net tree status
  of_changes : {status : Status} → BeginsWith two_tree_header tree → DecidesChangesTree (ospf_to_isis net) tree status →
      DecidesRefutation net tree status
  of_rest : {status : Status} → BeginsWith rest_tree_header tree → DecidesRestTree (ospf_to_isis net) tree status →
      DecidesRefutation net tree status
  unjudged : DecidesRefutation net tree Memory

abbrev pub RefuteDecides : Call → Outside → Outside → Status → Type 0
RefuteDecides call before after result =
    (accepts : AcceptsRefute call) → NoFaultRose before after → DecidesRefutation accepts.net accepts.tree result
