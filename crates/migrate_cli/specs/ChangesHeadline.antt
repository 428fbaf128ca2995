-- The headline of single changes: what each status of `twopass` means, in packets, over a migration (Vanbever et al., "Seamless
-- Network-Wide IGP Migrations", SIGCOMM 2011, on the two changes of a router).
use Rattle.std.specs.Prelude.{◌≡◌, ℕ, ◌<◌, List, length, take}
use Rattle.net_model.specs.RouterNames.{names_of}
use Rattle.igp_theory.specs.Changes.{Change}
use Rattle.igp_theory.specs.Migrations.{Migration}
use Rattle.igp_theory.specs.Phases.{State}
use Rattle.igp_theory.specs.Timetables.{IsSoundThroughout, IsStateOf, change_times, state_after}
use Rattle.order_core.specs.Rankings.{wave_count}
use Rattle.order_search.specs.Trees.{branch_count}
use Rattle.order_search.specs.declared.tree.Node.{Node}
use Rattle.plan_theory.specs.Laws.{IsSoundAlong}
use Rattle.plan_theory.specs.Ranked.{ListsAllChanges}
use Rattle.wave_oracle.specs.Chains.{IsChangeChain}
use Rattle.refutation_check.specs.TreeTexts.{two_tree_text}
use Rattle.refutation_check.specs.declared.verdict.Verdict.TheVariants.{Closed, Unfinished}
use Rattle.change_orders.specs.TwoFiles.{AreTwoWaves, NamesTwo}
use Rattle.change_orders.specs.TwoTexts.{two_text}
use Rattle.migration_report.specs.declared.decision.Decision.TheVariants.{SafeWaves, Tree}
use Rattle.migration_report.specs.declared.status.Status.{Status}
use Rattle.migration_report.specs.declared.status.Status.TheVariants.{Done, Negative, Unsound, Spent}
use Rattle.migrate_cli.specs.ChangesDecision.{IsChangesCheck, IsChangesTree}
use Rattle.migrate_cli.specs.Headline.{DeliversAll, Plans, TellsUnsoundEnd}
use Rattle.migrate_cli.specs.Reading.{named_text}

-- ---- packets ----

-- a wave list of single changes delivers throughout: in each of its states, those after every prefix of every interleaving of the
-- changes within each wave, one wave after the other
abbrev pub ChangesDeliver : Migration → List ℕ → Type 0
ChangesDeliver move ranks = (state : State) → IsStateOf (length move.net) move.start (change_times ranks) state → DeliversAll move state

-- a list of changes delivers throughout: after every prefix of it
abbrev pub RunDelivers : Migration → List Change → Type 0
RunDelivers move run = (k : ℕ) → DeliversAll move (state_after move.start (take k run))

-- no wave list of single changes, each router's first before its second, delivers throughout, and no list of all changes does, each
-- router's first before its second: some state of each isn't sound
pub record NoChangesDeliver (move : Migration) : Type 0 where
  pub no_waves_deliver : (ranks : List ℕ) → AreTwoWaves (length move.net) ranks → ¬ ChangesDeliver move ranks
  pub no_waves_sound : (ranks : List ℕ) → AreTwoWaves (length move.net) ranks → ¬ IsSoundThroughout move (change_times ranks)
  pub no_list_delivers : (run : List Change) → ListsAllChanges (length move.net) run → ¬ RunDelivers move run
  pub no_list_sound : (run : List Change) → ListsAllChanges (length move.net) run → ¬ IsSoundAlong move run

-- ---- what the text of each status says ----

-- a text names a wave list of single changes, each router's first in an earlier wave than its second, that delivers throughout: each
-- state of it is sound. `check` of it says that it is safe. Its last line is a chain, one change of each wave: each two neighbors are
-- the first and the second change of one router, or a loop shows that the one comes before the other
pub record NamesSafeChanges (move : Migration) (text : List ℕ) : Type 0 where
  pub ranks : List ℕ
  pub names : NamesTwo move.net text ranks
  pub in_turn : AreTwoWaves (length move.net) ranks
  pub deliver : ChangesDeliver move ranks
  pub sound : IsSoundThroughout move (change_times ranks)
  pub checks : (file : List ℕ) → IsChangesCheck move (named_text file text) (SafeWaves (wave_count ranks))
  pub chain : List ℕ
  pub chain_written : text ≡ two_text (names_of move.net) ranks chain
  pub chain_told : IsChangeChain move chain

-- no list of the changes delivers throughout, and the text shows it: `refute` of it says that it is a closed tree
pub record ShowsNoChanges (move : Migration) (text : List ℕ) : Type 0 where
  pub none : NoChangesDeliver move
  pub branches : ℕ
  pub leaves : ℕ
  pub refutes : IsChangesTree move text (Tree (Closed branches leaves))

-- both ends are states of every list of all changes, so none delivers throughout
pub record ShowsUnsoundEndOfChanges (move : Migration) (text : List ℕ) : Type 0 where
  pub tells : TellsUnsoundEnd move text
  pub none : NoChangesDeliver move

-- the text is a tree of exactly so many branches with an open place, of which `refute` says that it is open
pub record ShowsOpenChanges (move : Migration) (budget : ℕ) (text : List ℕ) : Type 0 where
  pub nodes : List Node
  pub text_is : text ≡ two_tree_text (names_of move.net) nodes
  pub spent : branch_count nodes ≡ budget
  pub unvisited : ℕ
  pub some : 0 < unvisited
  pub refutes : IsChangesTree move text (Tree (Unfinished unvisited))

-- what each status of a plan of single changes means that wrote this text of a migration, with this budget of branches
pub record ChangesHeadline (move : Migration) (budget : ℕ) (status : Status) (text : List ℕ) : Type 0 where
  -- it ends with 0, 1, 7 or 8: with 7 exactly where an end isn't sound
  pub ends : Plans move status
  -- 0: the text names waves of changes in whose every state each packet reaches an originator
  pub safe_changes : status ≡ Done → NamesSafeChanges move text
  -- 1: no list of all changes is like that, and the text shows it
  pub no_changes : status ≡ Negative → ShowsNoChanges move text
  -- 7: the text tells what is wrong before the first change or after the last one, so no list is like that
  pub no_ends : status ≡ Unsound → ShowsUnsoundEndOfChanges move text
  -- 8: the budget of branches was spent, and the text shows what is open
  pub no_more : status ≡ Spent → ShowsOpenChanges move budget text
