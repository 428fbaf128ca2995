-- The headline of the rest of a migration: what each status of a plan from the state in which it was stopped means, in packets
-- (Vanbever et al., "Seamless Network-Wide IGP Migrations", SIGCOMM 2011, from another state than the first one).
use Rattle.std.specs.Prelude.{◌≡◌, ℕ, ◌<◌, List, IsTrue, length}
use Rattle.net_model.specs.RouterNames.{names_of}
use Rattle.igp_theory.specs.Changes.{Change}
use Rattle.igp_theory.specs.Loops.{Fault, IsFault}
use Rattle.igp_theory.specs.Migrations.{Migration, started}
use Rattle.igp_theory.specs.Phases.{all_new, state_in}
use Rattle.igp_theory.specs.States.{IsSound}
use Rattle.igp_theory.specs.Waves.{AreSeamlessWaves}
use Rattle.igp_theory.specs.declared.phase.Phase.{Phase}
use Rattle.live_replan.specs.RestLaws.{AreRestWaves}
use Rattle.live_replan.specs.RestTexts.{has_rest, rest_text}
use Rattle.order_core.specs.Rankings.{IsRanking}
use Rattle.order_search.specs.Trees.{branch_count}
use Rattle.order_search.specs.declared.tree.Node.{Node}
use Rattle.plan_theory.specs.Laws.{IsSoundAlong}
use Rattle.plan_theory.specs.Ranked.{IsAlongOrder}
use Rattle.refutation_check.specs.TreeTexts.{rest_tree_text}
use Rattle.refutation_check.specs.declared.verdict.Verdict.TheVariants.{Closed, Unfinished}
use Rattle.wave_oracle.specs.Chains.{IsTaggedChain}
use Rattle.migration_report.specs.EndTexts.{unsound_text}
use Rattle.migration_report.specs.declared.decision.Decision.TheVariants.{Tree}
use Rattle.migration_report.specs.declared.ends.End.TheVariants.{New, Start}
use Rattle.migration_report.specs.declared.status.Status.{Status}
use Rattle.migration_report.specs.declared.status.Status.TheVariants.{Done, Negative, Unsound, Spent}
use Rattle.migrate_cli.specs.ChangesHeadline.{RunDelivers}
use Rattle.migrate_cli.specs.Headline.{Plans, WavesDeliver}
use Rattle.migrate_cli.specs.RestDecision.{IsRestTree}

-- a migration that goes on from the state that gives each router the phase at its place
abbrev pub going_on : List Phase → Migration → Migration
going_on start move = started (state_in start) move

-- ---- packets ----

-- no wave list of what is left delivers throughout, and no list of the changes that are left does, each router's first before its
-- second and its two next to each other where both are left: some state of each isn't sound
pub record NoRestDelivers (move : Migration) : Type 0 where
  pub no_waves_deliver : (ranks : List ℕ) → IsRanking (length move.net) ranks → ¬ WavesDeliver move ranks
  pub no_waves_sound : (ranks : List ℕ) → ¬ AreSeamlessWaves move ranks
  pub no_list_delivers : (run : List Change) → IsAlongOrder (length move.net) move.start run → ¬ RunDelivers move run
  pub no_list_sound : (run : List Change) → IsAlongOrder (length move.net) move.start run → ¬ IsSoundAlong move run

-- ---- what the text of each status says ----

-- a text has the waves of what is left, which deliver throughout: after every prefix of every run of the changes that are left each
-- state is sound. Each router with something left to do is named in one wave, and none that is New. Its last line is a chain, one
-- router of each wave; each two neighbors are tagged Old and New in one loop, of the start and the last state
pub record HasSafeRest (move : Migration) (start : List Phase) (text : List ℕ) : Type 0 where
  pub ranks : List ℕ
  pub chain : List ℕ
  pub text_is : text ≡ rest_text (names_of move.net) start ranks chain
  pub named : (u : ℕ) → u < length move.net → IsTrue (has_rest start u) → AreRestWaves start ranks chain
  pub deliver : WavesDeliver (going_on start move) ranks
  pub sound : AreSeamlessWaves (going_on start move) ranks
  pub chain_tagged : IsTaggedChain (going_on start move) chain

-- no list of what is left delivers throughout, and the text shows it: `refute` of it says that it is a closed tree
pub record ShowsNoRest (move : Migration) (start : List Phase) (text : List ℕ) : Type 0 where
  pub none : NoRestDelivers (going_on start move)
  pub branches : ℕ
  pub leaves : ℕ
  pub refutes : IsRestTree move text (Tree (Closed branches leaves))

-- the text tells the fault of the first end that isn't sound: of the start, or where that is sound of the state in which every router
-- is New
pub data TellsUnsoundRest (move : Migration) (start : List Phase) : List ℕ → Type 0 where
  unsound_start : (fault : Fault) → ¬ IsSound move (state_in start) → IsFault move (state_in start) fault →
      TellsUnsoundRest move start (unsound_text Start (names_of move.net) fault)
  unsound_last : (fault : Fault) → IsSound move (state_in start) → ¬ IsSound move all_new → IsFault move all_new fault →
      TellsUnsoundRest move start (unsound_text New (names_of move.net) fault)

-- both ends are states of every list of what is left, so none delivers throughout
pub record ShowsUnsoundRest (move : Migration) (start : List Phase) (text : List ℕ) : Type 0 where
  pub tells : TellsUnsoundRest (going_on start move) start text
  pub none : NoRestDelivers (going_on start move)

-- the text is a tree of exactly so many branches with an open place, of which `refute` says that it is open
pub record ShowsOpenRest (move : Migration) (start : List Phase) (budget : ℕ) (text : List ℕ) : Type 0 where
  pub nodes : List Node
  pub text_is : text ≡ rest_tree_text (names_of move.net) start nodes
  pub spent : branch_count nodes ≡ budget
  pub unvisited : ℕ
  pub some : 0 < unvisited
  pub refutes : IsRestTree move text (Tree (Unfinished unvisited))

-- what each status of a plan of the rest means that wrote this text of a migration from this start, with this budget of branches
pub record RestHeadline (move : Migration) (start : List Phase) (budget : ℕ) (status : Status) (text : List ℕ) : Type 0 where
  -- it ends with 0, 1, 7 or 8: with 7 exactly where the start or the last state isn't sound
  pub ends : Plans (going_on start move) status
  -- 0: the text has waves in whose every state each packet reaches an originator
  pub safe_rest : status ≡ Done → HasSafeRest move start text
  -- 1: no list of what is left is like that, and the text shows it
  pub no_rest : status ≡ Negative → ShowsNoRest move start text
  -- 7: the text tells what is wrong at the start or after the last change, so no list is like that
  pub no_ends : status ≡ Unsound → ShowsUnsoundRest move start text
  -- 8: the budget of branches was spent, and the text shows what is open
  pub no_more : status ≡ Spent → ShowsOpenRest move start budget text
