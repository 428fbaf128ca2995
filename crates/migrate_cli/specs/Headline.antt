-- The headline: what each status of a planning command means, in packets, over a migration (Vanbever et al., "Seamless
-- Network-Wide IGP Migrations", SIGCOMM 2011). Nothing here speaks of a search, and of loops and trees only what is said of the
-- text that is written.
use Rattle.std.specs.Prelude.{◌≡◌, ℕ, ◌*◌, ◌^◌, ◌<◌, ◌≤◌, List, length}
use Rattle.net_addr.specs.Addresses.{Block}
use Rattle.net_model.specs.RouterNames.{names_of}
use Rattle.igp_theory.specs.Forwarding.{IsTarget}
use Rattle.igp_theory.specs.LoopLaws.{AreSoundEnds}
use Rattle.igp_theory.specs.Loops.{Fault, IsFault}
use Rattle.igp_theory.specs.Migrations.{Migration}
use Rattle.igp_theory.specs.Phases.{State, all_new}
use Rattle.igp_theory.specs.States.{IsSeamless, IsSound, state_of}
use Rattle.igp_theory.specs.WaveLaws.{Delivers}
use Rattle.igp_theory.specs.Timetables.{IsStateOf, router_times}
use Rattle.igp_theory.specs.Waves.{AreSeamlessWaves}
use Rattle.order_core.specs.Orders.{IsOrder}
use Rattle.order_core.specs.Rankings.{IsRanking, flat_of, wave_count}
use Rattle.order_search.specs.Trees.{branch_count}
use Rattle.order_search.specs.declared.tree.Node.{Node}
use Rattle.wave_oracle.specs.Chains.{IsTaggedChain}
use Rattle.refutation_check.specs.TreeTexts.{tree_text}
use Rattle.refutation_check.specs.declared.verdict.Verdict.TheVariants.{Closed, Unfinished}
use Rattle.step_scripts.specs.WaveFiles.{NamesWaves}
use Rattle.step_scripts.specs.WavesTexts.{waves_text}
use Rattle.step_scripts.specs.declared.version.Version.TheVariants.{Two}
use Rattle.migration_report.specs.EndTexts.{unsound_text}
use Rattle.migration_report.specs.declared.decision.Decision.TheVariants.{SafeWaves, Tree}
use Rattle.migration_report.specs.declared.ends.End.TheVariants.{Old, New}
use Rattle.migration_report.specs.declared.status.Status.{Status}
use Rattle.migration_report.specs.declared.status.Status.TheVariants.{Done, Negative, Unsound, Spent}
use Rattle.migrate_cli.specs.CheckDecision.{IsCheckOver}
use Rattle.migrate_cli.specs.Reading.{named_text}
use Rattle.migrate_cli.specs.RefuteDecision.{IsTreeDecision}

-- ---- packets ----

-- a state delivers: each packet, from every router to every address with a target, reaches an originator of that target,
-- whichever of the equal-cost hops it takes at each router
abbrev pub DeliversAll : Migration → State → Type 0
DeliversAll move state = (a : ℕ) (p : Block) → a < 2 ^ 32 → IsTarget move.net a p → Delivers move state a p

-- a wave list delivers throughout: in each of its states, those after every prefix of every interleaving of the changes within
-- each wave, one wave after the other and the two changes of a router in their order
abbrev pub WavesDeliver : Migration → List ℕ → Type 0
WavesDeliver move ranks =
    (state : State) → IsStateOf (length move.net) move.start (router_times move.start ranks) state → DeliversAll move state

-- an order delivers throughout: after every prefix of its changes
abbrev pub OrderDelivers : Migration → List ℕ → Type 0
OrderDelivers move order = (k : ℕ) → k ≤ 2 * length order → DeliversAll move (state_of order k)

-- no wave list of the network delivers throughout, and no order does: some state of each isn't sound
pub record NoneDelivers (move : Migration) : Type 0 where
  pub no_waves_deliver : (ranks : List ℕ) → IsRanking (length move.net) ranks → ¬ WavesDeliver move ranks
  pub no_waves_sound : (ranks : List ℕ) → ¬ AreSeamlessWaves move ranks
  pub no_order_delivers : (order : List ℕ) → IsOrder (length move.net) order → ¬ OrderDelivers move order
  pub no_order_sound : (order : List ℕ) → ¬ IsSeamless move order

-- ---- what the text of each status says ----

-- a text names a wave list of the network that delivers throughout, and so does the order that writes it wave by wave: each
-- state of either is sound. `check`, or `paircheck`, of it says that it is safe. Its last line is a chain, one router of each wave: each two
-- neighbors are tagged Old and New in one loop of the network
pub record NamesSafeWaves (move : Migration) (text : List ℕ) : Type 0 where
  pub ranks : List ℕ
  pub names : NamesWaves move.net text Two ranks
  pub deliver : WavesDeliver move ranks
  pub sound : AreSeamlessWaves move ranks
  pub order_delivers : OrderDelivers move (flat_of ranks)
  pub order_sound : IsSeamless move (flat_of ranks)
  pub checks : (file : List ℕ) → IsCheckOver move (named_text file text) (SafeWaves (wave_count ranks))
  pub chain : List ℕ
  pub chain_written : text ≡ waves_text (names_of move.net) ranks chain
  pub chain_tagged : IsTaggedChain move chain

-- no wave list and no order delivers throughout, and the text shows it: `refute`, or `pairrefute`, of it says that it is a closed tree
pub record ShowsThereIsNone (move : Migration) (text : List ℕ) : Type 0 where
  pub none : NoneDelivers move
  pub branches : ℕ
  pub leaves : ℕ
  pub refutes : IsTreeDecision move text (Tree (Closed branches leaves))

-- the text tells the fault of the first end that isn't sound: of the state in which the migration starts, or where that is sound
-- of the one in which every router is New
pub data TellsUnsoundEnd (move : Migration) : List ℕ → Type 0 where
  unsound_old : (fault : Fault) → ¬ IsSound move move.start → IsFault move move.start fault →
      TellsUnsoundEnd move (unsound_text Old (names_of move.net) fault)
  unsound_new : (fault : Fault) → IsSound move move.start → ¬ IsSound move all_new → IsFault move all_new fault →
      TellsUnsoundEnd move (unsound_text New (names_of move.net) fault)

-- both ends are states of every wave list and of every order, so none delivers throughout
pub record ShowsUnsoundEnd (move : Migration) (text : List ℕ) : Type 0 where
  pub tells : TellsUnsoundEnd move text
  pub none : NoneDelivers move

-- the text is a tree of exactly so many branches with an open place, of which `refute` says that it is open
pub record ShowsOpenTree (move : Migration) (budget : ℕ) (text : List ℕ) : Type 0 where
  pub nodes : List Node
  pub text_is : text ≡ tree_text (names_of move.net) nodes
  pub spent : branch_count nodes ≡ budget
  pub unvisited : ℕ
  pub some : 0 < unvisited
  pub refutes : IsTreeDecision move text (Tree (Unfinished unvisited))

-- how a plan ends: between sound ends with waves, with a refutation or with its budget spent, and without them it says so
pub data Plans (move : Migration) : Status → Type 0 where
  waves : AreSoundEnds move → Plans move Done
  refutation : AreSoundEnds move → Plans move Negative
  budget_spent : AreSoundEnds move → Plans move Spent
  unsound_end : ¬ AreSoundEnds move → Plans move Unsound

-- what each status of a planning command means that wrote this text of a migration, with this budget of branches
pub record Headline (move : Migration) (budget : ℕ) (status : Status) (text : List ℕ) : Type 0 where
  -- it ends with 0, 1, 7 or 8: with 7 exactly where an end isn't sound
  pub ends : Plans move status
  -- 0: the text names waves in whose every state each packet reaches an originator
  pub safe_waves : status ≡ Done → NamesSafeWaves move text
  -- 1: no waves and no order are like that, and the text shows it
  pub no_waves : status ≡ Negative → ShowsThereIsNone move text
  -- 7: the text tells what is wrong before the first change or after the last one, so no waves and no order are like that
  pub no_ends : status ≡ Unsound → ShowsUnsoundEnd move text
  -- 8: the budget of branches was spent, and the text shows what is open
  pub no_more : status ≡ Spent → ShowsOpenTree move budget text
