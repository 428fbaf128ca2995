-- What the text of a plan reads back as, by the definitions of order files and of tree files.
use Rattle.std.specs.Prelude.{◌≡◌, ℕ, ◌<◌, List, length}
use Rattle.net_model.specs.Refusals.{IsNetwork}
use Rattle.net_model.specs.RouterNames.{names_of}
use Rattle.igp_theory.specs.Migrations.{Migration}
use Rattle.igp_theory.specs.Waves.{AreSeamlessWaves}
use Rattle.order_search.specs.Answers.{FoundWaves, AreFoundWaves, IsFound}
use Rattle.order_search.specs.Trees.{branch_count}
use Rattle.order_search.specs.declared.found.Found.{Found}
use Rattle.order_search.specs.declared.found.Found.TheVariants.{Waves, Refuted, Spent}
use Rattle.igp_theory.specs.Timetables.{IsSoundThroughout, change_times}
use Rattle.plan_theory.specs.Ranked.{CanRank}
use Rattle.plan_theory.specs.WavesMeaning.{changes_meaning, night_meaning, waves_meaning}
use Rattle.plan_theory.specs.declared.items.Items.{Items}
use Rattle.plan_theory.specs.declared.items.Items.TheVariants.{Routers, Changes}
use Rattle.wave_oracle.specs.Chains.{IsChangeChain, IsTaggedChain}
use Rattle.wave_oracle.specs.PlannedTexts.{IsPrintable, planned_text}
use Rattle.refutation_check.specs.Verdicts.{IsHeadedVerdict, leaf_count, open_count, tree_header_of}
use Rattle.refutation_check.specs.declared.verdict.Verdict.{Verdict}
use Rattle.refutation_check.specs.declared.verdict.Verdict.TheVariants.{Closed, Unfinished}
use Rattle.step_scripts.specs.FaultyLines.{IsFaultyLine}
use Rattle.step_scripts.specs.WaveFiles.{NamesWaves}
use Rattle.step_scripts.specs.declared.kind.OrderKind.{OrderKind}
use Rattle.step_scripts.specs.declared.version.Version.{Version}
use Rattle.step_scripts.specs.declared.version.Version.TheVariants.{Two}
use Rattle.change_orders.specs.TwoFiles.{AreTwoWaves, NamesTwo}

-- a text is an order file of version 2 that names this wave list and no other, without a faulty line, and the wave list
-- is seamless: so a check of the text answers that it is safe
pub record ReadsAsSafeWaves (move : Migration) (text ranks : List ℕ) : Type 0 where
  pub names : NamesWaves move.net text Two ranks
  pub faultless : (number : ℕ) (kind : OrderKind) → ¬ IsFaultyLine move.net text number kind
  pub alone : (version : Version) (other : List ℕ) → NamesWaves move.net text version other → (version ≡ Two) × (other ≡ ranks)
  pub seamless : AreSeamlessWaves move ranks

-- a text is an order file of single changes that names this wave list and no other, each router's first change in an earlier wave
-- than its second, and the migration is sound throughout it
pub record ReadsAsSafeChanges (move : Migration) (text ranks : List ℕ) : Type 0 where
  pub names : NamesTwo move.net text ranks
  pub alone : (other : List ℕ) → NamesTwo move.net text other → other ≡ ranks
  pub in_turn : AreTwoWaves (length move.net) ranks
  pub throughout : IsSoundThroughout move (change_times ranks)

-- this is the verdict on a text as a tree file, and it has no other
pub record HasVerdict (items : Items) (move : Migration) (text : List ℕ) (verdict : Verdict) : Type 0 where
  pub is : IsHeadedVerdict items (tree_header_of items) move text verdict
  pub alone : (other : Verdict) → IsHeadedVerdict items (tree_header_of items) move text other → other ≡ verdict

-- waves read back as themselves
abbrev pub RankedReadBack : Items → Migration → List ℕ → List ℕ → Type 0
RankedReadBack Routers move ranks text = ReadsAsSafeWaves move text ranks
RankedReadBack Changes move ranks text = ReadsAsSafeChanges move text ranks

-- a refutation as a closed tree with its branches and leaves, and a tree that was stopped as one with its unvisited places
abbrev pub FoundReadsBack : Items → Migration → Found → List ℕ → Type 0
FoundReadsBack items move (Waves ranks pairs chain trail) text = RankedReadBack items move ranks text
FoundReadsBack items move (Refuted tree) text = HasVerdict items move text (Closed (branch_count tree) (leaf_count tree))
FoundReadsBack items move (Spent tree) text = HasVerdict items move text (Unfinished (open_count tree))

-- what the search finds of a network has a text
abbrev pub PlansArePrintable : Migration → Type 0
PlansArePrintable move =
    (items : Items) (budget : ℕ) (found : Found) → IsFound (night_meaning items move) budget found → IsPrintable items move.net found

-- and the text reads back, where the network has a router
abbrev pub PlannedTextsReadBack : Migration → Type 0
PlannedTextsReadBack move =
    (items : Items) (budget : ℕ) (found : Found) → CanRank items move → IsNetwork move.net → 0 < length move.net →
    IsFound (night_meaning items move) budget found →
    FoundReadsBack items move found (planned_text items (names_of move.net) found)

-- each two neighbors of the chain of planned waves are tagged Old and New in one loop of the network
abbrev pub ChainsAreTagged : Migration → Type 0
ChainsAreTagged move =
    (budget : ℕ) (found : FoundWaves) → AreFoundWaves (waves_meaning move) budget found → IsTaggedChain move found.chain

-- and so are those of single changes, or they are the two of one router
abbrev pub ChangeChainsAreTagged : Migration → Type 0
ChangeChainsAreTagged move =
    (budget : ℕ) (found : FoundWaves) → AreFoundWaves (changes_meaning move) budget found → IsChangeChain move found.chain
