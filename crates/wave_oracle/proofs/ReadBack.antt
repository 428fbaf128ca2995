-- What was planned has a text, and the text reads back.
use Rattle.std.proofs.Common.{◌≡◌, ℕ, ◌<◌, List, [], length, refl, ◌∙◌}
use Rattle.net_model.specs.Refusals.{IsNetwork}
use Rattle.net_model.specs.RouterNames.{names_of}
use Rattle.igp_theory.specs.Migrations.{Migration}
use Rattle.order_search.specs.Answers.{FoundWaves, found_waves, AreFoundWaves, IsFound}
use Rattle.order_search.specs.Trees.{branch_count}
use Rattle.order_search.specs.declared.found.Found.{Found}
use Rattle.order_search.specs.declared.found.Found.TheVariants.{Waves, Refuted, Spent}
use Rattle.plan_theory.specs.Ranked.{CanRank, size_of}
use Rattle.plan_theory.specs.WavesMeaning.{changes_meaning, night_meaning, waves_meaning}
use Rattle.plan_theory.specs.declared.items.Items.{Items}
use Rattle.plan_theory.specs.declared.items.Items.TheVariants.{Routers, Changes}
use Rattle.wave_oracle.specs.Chains.{IsChangeChain, IsTaggedChain}
use Rattle.wave_oracle.specs.PlannedTexts.{IsPrintable, planned_text, ranked_waves_text}
use Rattle.wave_oracle.specs.ReadingBack.{FoundReadsBack, HasVerdict, ReadsAsSafeChanges, ReadsAsSafeWaves, RankedReadBack}
use Rattle.wave_oracle.proofs.ChangeRankings.{good_in_turn}
use Rattle.wave_oracle.proofs.TreeNodes.{nodes_below}
use Rattle.wave_oracle.proofs.TreesAsTexts.{refutation_closes, refuted_fill, spent_fill, spent_stays_open}
use Rattle.wave_oracle.proofs.WavesAsTexts.{found_each, found_one_of_each, found_precedes, found_tagged}
use Rattle.refutation_check.specs.TreeTexts.{ranked_tree_text}
use Rattle.refutation_check.specs.Verdicts.{IsHeadedVerdict, leaf_count, open_count, tree_header_of}
use Rattle.refutation_check.specs.declared.verdict.Verdict.{Verdict}
use Rattle.refutation_check.specs.declared.verdict.Verdict.TheVariants.{Closed, Unfinished}
use Rattle.refutation_check.proofs.OneVerdict.{one_headed}
use Rattle.step_scripts.specs.WaveFiles.{NamesWaves}
use Rattle.step_scripts.specs.WavesTexts.{waves_text}
use Rattle.step_scripts.specs.declared.version.Version.TheVariants.{Two}
use Rattle.step_scripts.proofs.TextFacts.{waves_read_back}
use Rattle.step_scripts.proofs.WaveFileLaws.{no_fault, one_wave_list}
use Rattle.change_orders.specs.TwoFiles.{NamesTwo}
use Rattle.change_orders.specs.TwoTexts.{two_text}
use Rattle.change_orders.proofs.TwoFileLaws.{one_list}
use Rattle.change_orders.proofs.TwoTextFacts.{two_read_back}

-- as many numbers as what the search asks says
meaning_size : (items : Items) (move : Migration) → (night_meaning items move).size ≡ size_of items (length move.net)
meaning_size Routers move = refl
meaning_size Changes move = refl

-- What is found has a text

pub plan_printable : (items : Items) (move : Migration) (budget : ℕ) (found : Found) → IsFound (night_meaning items move) budget found →
    IsPrintable items move.net found
plan_printable items move budget (Waves ranks pairs chain trail) is = record {
  each = found_each (night_meaning items move) budget (found_waves ranks pairs chain trail) is ∙ meaning_size items move;
  one_of_each = found_one_of_each (night_meaning items move) budget (found_waves ranks pairs chain trail) is;
}
plan_printable items move budget (Refuted tree) is = nodes_below items move [] tree (refuted_fill items move budget tree is)
plan_printable items move budget (Spent tree) is = nodes_below items move [] tree (spent_fill items move budget tree is)

module _ (move : Migration) (budget : ℕ) where
  pub chain_tagged : (found : FoundWaves) → AreFoundWaves (waves_meaning move) budget found → IsTaggedChain move found.chain
  chain_tagged found is = found_tagged move budget found is

  pub change_chain_tagged : (found : FoundWaves) → AreFoundWaves (changes_meaning move) budget found → IsChangeChain move found.chain
  change_chain_tagged found is = found_precedes move budget found is

  -- The text reads back

  module _ (network : IsNetwork move.net) (some : 0 < length move.net) where
    waves_read : (found : FoundWaves) → AreFoundWaves (waves_meaning move) budget found →
        ReadsAsSafeWaves move (waves_text (names_of move.net) found.ranks found.chain) found.ranks
    waves_read found is =
        let each = found_one_of_each (waves_meaning move) budget found is in
        let text : List ℕ = waves_text (names_of move.net) found.ranks found.chain in
        let names : NamesWaves move.net text Two found.ranks = waves_read_back move.net found.ranks found.chain network some is.is_good.waves each in
        record {
          names = names;
          faultless = λ number kind. no_fault move.net text Two found.ranks number kind network.ascending names;
          alone = λ version other has. one_wave_list move.net text version Two other found.ranks network.ascending has names;
          seamless = is.is_good;
        }

    changes_read : (found : FoundWaves) → AreFoundWaves (changes_meaning move) budget found →
        ReadsAsSafeChanges move (two_text (names_of move.net) found.ranks found.chain) found.ranks
    changes_read found is =
        let each = found_one_of_each (changes_meaning move) budget found is in
        let turn = good_in_turn move found.ranks is.is_good in
        let text : List ℕ = two_text (names_of move.net) found.ranks found.chain in
        let names : NamesTwo move.net text found.ranks = two_read_back move.net found.ranks found.chain network some turn each in
        record {
          names = names;
          alone = λ other has. one_list move.net text other found.ranks network.ascending has names;
          in_turn = turn;
          throughout = is.is_good.throughout;
        }

    ranked_read : (items : Items) (found : FoundWaves) → AreFoundWaves (night_meaning items move) budget found →
        RankedReadBack items move found.ranks (ranked_waves_text items (names_of move.net) found.ranks found.chain)
    ranked_read Routers found is = waves_read found is
    ranked_read Changes found is = changes_read found is

    module _ (items : Items) (can : CanRank items move) where
      has_verdict : (text : List ℕ) (verdict : Verdict) → IsHeadedVerdict items (tree_header_of items) move text verdict →
          HasVerdict items move text verdict
      has_verdict text verdict is =
          record { is = is; alone = λ other its. one_headed items move can network (tree_header_of items) text other verdict its is }

      pub plan_reads_back : (found : Found) → IsFound (night_meaning items move) budget found →
          FoundReadsBack items move found (planned_text items (names_of move.net) found)
      plan_reads_back (Waves ranks pairs chain trail) is = ranked_read items (found_waves ranks pairs chain trail) is
      plan_reads_back (Refuted tree) is =
          has_verdict (ranked_tree_text items (names_of move.net) tree) (Closed (branch_count tree) (leaf_count tree))
          (refutation_closes items move budget network tree is)
      plan_reads_back (Spent tree) is =
          has_verdict (ranked_tree_text items (names_of move.net) tree) (Unfinished (open_count tree))
          (spent_stays_open items move budget network tree is)
