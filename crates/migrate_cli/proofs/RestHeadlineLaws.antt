-- What a plan of the rest means, in packets.
use Rattle.std.proofs.Common.{◌≡◌, ◌<◌, ℕ, List, [], length, refl, take}
use Rattle.igp_theory.specs.Migrations.{Migration}
use Rattle.igp_theory.specs.Phases.{State}
use Rattle.igp_theory.specs.States.{IsSound}
use Rattle.igp_theory.specs.Timetables.{state_after}
use Rattle.igp_theory.specs.WaveLaws.{HopsAreRouters}
use Rattle.igp_theory.specs.declared.phase.Phase.{Phase}
use Rattle.igp_theory.proofs.Delivery.{delivers_sound, sound_delivers}
use Rattle.igp_theory.proofs.FaultLaws.{faulty_not_sound}
use Rattle.igp_theory.proofs.Switches.{routers_have_times}
use Rattle.net_model.specs.Refusals.{IsNetwork}
use Rattle.net_model.specs.RouterNames.{names_of}
use Rattle.order_search.specs.Answers.{found_waves}
use Rattle.order_search.specs.Trees.{branch_count}
use Rattle.order_search.specs.declared.found.Found.TheVariants.{Waves, Refuted, Spent}
use Rattle.plan_theory.specs.Laws.{HasNoneSound}
use Rattle.plan_theory.specs.Plans.{IsPlanned, fault_told}
use Rattle.plan_theory.specs.declared.items.Items.TheVariants.{Routers}
use Rattle.plan_theory.specs.declared.planned.Planned.{Planned}
use Rattle.plan_theory.specs.declared.planned.Planned.TheVariants.{UnsoundOld, UnsoundNew, Searched}
use Rattle.plan_theory.proofs.Meaning.{night_plan_means}
use Rattle.wave_oracle.proofs.ReadBack.{chain_tagged}
use Rattle.wave_oracle.proofs.TreesAsTexts.{spent_stays_open}
use Rattle.refutation_check.specs.Verdicts.{leaf_count, open_count}
use Rattle.refutation_check.specs.declared.verdict.Verdict.TheVariants.{Closed, Unfinished}
use Rattle.refutation_check.proofs.RestFacts.{rest_reads_back, rest_refutes}
use Rattle.migration_report.specs.Outcomes.{plan_status}
use Rattle.migration_report.specs.RestPlanTexts.{rest_plan_text}
use Rattle.migrate_cli.specs.Headline.{DeliversAll}
use Rattle.migrate_cli.specs.Headline.Plans.{waves, refutation, budget_spent, unsound_end}
use Rattle.migrate_cli.specs.RestDecision.IsRestTree.{judged_rest}
use Rattle.migrate_cli.specs.RestHeadline.{NoRestDelivers, RestHeadline, going_on}
use Rattle.migrate_cli.specs.RestHeadline.TellsUnsoundRest.{unsound_last, unsound_start}
use Rattle.migrate_cli.proofs.RestWaveFacts.{found_rest_waves}
use Rattle.order_search.specs.declared.tree.Node.{Node}
use Rattle.refutation_check.specs.RestVerdicts.{IsRestVerdict}
use Rattle.refutation_check.specs.TreeTexts.{rest_tree_text}
use Rattle.order_search.specs.Answers.{IsRefutation, IsSpent}
use Rattle.plan_theory.specs.WavesMeaning.{night_meaning}
use Rattle.wave_oracle.proofs.TreeNodes.{nodes_below, nodes_read}
use Rattle.wave_oracle.proofs.TreesAsTexts.{refuted_fill, spent_fill}

module _ (move : Migration) where
  -- where no ranking is good and no list of what is left has only sound states, none delivers
  no_rest_delivers : HasNoneSound Routers move → NoRestDelivers move
  no_rest_delivers none = record {
    no_waves_deliver = λ ranks ranking deliver. none.waves ranks (record {
      waves = ranking;
      throughout = record {
        table = routers_have_times (length move.net) move.start ranks;
        sound = λ state is. delivers_sound move state (deliver state is);
      };
    });
    no_waves_sound = none.waves;
    no_list_delivers = λ run lists deliver. none.lists run lists (λ k. delivers_sound move (state_after move.start (take k run)) (deliver k));
    no_list_sound = none.lists;
  }

-- a tree from a start reads back
module _ (move : Migration) (start : List Phase) (each : length start ≡ length move.net) (budget : ℕ) (network : IsNetwork move.net) where
  refuted_closes : (tree : List Node) → IsRefutation (night_meaning Routers (going_on start move)) budget tree →
      IsRestVerdict move (rest_tree_text (names_of move.net) start tree) (Closed (branch_count tree) (leaf_count tree))
  refuted_closes tree is =
      let fill = refuted_fill Routers (going_on start move) budget tree is in
      (rest_reads_back move start tree network each (nodes_below Routers (going_on start move) [] tree fill)
      (nodes_read Routers (going_on start move) [] tree fill)).fits (Closed (branch_count tree) (leaf_count tree)) fill (is.closed.visited, refl, refl)

  spent_open : (tree : List Node) → IsSpent (night_meaning Routers (going_on start move)) budget tree →
      0 < open_count tree → IsRestVerdict move (rest_tree_text (names_of move.net) start tree) (Unfinished (open_count tree))
  spent_open tree is some =
      let fill = spent_fill Routers (going_on start move) budget tree is in
      (rest_reads_back move start tree network each (nodes_below Routers (going_on start move) [] tree fill)
      (nodes_read Routers (going_on start move) [] tree fill)).fits (Unfinished (open_count tree)) fill (some, refl)

-- over tables whose hops are routers of the network a plan of the rest means what its headline says
module _ (move : Migration) (start : List Phase) (each : length start ≡ length move.net) (old_hops : HopsAreRouters move.net move.old)
    (new_hops : HopsAreRouters move.net move.new) (budget : ℕ) (network : IsNetwork move.net) where
  abbrev from : Migration
  from = going_on start move

  delivers : (state : State) → IsSound from state → DeliversAll from state
  delivers state sound a p address target = sound_delivers from state a p old_hops new_hops sound address target

  pub rest_headline : (planned : Planned) → IsPlanned from budget planned →
      RestHeadline move start budget (plan_status planned) (rest_plan_text (names_of move.net) start planned)
  rest_headline (UnsoundOld fault) is = record {
    ends = unsound_end (λ ends. faulty_not_sound is ends.first);
    safe_rest = λ e. absurd (Prim.cc e);
    no_rest = λ e. absurd (Prim.cc e);
    no_ends = λ _. record {
      tells = unsound_start (fault_told fault) (faulty_not_sound is) is;
      none = no_rest_delivers from (night_plan_means Routers from tt budget (UnsoundOld fault) is);
    };
    no_more = λ e. absurd (Prim.cc e);
  }
  rest_headline (UnsoundNew fault) is = record {
    ends = unsound_end (λ ends. faulty_not_sound is.last ends.last);
    safe_rest = λ e. absurd (Prim.cc e);
    no_rest = λ e. absurd (Prim.cc e);
    no_ends = λ _. record {
      tells = unsound_last (fault_told fault) is.first (faulty_not_sound is.last) is.last;
      none = no_rest_delivers from (night_plan_means Routers from tt budget (UnsoundNew fault) is);
    };
    no_more = λ e. absurd (Prim.cc e);
  }
  rest_headline (Searched (Waves ranks pairs chain trail)) is =
      let found = found_waves ranks pairs chain trail in
      let good = night_plan_means Routers from tt budget (Searched (Waves ranks pairs chain trail)) is in
      record {
        ends = waves is.ends;
        safe_rest = λ _. record {
          ranks = ranks;
          chain = chain;
          text_is = refl;
          named = found_rest_waves move start each budget found is.is_found;
          deliver = λ state of. delivers state (good.throughout.sound state of);
          sound = good;
          chain_tagged = chain_tagged from budget found is.is_found;
        };
        no_rest = λ e. absurd (Prim.cc e);
        no_ends = λ e. absurd (Prim.cc e);
        no_more = λ e. absurd (Prim.cc e);
      }
  rest_headline (Searched (Refuted tree)) is =
      let none = night_plan_means Routers from tt budget (Searched (Refuted tree)) is in
      let verdict = refuted_closes move start each budget network tree is.is_found in
      record {
        ends = refutation is.ends;
        safe_rest = λ e. absurd (Prim.cc e);
        no_rest = λ _. record {
          none = no_rest_delivers from none;
          branches = branch_count tree;
          leaves = leaf_count tree;
          refutes = judged_rest (Closed (branch_count tree) (leaf_count tree)) network verdict
              (rest_refutes move (rest_tree_text (names_of move.net) start tree) (Closed (branch_count tree) (leaf_count tree)) verdict);
        };
        no_ends = λ e. absurd (Prim.cc e);
        no_more = λ e. absurd (Prim.cc e);
      }
  rest_headline (Searched (Spent tree)) is =
      let some = (spent_stays_open Routers from budget network tree is.is_found).holds.some in
      record {
        ends = budget_spent is.ends;
        safe_rest = λ e. absurd (Prim.cc e);
        no_rest = λ e. absurd (Prim.cc e);
        no_ends = λ e. absurd (Prim.cc e);
        no_more = λ _. record {
          nodes = tree;
          text_is = refl;
          spent = is.is_found.stopped.spent;
          unvisited = open_count tree;
          some = some;
          refutes = judged_rest (Unfinished (open_count tree)) network (spent_open move start each budget network tree is.is_found some) tt;
        };
      }
