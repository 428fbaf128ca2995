-- What a plan of single changes means, in packets.
use Rattle.std.proofs.Common.{◌<◌, ℕ, length, refl, take}
use Rattle.igp_theory.specs.LoopLaws.{BeginsOld}
use Rattle.igp_theory.specs.Migrations.{Migration}
use Rattle.igp_theory.specs.Phases.{State}
use Rattle.igp_theory.specs.States.{IsSound}
use Rattle.igp_theory.specs.Timetables.{state_after}
use Rattle.igp_theory.specs.WaveLaws.{HopsAreRouters}
use Rattle.igp_theory.proofs.Delivery.{delivers_sound, sound_delivers}
use Rattle.igp_theory.proofs.FaultLaws.{faulty_not_sound}
use Rattle.net_model.specs.Refusals.{IsNetwork}
use Rattle.net_model.specs.RouterNames.{names_of}
use Rattle.order_search.specs.Answers.{found_waves}
use Rattle.order_search.specs.Trees.{branch_count}
use Rattle.order_search.specs.declared.found.Found.TheVariants.{Waves, Refuted, Spent}
use Rattle.plan_theory.specs.Laws.{HasNoneSound}
use Rattle.plan_theory.specs.Plans.{IsNightPlanned, fault_told}
use Rattle.plan_theory.specs.declared.items.Items.TheVariants.{Changes}
use Rattle.plan_theory.specs.declared.planned.Planned.{Planned}
use Rattle.plan_theory.specs.declared.planned.Planned.TheVariants.{UnsoundOld, UnsoundNew, Searched}
use Rattle.plan_theory.proofs.Meaning.{night_plan_means}
use Rattle.plan_theory.proofs.ChangesServe.{changes_serve}
use Rattle.wave_oracle.proofs.ChangeRankings.{sound_is_good, two_waves_keep}
use Rattle.wave_oracle.proofs.ReadBack.{change_chain_tagged, plan_reads_back}
use Rattle.refutation_check.specs.Verdicts.{leaf_count, open_count}
use Rattle.refutation_check.specs.declared.verdict.Verdict.TheVariants.{Closed, Unfinished}
use Rattle.migration_report.specs.Outcomes.{plan_status, plan_text}
use Rattle.migrate_cli.specs.ChangesDecision.IsChangesCheck.{named_changes}
use Rattle.migrate_cli.specs.ChangesDecision.IsChangesDecision.{safe_changes}
use Rattle.migrate_cli.specs.ChangesDecision.IsChangesTree.{judged_changes}
use Rattle.migrate_cli.specs.ChangesHeadline.{ChangesHeadline, NoChangesDeliver}
use Rattle.migrate_cli.specs.Headline.{DeliversAll}
use Rattle.migrate_cli.specs.Headline.Plans.{waves, refutation, budget_spent, unsound_end}
use Rattle.migrate_cli.specs.Headline.TellsUnsoundEnd.{unsound_old, unsound_new}

module _ (move : Migration) (begins : BeginsOld move) where
  -- where no ranking is good and no list of the changes has only sound states, none delivers
  no_changes_deliver : HasNoneSound Changes move → NoChangesDeliver move
  no_changes_deliver none = record {
    no_waves_deliver = λ ranks are deliver.
        none.waves ranks (sound_is_good move ranks are (record {
          table = (changes_serve move begins).table ranks are.ranking (two_waves_keep (length move.net) ranks are);
          sound = λ state is. delivers_sound move state (deliver state is);
        }));
    no_waves_sound = λ ranks are sound. none.waves ranks (sound_is_good move ranks are sound);
    no_list_delivers = λ run lists deliver. none.lists run lists (λ k. delivers_sound move (state_after move.start (take k run)) (deliver k));
    no_list_sound = none.lists;
  }

  -- over tables whose hops are routers of the network a plan means what the headline says
  module _ (old_hops : HopsAreRouters move.net move.old) (new_hops : HopsAreRouters move.net move.new) (budget : ℕ) (some : 0 < length move.net)
      (network : IsNetwork move.net) where
    delivers : (state : State) → IsSound move state → DeliversAll move state
    delivers state sound a p address target = sound_delivers move state a p old_hops new_hops sound address target

    pub changes_headline : (planned : Planned) → IsNightPlanned Changes move budget planned →
        ChangesHeadline move budget (plan_status planned) (plan_text Changes (names_of move.net) planned)
    changes_headline (UnsoundOld fault) is = record {
      ends = unsound_end (λ ends. faulty_not_sound is ends.first);
      safe_changes = λ e. absurd (Prim.cc e);
      no_changes = λ e. absurd (Prim.cc e);
      no_ends = λ _. record {
        tells = unsound_old (fault_told fault) (faulty_not_sound is) is;
        none = no_changes_deliver (night_plan_means Changes move begins budget (UnsoundOld fault) is);
      };
      no_more = λ e. absurd (Prim.cc e);
    }
    changes_headline (UnsoundNew fault) is = record {
      ends = unsound_end (λ ends. faulty_not_sound is.last ends.last);
      safe_changes = λ e. absurd (Prim.cc e);
      no_changes = λ e. absurd (Prim.cc e);
      no_ends = λ _. record {
        tells = unsound_new (fault_told fault) is.first (faulty_not_sound is.last) is.last;
        none = no_changes_deliver (night_plan_means Changes move begins budget (UnsoundNew fault) is);
      };
      no_more = λ e. absurd (Prim.cc e);
    }
    changes_headline (Searched (Waves ranks pairs chain trail)) is =
        let reads = plan_reads_back move budget network some Changes begins (Waves ranks pairs chain trail) is.is_found in
        record {
          ends = waves is.ends;
          safe_changes = λ _. record {
            ranks = ranks;
            names = reads.names;
            in_turn = reads.in_turn;
            deliver = λ state of. delivers state (reads.throughout.sound state of);
            sound = reads.throughout;
            checks = λ file. named_changes ranks _ reads.names reads.in_turn (safe_changes reads.throughout);
            chain = chain;
            chain_written = refl;
            chain_told = change_chain_tagged move budget (found_waves ranks pairs chain trail) is.is_found;
          };
          no_changes = λ e. absurd (Prim.cc e);
          no_ends = λ e. absurd (Prim.cc e);
          no_more = λ e. absurd (Prim.cc e);
        }
    changes_headline (Searched (Refuted tree)) is =
        let none = night_plan_means Changes move begins budget (Searched (Refuted tree)) is in
        let reads = plan_reads_back move budget network some Changes begins (Refuted tree) is.is_found in
        record {
          ends = refutation is.ends;
          safe_changes = λ e. absurd (Prim.cc e);
          no_changes = λ _. record {
            none = no_changes_deliver none;
            branches = branch_count tree;
            leaves = leaf_count tree;
            refutes = judged_changes (Closed (branch_count tree) (leaf_count tree)) network reads.is none;
          };
          no_ends = λ e. absurd (Prim.cc e);
          no_more = λ e. absurd (Prim.cc e);
        }
    changes_headline (Searched (Spent tree)) is =
        let reads = plan_reads_back move budget network some Changes begins (Spent tree) is.is_found in
        record {
          ends = budget_spent is.ends;
          safe_changes = λ e. absurd (Prim.cc e);
          no_changes = λ e. absurd (Prim.cc e);
          no_ends = λ e. absurd (Prim.cc e);
          no_more = λ _. record {
            nodes = tree;
            text_is = refl;
            spent = is.is_found.stopped.spent;
            unvisited = open_count tree;
            some = reads.is.holds.some;
            refutes = judged_changes (Unfinished (open_count tree)) network reads.is tt;
          };
        }
