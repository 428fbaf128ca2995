-- What a plan means, in packets.
use Rattle.std.proofs.Common.{◌<◌, ℕ, length, refl}
use Rattle.igp_theory.specs.LoopLaws.{BeginsOld}
use Rattle.igp_theory.specs.Migrations.{Migration}
use Rattle.igp_theory.specs.Phases.{State}
use Rattle.igp_theory.specs.States.{IsSound, state_of}
use Rattle.igp_theory.specs.WaveLaws.{HopsAreRouters}
use Rattle.igp_theory.specs.Waves.{HasNoneSeamless}
use Rattle.igp_theory.proofs.Delivery.{delivers_sound, sound_delivers}
use Rattle.igp_theory.proofs.FaultLaws.{faulty_not_sound}
use Rattle.igp_theory.proofs.Switches.{routers_have_times}
use Rattle.net_model.specs.Refusals.{IsNetwork}
use Rattle.net_model.specs.RouterNames.{names_of}
use Rattle.order_core.specs.Rankings.{flat_of}
use Rattle.order_search.specs.Answers.{found_waves}
use Rattle.order_search.specs.Trees.{branch_count}
use Rattle.order_search.specs.declared.found.Found.TheVariants.{Waves, Refuted, Spent}
use Rattle.plan_theory.specs.Laws.{AreSeamlessWithOrder}
use Rattle.plan_theory.specs.Plans.{IsPlanned, fault_told}
use Rattle.plan_theory.specs.declared.items.Items.TheVariants.{Routers}
use Rattle.plan_theory.specs.declared.planned.Planned.{Planned}
use Rattle.plan_theory.specs.declared.planned.Planned.TheVariants.{UnsoundOld, UnsoundNew, Searched}
use Rattle.plan_theory.proofs.Meaning.{plan_means}
use Rattle.wave_oracle.proofs.ReadBack.{chain_tagged, plan_reads_back}
use Rattle.refutation_check.specs.Verdicts.{leaf_count, open_count}
use Rattle.refutation_check.specs.declared.verdict.Verdict.TheVariants.{Closed, Unfinished}
use Rattle.migration_report.specs.Outcomes.{plan_status, plan_text}
use Rattle.migrate_cli.specs.CheckDecision.IsCheckOver.{of_waves}
use Rattle.migrate_cli.specs.CheckDecision.IsWavesDecision.{safe_waves}
use Rattle.migrate_cli.specs.Headline.{DeliversAll, Headline, NoneDelivers}
use Rattle.migrate_cli.specs.Headline.Plans.{waves, refutation, budget_spent, unsound_end}
use Rattle.migrate_cli.specs.Headline.TellsUnsoundEnd.{unsound_old, unsound_new}
use Rattle.migrate_cli.specs.RefuteDecision.IsTreeDecision.{judged_tree}

module _ (move : Migration) where
  sound_where_delivers : (state : State) → DeliversAll move state → IsSound move state
  sound_where_delivers state all = delivers_sound move state all

  -- where none is seamless none delivers
  pub none_delivers : HasNoneSeamless move → NoneDelivers move
  none_delivers none = record {
    no_waves_deliver = λ ranks ranking deliver.
        none.waves ranks (record {
          waves = ranking;
          throughout = record {
            table = routers_have_times (length move.net) move.start ranks;
            sound = λ state is. sound_where_delivers state (deliver state is);
          };
        });
    no_waves_sound = none.waves;
    no_order_delivers = λ order lists deliver.
        none.orders order (record { lists = lists; sound = λ k within. sound_where_delivers (state_of order k) (deliver k within) });
    no_order_sound = none.orders;
  }

  -- over tables whose hops are routers of the network, where every router begins in Old, a plan means what the headline says
  module _ (begins : BeginsOld move) (old_hops : HopsAreRouters move.net move.old)
      (new_hops : HopsAreRouters move.net move.new) (budget : ℕ) (some : 0 < length move.net) (network : IsNetwork move.net) where
    delivers : (state : State) → IsSound move state → DeliversAll move state
    delivers state sound a p address target = sound_delivers move state a p old_hops new_hops sound address target

    pub headline : (planned : Planned) → IsPlanned move budget planned →
        Headline move budget (plan_status planned) (plan_text Routers (names_of move.net) planned)
    headline (UnsoundOld fault) is = record {
      ends = unsound_end (λ ends. faulty_not_sound is ends.first);
      safe_waves = λ e. absurd (Prim.cc e);
      no_waves = λ e. absurd (Prim.cc e);
      no_ends = λ _. record {
        tells = unsound_old (fault_told fault) (faulty_not_sound is) is;
        none = none_delivers (plan_means move budget (UnsoundOld fault) begins is);
      };
      no_more = λ e. absurd (Prim.cc e);
    }
    headline (UnsoundNew fault) is = record {
      ends = unsound_end (λ ends. faulty_not_sound is.last ends.last);
      safe_waves = λ e. absurd (Prim.cc e);
      no_waves = λ e. absurd (Prim.cc e);
      no_ends = λ _. record {
        tells = unsound_new (fault_told fault) is.first (faulty_not_sound is.last) is.last;
        none = none_delivers (plan_means move budget (UnsoundNew fault) begins is);
      };
      no_more = λ e. absurd (Prim.cc e);
    }
    headline (Searched (Waves ranks pairs chain trail)) is =
        let means : AreSeamlessWithOrder move ranks = plan_means move budget (Searched (Waves ranks pairs chain trail)) begins is in
        let reads = plan_reads_back move budget network some Routers tt (Waves ranks pairs chain trail) is.is_found in
        record {
          ends = waves is.ends;
          safe_waves = λ _. record {
            ranks = ranks;
            names = reads.names;
            deliver = λ state of. delivers state (means.waves.throughout.sound state of);
            sound = means.waves;
            order_delivers = λ k within. delivers (state_of (flat_of ranks) k) (means.order.sound k within);
            order_sound = means.order;
            checks = λ file. of_waves ranks _ reads.names (safe_waves means.waves);
            chain = chain;
            chain_written = refl;
            chain_tagged = chain_tagged move budget (found_waves ranks pairs chain trail) is.is_found;
          };
          no_waves = λ e. absurd (Prim.cc e);
          no_ends = λ e. absurd (Prim.cc e);
          no_more = λ e. absurd (Prim.cc e);
        }
    headline (Searched (Refuted tree)) is =
        let means : HasNoneSeamless move = plan_means move budget (Searched (Refuted tree)) begins is in
        let reads = plan_reads_back move budget network some Routers tt (Refuted tree) is.is_found in
        record {
          ends = refutation is.ends;
          safe_waves = λ e. absurd (Prim.cc e);
          no_waves = λ _. record {
            none = none_delivers means;
            branches = branch_count tree;
            leaves = leaf_count tree;
            refutes = judged_tree (Closed (branch_count tree) (leaf_count tree)) network reads.is means;
          };
          no_ends = λ e. absurd (Prim.cc e);
          no_more = λ e. absurd (Prim.cc e);
        }
    headline (Searched (Spent tree)) is =
        let reads = plan_reads_back move budget network some Routers tt (Spent tree) is.is_found in
        record {
          ends = budget_spent is.ends;
          safe_waves = λ e. absurd (Prim.cc e);
          no_waves = λ e. absurd (Prim.cc e);
          no_ends = λ e. absurd (Prim.cc e);
          no_more = λ _. record {
            nodes = tree;
            text_is = refl;
            spent = is.is_found.stopped.spent;
            unvisited = open_count tree;
            some = reads.is.holds.some;
            refutes = judged_tree (Unfinished (open_count tree)) network reads.is tt;
          };
        }
