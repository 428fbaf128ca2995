-- What a plan means.
use Rattle.std.proofs.Common.{ℕ, List}
use Rattle.igp_theory.specs.LoopLaws.{BeginsOld}
use Rattle.igp_theory.specs.Migrations.{Migration}
use Rattle.igp_theory.specs.Waves.{HasNoneSeamless}
use Rattle.igp_theory.proofs.FaultLaws.{faulty_not_sound}
use Rattle.igp_theory.proofs.FlatOrders.{flat_is_seamless}
use Rattle.igp_theory.proofs.OnesRuns.{none_without_waves}
use Rattle.order_search.specs.Answers.{IsFound}
use Rattle.order_search.proofs.TreeRefutes.{refutation_refutes}
use Rattle.order_search.specs.declared.found.Found.{Found}
use Rattle.order_search.specs.declared.found.Found.TheVariants.{Waves, Refuted, Spent}
use Rattle.plan_theory.specs.Laws.{FoundMeans, PlanMeans, HasNoneSound, NightFoundMeans, NightPlanMeans}
use Rattle.plan_theory.specs.Plans.{IsNightPlanned, IsPlanned}
use Rattle.plan_theory.specs.Ranked.{CanRank, ranked}
use Rattle.plan_theory.specs.WavesMeaning.{night_meaning}
use Rattle.plan_theory.specs.declared.items.Items.{Items}
use Rattle.plan_theory.specs.declared.items.Items.TheVariants.{Routers}
use Rattle.plan_theory.specs.declared.planned.Planned.{Planned}
use Rattle.plan_theory.specs.declared.planned.Planned.TheVariants.{UnsoundOld, UnsoundNew, Searched}
use Rattle.plan_theory.proofs.Decided.{rankings_decided}
use Rattle.plan_theory.proofs.Ends.{alone_is_sound, begins_sound, ends_sound}
use Rattle.plan_theory.proofs.ItemsServe.{items_ask, items_serve}

-- Whatever is ranked

module _ (items : Items) (move : Migration) (can : CanRank items move) where
  -- where no ranking is good, no list of the changes has only sound states: it would be one
  pub none_without_rankings : ((ranks : List ℕ) → ¬ (night_meaning items move).good ranks) → HasNoneSound items move
  none_without_rankings none = record {
    waves = none;
    lists = λ run listed sound.
        let serves = items_serve items move can in
        let its = serves.ranked run listed in
        none its.ranks (((items_ask items move).good its.ranks).1 (record {
          waves = its.waves;
          keeps = its.keeps;
          throughout =
              alone_is_sound move ((ranked items move).times its.ranks) run (serves.table its.ranks its.waves its.keeps) its.only sound;
        }));
  }

  night_found_means : (budget : ℕ) (found : Found) → IsFound (night_meaning items move) budget found → NightFoundMeans items move found
  night_found_means budget (Waves ranks pairs chain trail) is = is.is_good
  night_found_means budget (Refuted tree) is =
      none_without_rankings (refutation_refutes (night_meaning items move)
      (rankings_decided move (ranked items move) (items_serve items move can) (night_meaning items move) (items_ask items move)) budget tree is)
  night_found_means budget (Spent tree) is = tt

  pub night_plan_means : (budget : ℕ) (planned : Planned) → IsNightPlanned items move budget planned → NightPlanMeans items move planned
  night_plan_means budget (UnsoundOld fault) is =
      none_without_rankings (λ ranks good. faulty_not_sound is
      (begins_sound move ((ranked items move).times ranks) (((items_ask items move).good ranks).0 good).throughout))
  night_plan_means budget (UnsoundNew fault) is =
      none_without_rankings (λ ranks good. faulty_not_sound is.last
      (ends_sound move ((ranked items move).times ranks) (((items_ask items move).good ranks).0 good).throughout))
  night_plan_means budget (Searched found) is = night_found_means budget found is.is_found

-- Where routers are ranked and begin in Old

pub none_seamless : (move : Migration) → BeginsOld move → HasNoneSound Routers move → HasNoneSeamless move
none_seamless move begins none = none_without_waves move begins none.waves

found_means : (move : Migration) (found : Found) → BeginsOld move → NightFoundMeans Routers move found → FoundMeans move found
found_means move (Waves ranks pairs chain trail) begins seamless = record { waves = seamless; order = flat_is_seamless move ranks begins seamless }
found_means move (Refuted tree) begins none = none_seamless move begins none
found_means move (Spent tree) begins is = tt

means_of_night : (move : Migration) (planned : Planned) → BeginsOld move → NightPlanMeans Routers move planned → PlanMeans move planned
means_of_night move (UnsoundOld fault) begins none = none_seamless move begins none
means_of_night move (UnsoundNew fault) begins none = none_seamless move begins none
means_of_night move (Searched found) begins is = found_means move found begins is

pub plan_means : (move : Migration) (budget : ℕ) (planned : Planned) → BeginsOld move → IsPlanned move budget planned →
    PlanMeans move planned
plan_means move budget planned begins is = means_of_night move planned begins (night_plan_means Routers move tt budget planned is)
