-- What the laws on plans say (Vanbever et al., SIGCOMM 2011, on seamless orders and their loops).
use Rattle.std.specs.Prelude.{◌≡◌, ℕ, List, take}
use Rattle.order_core.specs.Rankings.{flat_of}
use Rattle.igp_theory.specs.Changes.{Change}
use Rattle.igp_theory.specs.LoopLaws.{BeginsOld}
use Rattle.igp_theory.specs.Migrations.{Migration}
use Rattle.igp_theory.specs.States.{IsSound, IsSeamless}
use Rattle.igp_theory.specs.Timetables.{state_after}
use Rattle.igp_theory.specs.Waves.{AreSeamlessWaves, HasNoneSeamless}
use Rattle.order_search.specs.Laws.{IsDecisive, PicksOne}
use Rattle.order_search.specs.declared.found.Found.{Found}
use Rattle.order_search.specs.declared.found.Found.TheVariants.{Waves, Refuted, Spent}
use Rattle.plan_theory.specs.Ranked.{CanRank, ranked}
use Rattle.plan_theory.specs.WavesMeaning.{night_meaning}
use Rattle.plan_theory.specs.Plans.{IsNightPlanned, IsPlanned}
use Rattle.plan_theory.specs.declared.items.Items.{Items}
use Rattle.plan_theory.specs.declared.planned.Planned.{Planned}
use Rattle.plan_theory.specs.declared.planned.Planned.TheVariants.{UnsoundOld, UnsoundNew, Searched}

-- Whatever is ranked

-- what a good ranking owes to the loops: it keeps the base, and ranks the number of some Old turn of every loop with both tags
-- before that of some New turn. The other way holds between sound ends alone
abbrev pub RankingsAreDecided : Migration → Type 0
RankingsAreDecided move =
    (items : Items) → CanRank items move →
    IsDecisive (night_meaning items move).good (night_meaning items move).real (night_meaning items move).base

-- one loop at most is told of a ranking, and none of a good one
abbrev pub RankingsPickOne : Migration → Type 0
RankingsPickOne move =
    (items : Items) → CanRank items move → PicksOne (night_meaning items move).good (night_meaning items move).picked

-- a network has one plan with a budget
abbrev pub NightPlansAreOne : Migration → Type 0
NightPlansAreOne move =
    (items : Items) (budget : ℕ) (planned other : Planned) → CanRank items move → IsNightPlanned items move budget planned →
    IsNightPlanned items move budget other → planned ≡ other

-- every state along a list of changes is sound, the start included
abbrev pub IsSoundAlong : Migration → List Change → Type 0
IsSoundAlong move run = (k : ℕ) → IsSound move (state_after move.start (take k run))

-- no ranking is good, and no list of the changes has only sound states
pub record HasNoneSound (items : Items) (move : Migration) : Type 0 where
  pub waves : (ranks : List ℕ) → ¬ (night_meaning items move).good ranks
  pub lists : (run : List Change) → (ranked items move).lists run → ¬ IsSoundAlong move run

-- what was found means: a ranking is good, and a closed tree leaves none that is
abbrev pub NightFoundMeans : Items → Migration → Found → Type 0
NightFoundMeans items move (Waves ranks pairs chain trail) = (night_meaning items move).good ranks
NightFoundMeans items move (Refuted tree) = HasNoneSound items move
NightFoundMeans items move (Spent tree) = Unit {0}

-- what a plan means: an end that isn't sound leaves none either
abbrev pub NightPlanMeans : Items → Migration → Planned → Type 0
NightPlanMeans items move (UnsoundOld fault) = HasNoneSound items move
NightPlanMeans items move (UnsoundNew fault) = HasNoneSound items move
NightPlanMeans items move (Searched found) = NightFoundMeans items move found

abbrev pub NightPlansMean : Migration → Type 0
NightPlansMean move =
    (items : Items) (budget : ℕ) (planned : Planned) → CanRank items move → IsNightPlanned items move budget planned →
    NightPlanMeans items move planned

-- Where routers are ranked and every one begins in Old

abbrev pub PlansAreOne : Migration → Type 0
PlansAreOne move =
    (budget : ℕ) (planned other : Planned) → IsPlanned move budget planned →
    IsPlanned move budget other → planned ≡ other

-- a wave list is seamless, and so is the order that writes it wave by wave, in number order in each
pub record AreSeamlessWithOrder (move : Migration) (ranks : List ℕ) : Type 0 where
  pub waves : AreSeamlessWaves move ranks
  pub order : IsSeamless move (flat_of ranks)

-- what was found means: waves are seamless, and a closed tree leaves none that is
abbrev pub FoundMeans : Migration → Found → Type 0
FoundMeans move (Waves ranks pairs chain trail) = AreSeamlessWithOrder move ranks
FoundMeans move (Refuted tree) = HasNoneSeamless move
FoundMeans move (Spent tree) = Unit {0}

-- what a plan means where every router begins in Old: an end that isn't sound leaves none either
abbrev pub PlanMeans : Migration → Planned → Type 0
PlanMeans move (UnsoundOld fault) = HasNoneSeamless move
PlanMeans move (UnsoundNew fault) = HasNoneSeamless move
PlanMeans move (Searched found) = FoundMeans move found

abbrev pub PlansMean : Migration → Type 0
PlansMean move =
    (budget : ℕ) (planned : Planned) → BeginsOld move → IsPlanned move budget planned → PlanMeans move planned
