-- Over tables with the same entries at the routers of the network the same is planned.
use Rattle.std.proofs.Common.{ℕ, List, get_or, All}
use Rattle.igp_theory.specs.Laws.{HaveSameTables}
use Rattle.igp_theory.specs.LoopLaws.{AreSoundEnds}
use Rattle.igp_theory.specs.Migrations.{Migration, retabled}
use Rattle.igp_theory.specs.Routes.{Tables}
use Rattle.igp_theory.specs.Changes.{Change, changed}
use Rattle.igp_theory.specs.TimetableLaws.{IsSwitch, MiddleStepsAs, at_first, at_second}
use Rattle.igp_theory.specs.declared.phase.Phase.{Phase}
use Rattle.igp_theory.specs.declared.phase.Phase.TheVariants.{Old, New}
use Rattle.igp_theory.proofs.SameTables.{fault_over, loop_over, same_tables_sym, sound_over, steps_over}
use Rattle.igp_theory.specs.Timetables.{Timetable, IsSoundThroughout}
use Rattle.igp_theory.specs.Loops.{IsLoop}
use Rattle.igp_theory.specs.Waves.{AreSeamlessWaves}
use Rattle.igp_theory.proofs.WaveFaultLaws.{seamless_waves_over, times_fault_over}
use Rattle.order_core.specs.declared.turn.Turn.{Turn}
use Rattle.order_search.specs.Answers.{FoundWaves, AreFoundWaves, IsFound, IsRefutation, IsSpent}
use Rattle.order_search.specs.Meanings.{Good, Meaning, Picked}
use Rattle.order_search.specs.Places.{IsEarned, IsFoundNode, StandsAt}
use Rattle.order_search.specs.Trees.{IsTreeNode, Place, Real}
use Rattle.order_search.specs.declared.found.Found.{Found}
use Rattle.order_search.specs.declared.found.Found.TheVariants.{Waves, Refuted, Spent}
use Rattle.order_search.specs.declared.tree.Node.{Node}
use Rattle.order_search.specs.declared.tree.Node.TheVariants.{Branch, Leaf, Unvisited}
use Rattle.order_search.proofs.Fills.{Fill-weaker}
use Rattle.plan_theory.specs.Plans.{IsNightPlanned, IsPlanned}
use Rattle.plan_theory.specs.Ranked.{NamesSwitch}
use Rattle.plan_theory.specs.WavesMeaning.{IsPickedFault, changes_meaning, night_meaning, waves_meaning}
use Rattle.plan_theory.specs.declared.items.Items.{Items}
use Rattle.plan_theory.specs.declared.items.Items.TheVariants.{Routers, Changes}
use Rattle.plan_theory.specs.declared.planned.Planned.{Planned}
use Rattle.plan_theory.specs.declared.planned.Planned.TheVariants.{UnsoundOld, UnsoundNew, Searched}

sound_throughout_over : {move : Migration} {old' new' : Tables} {time : Timetable} → HaveSameTables move old' new' →
    IsSoundThroughout move time → IsSoundThroughout (retabled move old' new') time
sound_throughout_over same sound = record { table = sound.table; sound = λ state is. sound_over same (sound.sound state is) }

-- the same is asked of a network, and of its other tables
record AsksOver (m m' : Meaning) : Type 0 where
  good_over : (ranks : List ℕ) → m.good ranks → m'.good ranks
  good_back : (ranks : List ℕ) → m'.good ranks → m.good ranks
  real_over : (a : ℕ) (turns : List Turn) → m.real a turns → m'.real a turns
  picked_over : (ranks : List ℕ) (a : ℕ) (turns : List Turn) → m.picked ranks a turns → m'.picked ranks a turns

module _ (m : Meaning) (good' : Good) (real' : Real) (picked' : Picked) where
  abbrev m' : Meaning
  m' = record m { good = good'; real = real'; picked = picked' }

  module _ (asks : AsksOver m m') where
    tree_node_over : (place : Place) (node : Node) → IsTreeNode m.real place node → IsTreeNode m'.real place node
    tree_node_over place (Branch a turns) is = (asks.real_over a turns is.0, is.1)
    tree_node_over place (Leaf cycle) is = is
    tree_node_over place Unvisited is = is

    earned_over : (place : Place) (node : Node) → IsEarned m.picked m.size place node → IsEarned m'.picked m'.size place node
    earned_over place (Branch a turns) earned =
        record { ranks = earned.ranks; layered = earned.layered; pick = asks.picked_over earned.ranks a turns earned.pick }
    earned_over place (Leaf cycle) earned = tt
    earned_over place Unvisited earned = tt

    -- so the search makes the same nodes
    found_node_over : (place : Place) (node : Node) → IsFoundNode m place node → IsFoundNode m' place node
    found_node_over place node is = record {
      is_node = tree_node_over place node is.is_node;
      earned = earned_over place node is.earned;
      least_cycle = is.least_cycle;
    }

    stands_over : {place : Place} {before : List Node} {later : List Place} → StandsAt m place before later → StandsAt m' place before later
    stands_over {before = before} stands = record {
      visited = stands.visited;
      fills = Fill-weaker (IsFoundNode m) (IsFoundNode m') found_node_over _ _ before stands.fills;
    }

    -- and finds the same
    found_waves_over : {budget : ℕ} {found : FoundWaves} → AreFoundWaves m budget found → AreFoundWaves m' budget found
    found_waves_over found = record {
      is_good = asks.good_over _ found.is_good;
      leads = record {
        before = found.leads.before;
        later = found.leads.later;
        ends = found.leads.ends;
        stands = stands_over found.leads.stands;
        layered = found.leads.layered;
      };
      within = found.within;
      chained = found.chained;
      fewest = found.fewest;
      neighbors = found.neighbors;
      turned = found.turned;
    }

    refutation_over : {budget : ℕ} {tree : List Node} → IsRefutation m budget tree → IsRefutation m' budget tree
    refutation_over {tree = tree} refutes = record {
      closed = record {
        tree = Fill-weaker (IsFoundNode m) (IsFoundNode m') found_node_over _ _ tree refutes.closed.tree;
        visited = refutes.closed.visited;
      };
      within = refutes.within;
    }

    spent_over : {budget : ℕ} {tree : List Node} → IsSpent m budget tree → IsSpent m' budget tree
    spent_over is =
        let stopped = is.stopped in
        record {
          stopped = record {
            before = stopped.before;
            place = stopped.place;
            later = stopped.later;
            ranks = stopped.ranks;
            ends = stopped.ends;
            stands = stands_over stopped.stands;
            layered = stopped.layered;
            bad = λ good. stopped.bad (asks.good_back stopped.ranks good);
            spent = stopped.spent;
          };
          path = is.path;
        }

    found_over : (budget : ℕ) (found : Found) → IsFound m budget found → IsFound m' budget found
    found_over budget (Waves ranks pairs chain trail) is = found_waves_over is
    found_over budget (Refuted tree) is = refutation_over is
    found_over budget (Spent tree) is = spent_over is

module _ (move : Migration) (old' new' : Tables) (same : HaveSameTables move old' new') where
  abbrev other : Migration
  other = retabled move old' new'

  -- routers

  waves_over : AsksOver (waves_meaning move) (waves_meaning other)
  waves_over = record {
    good_over = λ ranks seamless. seamless_waves_over same seamless;
    good_back = λ ranks seamless. seamless_waves_over (same_tables_sym same) seamless;
    real_over = λ a turns loops. loop_over same loops;
    picked_over = λ ranks a turns told. record { wave = told.wave; is_fault = times_fault_over same told.is_fault };
  }

  -- single changes

  switch_over : (a : ℕ) (t : Turn) → NamesSwitch move a t → NamesSwitch (retabled move old' new') a t
  switch_over a t names = record { change = names.change; named = names.named; switch = of_switch (changed names.change) names.change names.switch }
    where
      as_phase : (u : ℕ) (phase : Phase) → MiddleStepsAs move u a phase → MiddleStepsAs (retabled move old' new') u a phase
      as_phase u phase alike h = (
        λ steps. steps_over same ((alike h).0 (steps_over (same_tables_sym same) steps)),
        λ steps. steps_over same ((alike h).1 (steps_over (same_tables_sym same) steps)),
      )

      back : (u : ℕ) (phase : Phase) → MiddleStepsAs (retabled move old' new') u a phase → MiddleStepsAs move u a phase
      back u phase alike h = (
        λ steps. steps_over (same_tables_sym same) ((alike h).0 (steps_over same steps)),
        λ steps. steps_over (same_tables_sym same) ((alike h).1 (steps_over same steps)),
      )

      of_switch : (u : ℕ) (c : Change) → IsSwitch move u a c → IsSwitch (retabled move old' new') u a c
      of_switch u _ (at_first as_new) = at_first (as_phase u New as_new)
      of_switch u _ (at_second as_old not_new) = at_second (as_phase u Old as_old) (λ alike. not_new (back u New alike))

  all_named : (a : ℕ) (turns : List Turn) → All (NamesSwitch move a) turns → All (NamesSwitch other a) turns
  all_named a turns named k d within = switch_over a (get_or turns k d) (named k d within)

  changes_over : AsksOver (changes_meaning move) (changes_meaning other)
  changes_over = record {
    good_over = λ ranks good. record { waves = good.waves; keeps = good.keeps; throughout = sound_throughout_over same good.throughout };
    good_back = λ ranks good.
        record { waves = good.waves; keeps = good.keeps; throughout = sound_throughout_over (same_tables_sym same) good.throughout };
    real_over = λ a turns loops. record { is_loop = loop_over same loops.is_loop; named = all_named a turns loops.named };
    picked_over = λ ranks a turns told.
        record { wave = told.wave; is_fault = times_fault_over same told.is_fault; named = all_named a turns told.named };
  }

  -- what is real stays so
  pub real_stays : (items : Items) (a : ℕ) (turns : List Turn) → (night_meaning items move).real a turns → (night_meaning items other).real a turns
  real_stays Routers = waves_over.real_over
  real_stays Changes = changes_over.real_over

  items_found_over : (items : Items) (budget : ℕ) (found : Found) → IsFound (night_meaning items move) budget found →
      IsFound (night_meaning items other) budget found
  items_found_over Routers = found_over (waves_meaning move) (AreSeamlessWaves other) (IsLoop other) (IsPickedFault other) waves_over
  items_found_over Changes =
      found_over (changes_meaning move) (changes_meaning other).good (changes_meaning other).real (changes_meaning other).picked changes_over

  ends_over : AreSoundEnds move → AreSoundEnds other
  ends_over ends = record { first = sound_over same ends.first; last = sound_over same ends.last }

  -- so the same is planned
  pub night_planned_over : (items : Items) (budget : ℕ) (planned : Planned) → IsNightPlanned items move budget planned →
      IsNightPlanned items other budget planned
  night_planned_over items budget (UnsoundOld fault) is = fault_over same is
  night_planned_over items budget (UnsoundNew fault) is = record { first = sound_over same is.first; last = fault_over same is.last }
  night_planned_over items budget (Searched found) is =
      record { ends = ends_over is.ends; is_found = items_found_over items budget found is.is_found }

  pub planned_over : (budget : ℕ) (planned : Planned) → IsPlanned move budget planned → IsPlanned (retabled move old' new') budget planned
  planned_over = night_planned_over Routers
