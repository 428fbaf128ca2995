-- From a network at its start: in each state the distances of the configurations tell the phases.
use Rattle.std.proofs.Common.{◌≡◌, ◌≢◌, ℕ, ◌+◌, zero, suc, true, Bool, false, cond, [], ◌∷◌, Some, IsTrue, IsSome, refl, sym, ap, ◌∙◌, subst}
use Rattle.std.proofs.Common.{inr, arith}
use Rattle.std.specs.Prelude.{option_map, slice_get, is_some, Option, None}
use Rattle.std.proofs.lemmas.Option.{same_Some}
use Rattle.net_addr.specs.Addresses.{Block}
use Rattle.net_model.specs.Configuration.{Configuration}
use Rattle.net_model.specs.Network.{Network, HasConfiguration, InArea, IsBorderRouter}
use Rattle.net_model.specs.OffStarts.{StartsOff}
use Rattle.net_model.specs.declared.bounds.TheConstants.{ISIS_DISTANCE, MOST_DISTANCE}
use Rattle.route_core.specs.declared.entry.Entry.{Entry}
use Rattle.igp_theory.specs.Forwarding.{Usable, of_old, of_new, Counts, OldCounts, NewCounts, connected_counts, old_counts, new_counts}
use Rattle.igp_theory.specs.Isis.{IsisEntry, level_one, level_two, down, default_route}
use Rattle.igp_theory.specs.Migrations.{ospf_to_isis}
use Rattle.igp_theory.specs.Ospf.{OspfEntry, intra_area, discard, inter_area, ListensTo, backbone, one_area}
use Rattle.igp_theory.specs.Phases.{State}
use Rattle.igp_theory.specs.declared.phase.Phase.{Phase}
use Rattle.igp_theory.specs.declared.phase.Phase.TheVariants.{Old, Middle, New}
use Rattle.applied_changes.specs.AppliedTexts.{with_distances, after_first, after_second, in_phase}
use Rattle.typed_distances.specs.TypedDistances.{CountsByDistance, ospf_counts, isis_counts, network_from, network_in}
use Rattle.typed_distances.specs.TypedDistances.{AreSameBarDistances, AreasHaveProcesses, DistancesTellPhases}
use Rattle.typed_distances.proofs.SameBarDistances.{flip, connected_over, ospf_over, isis_over}

-- ---- a configuration in a phase ----

either_is : {A B : Type 0} (f : A → B) (v : B) (b : Bool) (x y : A) → f x ≡ v → f y ≡ v → f (cond b x y) ≡ v
either_is f v true x y one other = one
either_is f v false x y one other = other

-- it differs in its distances alone
first_alike : (c : Configuration) → with_distances 0 0 (after_first c) ≡ with_distances 0 0 c
first_alike c = either_is (with_distances 0 0) (with_distances 0 0 c) c.isis (with_distances c.distances.ospf ISIS_DISTANCE c) c refl refl

pub phase_alike : (phase : Phase) (c : Configuration) → with_distances 0 0 (in_phase phase c) ≡ with_distances 0 0 c
phase_alike Old c = refl
phase_alike Middle c = first_alike c
phase_alike New c =
    either_is (with_distances 0 0) (with_distances 0 0 c) (is_some (after_first c).process)
    (with_distances MOST_DISTANCE (after_first c).distances.isis (after_first c)) (after_first c) (first_alike c) (first_alike c)

-- the first change lets the distance of OSPF be, and the second one that of IS-IS
ospf_kept : (c : Configuration) → (after_first c).distances.ospf ≡ c.distances.ospf
ospf_kept c =
    either_is (λ (x : Configuration). x.distances.ospf) c.distances.ospf c.isis (with_distances c.distances.ospf ISIS_DISTANCE c) c refl refl

isis_kept : (c : Configuration) → (after_second c).distances.isis ≡ c.distances.isis
isis_kept c =
    either_is (λ (x : Configuration). x.distances.isis) c.distances.isis (is_some c.process) (with_distances MOST_DISTANCE c.distances.isis c) c refl refl

isis_after : (c : Configuration) → IsTrue c.isis → (after_first c).distances.isis ≡ ISIS_DISTANCE
isis_after c runs = ap (λ b. (cond b (with_distances c.distances.ospf ISIS_DISTANCE c) c).distances.isis) runs

ospf_after : (c : Configuration) → IsSome c.process → (after_second (after_first c)).distances.ospf ≡ MOST_DISTANCE
ospf_after c runs =
    let there : is_some (after_first c).process ≡ true = ap (λ (x : Configuration). is_some x.process) (phase_alike Middle c) ∙ runs in
    ap (λ b. (cond b (with_distances MOST_DISTANCE (after_first c).distances.isis (after_first c)) (after_first c)).distances.ospf) there

-- where OSPF counts its distance is that of the start, and where IS-IS counts it is that of IS-IS
ospf_while : (phase : Phase) (c : Configuration) → OldCounts phase → (in_phase phase c).distances.ospf ≡ c.distances.ospf
ospf_while Old c now = refl
ospf_while Middle c now = ospf_kept c
ospf_while New c now = absurd now

isis_while : (phase : Phase) (c : Configuration) → NewCounts phase → IsTrue c.isis → (in_phase phase c).distances.isis ≡ ISIS_DISTANCE
isis_while Old c now runs = absurd now
isis_while Middle c now runs = isis_after c runs
isis_while New c now runs = isis_kept (after_first c) ∙ isis_after c runs

-- ---- a network in a state ----

get_from : (v : ℕ) (state : State) (net : Network) (u : ℕ) →
    slice_get (network_from v state net) u ≡ option_map (in_phase (state (v + u))) (slice_get net u)
get_from v state [] u = refl
get_from v state (c ∷ net) zero = ap (λ n. Some (in_phase (state n) c)) (let e : v ≡ v + 0 = omega arith in e)
get_from v state (c ∷ net) (suc u) =
    get_from (v + 1) state net u ∙ ap (λ n. option_map (in_phase (state n)) (slice_get net u)) (let e : v + 1 + u ≡ v + suc u = omega arith in e)

get_in : (state : State) (net : Network) (u : ℕ) → slice_get (network_in state net) u ≡ option_map (in_phase (state u)) (slice_get net u)
get_in state net u = get_from 0 state net u ∙ ap (λ n. option_map (in_phase (state n)) (slice_get net u)) (let e : 0 + u ≡ u = omega arith in e)

router_there : (state : State) (net : Network) (u : ℕ) (c : Configuration) → HasConfiguration net u c →
    HasConfiguration (network_in state net) u (in_phase (state u) c)
router_there state net u c at = get_in state net u ∙ ap (option_map (in_phase (state u))) at

-- the configuration at the start of a router of the state
pub record CameFrom (state : State) (net : Network) (u : ℕ) (d : Configuration) : Type 0 where
  pub config : Configuration
  pub router : HasConfiguration net u config
  pub leads : in_phase (state u) config ≡ d

came_by : (state : State) (net : Network) (u : ℕ) (d : Configuration) (found : Option Configuration) → slice_get net u ≡ found →
    option_map (in_phase (state u)) found ≡ Some d → CameFrom state net u d
came_by state net u d None at gives = absurd (let clash : None ≡ Some d = gives in cc)
came_by state net u d (Some c) at gives = record { config = c; router = at; leads = same_Some (in_phase (state u) c) d gives }

came_from : (state : State) (net : Network) (u : ℕ) (d : Configuration) → HasConfiguration (network_in state net) u d → CameFrom state net u d
came_from state net u d at = came_by state net u d (slice_get net u) refl (sym (get_in state net u) ∙ at)

pub bar_distances : (state : State) (net : Network) → AreSameBarDistances net (network_in state net)
bar_distances state net = record {
  there = λ u c at. record {
    config = in_phase (state u) c;
    router = router_there state net u c at;
    alike = phase_alike (state u) c;
  };
  back = λ u d at.
      let its : CameFrom state net u d = came_from state net u d at in record {
        config = its.config;
        router = its.router;
        alike = sym (phase_alike (state u) its.config) ∙ ap (with_distances 0 0) its.leads;
      };
}

-- ---- entries and processes ----

-- a router that has an entry of OSPF runs OSPF on an interface
pub record RunsOspf (net : Network) (u : ℕ) : Type 0 where
  pub area : ℕ
  pub inside : InArea net u area

border_runs : (net : Network) (u : ℕ) → IsBorderRouter net u → RunsOspf net u
border_runs net u border = record { area = border.one; inside = border.in_one }

listener_runs : (net : Network) (u n : ℕ) → ListensTo net u n → RunsOspf net u
listener_runs net u _ (backbone border) = border_runs net u border
listener_runs net u n (one_area inner inside) = record { area = n; inside = inside }

entry_runs : (net : Network) (u : ℕ) (p : Block) (e : Entry) → OspfEntry net u p e → RunsOspf net u
entry_runs net u p e (intra_area away is forwards) = record { area = is.area; inside = is.costs.inside }
entry_runs net u p e (discard away no_intra is dropped) = border_runs net u is.active.component.range.border
entry_runs net u p e (inter_area away cost costs forwards) = listener_runs net u costs.area costs.listens

-- so it has a process, and a router that has an entry of IS-IS runs IS-IS
entry_process : (net : Network) → AreasHaveProcesses net → (u : ℕ) (p : Block) (e : Entry) (c : Configuration) → HasConfiguration net u c →
    OspfEntry net u p e → IsSome c.process
entry_process net have u p e c at entry =
    let runs : RunsOspf net u = entry_runs net u p e entry in
    let up = runs.inside.up in
    let same : up.config ≡ c = same_Some up.config c (sym up.router ∙ at) in
    ap (λ (x : Configuration). is_some x.process) (sym same)
    ∙ have u up.config runs.inside.interface up.router up.among (ap is_some runs.inside.area)

isis_entry_runs : (net : Network) (u : ℕ) (p : Block) (e : Entry) (c : Configuration) → HasConfiguration net u c → IsisEntry net u p e → IsTrue c.isis
isis_entry_runs net u p e c at (level_one away has forwards) =
    let runs = has.costs.runs in ap (λ (x : Configuration). x.isis) (same_Some c runs.config (sym at ∙ runs.router)) ∙ runs.isis
isis_entry_runs net u p e c at (level_two away no_one has forwards) =
    let runs = has.costs.runs in ap (λ (x : Configuration). x.isis) (same_Some c runs.config (sym at ∙ runs.router)) ∙ runs.isis
isis_entry_runs net u p e c at (down away no_one no_two has forwards) =
    let runs = has.costs.runs in ap (λ (x : Configuration). x.isis) (same_Some c runs.config (sym at ∙ runs.router)) ∙ runs.isis
isis_entry_runs net u p e c at (default_route away no_one no_two no_down all cost costs forwards) =
    let runs = costs.runs in ap (λ (x : Configuration). x.isis) (same_Some c runs.config (sym at ∙ runs.router)) ∙ runs.isis

-- the configuration of a router that has an entry of IS-IS
pub record HasIsis (net : Network) (u : ℕ) : Type 0 where
  pub config : Configuration
  pub router : HasConfiguration net u config

isis_entry_at : (net : Network) (u : ℕ) (p : Block) (e : Entry) → IsisEntry net u p e → HasIsis net u
isis_entry_at net u p e (level_one away has forwards) = record { config = has.costs.runs.config; router = has.costs.runs.router }
isis_entry_at net u p e (level_two away no_one has forwards) = record { config = has.costs.runs.config; router = has.costs.runs.router }
isis_entry_at net u p e (down away no_one no_two has forwards) = record { config = has.costs.runs.config; router = has.costs.runs.router }
isis_entry_at net u p e (default_route away no_one no_two no_down all cost costs forwards) = record { config = costs.runs.config; router = costs.runs.router }

-- ---- by distances and by phases ----

module _ (net : Network) (have : AreasHaveProcesses net) (start : (u : ℕ) → StartsOff net u → ⊥) (state : State) (u : ℕ) (p : Block) where
  over : AreSameBarDistances net (network_in state net)
  over = bar_distances state net

  by_distance : {distance : ℕ} {used : Usable} → Counts (ospf_to_isis net) u (state u) p distance used →
      CountsByDistance (network_in state net) u p distance used
  by_distance (connected_counts is) = CountsByDistance.connected_counts (connected_over over u p is)
  by_distance (old_counts {e = e} now c at is far entry) =
      ospf_counts (in_phase (state u) c) (router_there state net u c at)
      (ap (λ (x : Configuration). is_some x.process) (phase_alike (state u) c) ∙ entry_process net have u p e c at entry)
      (ospf_while (state u) c now ∙ is) far (ospf_over over u p e entry)
  by_distance (new_counts {e = e} now entry) =
      let its : HasIsis net u = isis_entry_at net u p e entry in
      let runs : IsTrue its.config.isis = isis_entry_runs net u p e its.config its.router entry in
      isis_counts (in_phase (state u) its.config) (router_there state net u its.config its.router)
      (ap (λ (x : Configuration). x.isis) (phase_alike (state u) its.config) ∙ runs) (isis_while (state u) its.config now runs)
      (let far : ISIS_DISTANCE ≢ MOST_DISTANCE = λ same. omega (arith, same) in far) (isis_over over u p e entry)

  -- an entry of OSPF that counts by its distance is one of a router that is Old or in Middle
  old_by : (phase : Phase) → state u ≡ phase → {distance : ℕ} {e : Entry} (d : Configuration) → HasConfiguration (network_in state net) u d →
      IsSome d.process → d.distances.ospf ≡ distance → distance ≢ MOST_DISTANCE → OspfEntry (network_in state net) u p e →
      Counts (ospf_to_isis net) u phase p distance (of_old e)
  old_by New in_new d at runs is far entry =
      let its : CameFrom state net u d = came_from state net u d at in
      let leads : in_phase New its.config ≡ d = ap (λ phase. in_phase phase its.config) (sym in_new) ∙ its.leads in
      let process : IsSome its.config.process =
      ap (λ (x : Configuration). is_some x.process) (sym (phase_alike New its.config)) ∙ ap (λ (x : Configuration). is_some x.process) leads ∙ runs in
      absurd (far (sym is ∙ ap (λ (x : Configuration). x.distances.ospf) (sym leads) ∙ ospf_after its.config process))
  old_by Old in_old {e = e} d at runs is far entry =
      let its : CameFrom state net u d = came_from state net u d at in
      let leads : in_phase Old its.config ≡ d = ap (λ phase. in_phase phase its.config) (sym in_old) ∙ its.leads in
      old_counts tt its.config its.router (ap (λ (x : Configuration). x.distances.ospf) leads ∙ is) far (ospf_over (flip over) u p e entry)
  old_by Middle in_middle {e = e} d at runs is far entry =
      let its : CameFrom state net u d = came_from state net u d at in
      let leads : in_phase Middle its.config ≡ d = ap (λ phase. in_phase phase its.config) (sym in_middle) ∙ its.leads in
      old_counts tt its.config its.router (sym (ospf_kept its.config) ∙ ap (λ (x : Configuration). x.distances.ospf) leads ∙ is) far
      (ospf_over (flip over) u p e entry)

  -- one of IS-IS is one of a router that is in Middle or New
  new_by : (phase : Phase) → state u ≡ phase → {distance : ℕ} {e : Entry} (d : Configuration) → HasConfiguration (network_in state net) u d →
      IsTrue d.isis → d.distances.isis ≡ distance → distance ≢ MOST_DISTANCE → IsisEntry (network_in state net) u p e →
      Counts (ospf_to_isis net) u phase p distance (of_new e)
  new_by phase in_it {distance = distance} {e = e} d at runs is far entry = by phase in_it
    where
      its : CameFrom state net u d
      its = came_from state net u d at

      leads : (phase : Phase) → state u ≡ phase → in_phase phase its.config ≡ d
      leads phase in_it = ap (λ phase. in_phase phase its.config) (sym in_it) ∙ its.leads

      isis : (phase : Phase) → state u ≡ phase → IsTrue its.config.isis
      isis phase in_it =
          ap (λ (x : Configuration). x.isis) (sym (phase_alike phase its.config)) ∙ ap (λ (x : Configuration). x.isis) (leads phase in_it) ∙ runs

      at_isis : (phase : Phase) → state u ≡ phase → NewCounts phase → Counts (ospf_to_isis net) u phase p distance (of_new e)
      at_isis phase in_it now =
          let known : ISIS_DISTANCE ≡ distance =
          sym (isis_while phase its.config now (isis phase in_it)) ∙ ap (λ (x : Configuration). x.distances.isis) (leads phase in_it) ∙ is in
          let P : ℕ → Type 0 = λ n. Counts (ospf_to_isis net) u phase p n (of_new e) in
          subst P known (new_counts now (isis_over (flip over) u p e entry))

      by : (phase : Phase) → state u ≡ phase → Counts (ospf_to_isis net) u phase p distance (of_new e)
      by Old in_it = absurd (start u (record {
        config = its.config;
        router = its.router;
        off = inr (isis Old in_it, λ most. far (sym is ∙ sym (ap (λ (x : Configuration). x.distances.isis) (leads Old in_it)) ∙ most));
      }))
      by Middle in_it = at_isis Middle in_it tt
      by New in_it = at_isis New in_it tt

  by_phase : {distance : ℕ} {used : Usable} → CountsByDistance (network_in state net) u p distance used →
      Counts (ospf_to_isis net) u (state u) p distance used
  by_phase (CountsByDistance.connected_counts is) = connected_counts (connected_over (flip over) u p is)
  by_phase (ospf_counts d at runs is far entry) = old_by (state u) refl d at runs is far entry
  by_phase (isis_counts d at runs is far entry) = new_by (state u) refl d at runs is far entry

pub distances_tell : DistancesTellPhases
distances_tell net have start state u p distance used = (by_distance net have start state u p, by_phase net have start state u p)
