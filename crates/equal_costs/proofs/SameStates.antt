-- Where both protocols give the same entries a router steps in each phase as it does in Old, if it steps there.
use Rattle.std.proofs.Common.{◌≡◌, ◌≢◌, ℕ, ◌^◌, ◌<◌, ◌≤◌, inl, inr, List, [], ◌∷◌, length, refl, sym, ap, ◌∙◌, arith}
use Rattle.std.proofs.lemmas.Bool.{cases_lt}
use Rattle.std.proofs.lemmas.List.Elements.{All-contains}
use Rattle.std.proofs.lemmas.Option.{get_or_from_slice_get, same_Some, slice_get_within}
use Rattle.net_addr.specs.Addresses.{Block, ContainsAddress}
use Rattle.net_model.specs.Configuration.{Configuration, IsConfiguration}
use Rattle.net_model.specs.Network.{Network, Connected, HasConfiguration}
use Rattle.net_model.specs.Refusals.{IsNetwork}
use Rattle.net_model.specs.declared.bounds.TheConstants.{ISIS_DISTANCE, MOST_DISTANCE}
use Rattle.route_core.specs.declared.entry.Entry.{Entry}
use Rattle.igp_theory.specs.Forwarding.{Counts, connected_counts, old_counts, new_counts, Usable, connected, of_old, of_new, Steps}
use Rattle.igp_theory.specs.Forwarding.{HasStep, LeadsTo}
use Rattle.igp_theory.specs.Isis.{IsisEntry}
use Rattle.igp_theory.specs.Migrations.{Migration, migration, ospf_to_isis}
use Rattle.igp_theory.specs.Ospf.{OspfEntry}
use Rattle.igp_theory.specs.Phases.{State, all_old}
use Rattle.igp_theory.specs.Routes.{Tables, HaveSameEntries}
use Rattle.igp_theory.specs.States.{StepsIn, Follows, IsSound}
use Rattle.igp_theory.specs.declared.phase.Phase.{Phase}
use Rattle.igp_theory.specs.declared.phase.Phase.TheVariants.{Old, Middle, New}
use Rattle.equal_costs.specs.EqualCosts.{IsOneAreaAtEqualCosts}
use Rattle.equal_costs.proofs.SameTables.{same_tables}

-- the configuration of a router whose OSPF entries count
pub record HasOldDistance (net : Network) (u : ℕ) : Type 0 where
  pub config : Configuration
  pub router : HasConfiguration net u config
  pub far : config.distances.ospf ≢ MOST_DISTANCE
  pub some : 1 ≤ config.distances.ospf

module _ (net : Network) (old new : Tables) (same : HaveSameEntries net old new) (network : IsNetwork net) where
  abbrev move : Migration
  move = migration net old new

  -- a router that steps in Old has OSPF entries that count
  old_distance : (u a h : ℕ) → Steps move u Old a h → HasOldDistance net u
  old_distance u a h steps = by steps.uses.counts steps.leads
    where
      by : {p : Block} {d : ℕ} {used : Usable} → Counts move u Old p d used → LeadsTo used h → HasOldDistance net u
      by (connected_counts is) leads = absurd leads
      by (old_counts now c at is far entry) leads = record {
        config = c;
        router = at;
        far = λ most. far (sym is ∙ most);
        some = (All-contains IsConfiguration net c network.configurations (u, slice_get_within net u c at, get_or_from_slice_get net u c c at)).distances.some;
      }
      by (new_counts now entry) leads = absurd now

  module _ (u : ℕ) (u_in : u < length net) (its : HasOldDistance net u) where
    abbrev ospf : ℕ
    ospf = its.config.distances.ospf

    -- what counts in one phase counts in another, at some distance
    pub record CountsThere (phase : Phase) (p : Block) : Type 0 where
      pub distance : ℕ
      pub used : Usable
      pub counts : Counts move u phase p distance used

    in_old : {phase : Phase} {p : Block} {d : ℕ} {used : Usable} → Counts move u phase p d used → CountsThere Old p
    in_old (connected_counts is) = record { distance = 0; used = connected; counts = connected_counts is }
    in_old (old_counts {distance = d} {e = e} now c at is far entry) = record { distance = d; used = of_old e; counts = old_counts tt c at is far entry }
    in_old {p = p} (new_counts {e = e} now entry) = record {
      distance = ospf;
      used = of_old e;
      counts = old_counts tt its.config its.router refl its.far ((same u p e u_in).1 entry);
    }

    in_middle : {p : Block} {d : ℕ} {used : Usable} → Counts move u Old p d used → Counts move u Middle p d used
    in_middle (connected_counts is) = connected_counts is
    in_middle (old_counts now c at is far entry) = old_counts tt c at is far entry
    in_middle (new_counts now entry) = absurd now

    in_new : {p : Block} {d : ℕ} {used : Usable} → Counts move u Old p d used → CountsThere New p
    in_new (connected_counts is) = record { distance = 0; used = connected; counts = connected_counts is }
    in_new {p = p} (old_counts {e = e} now c at is far entry) = record {
      distance = ISIS_DISTANCE;
      used = of_new e;
      counts = new_counts tt ((same u p e u_in).0 entry);
    }
    in_new (new_counts now entry) = absurd now

    in_phase : (phase : Phase) {p : Block} {d : ℕ} {used : Usable} → Counts move u Old p d used → CountsThere phase p
    in_phase Old {d = d} {used = used} counts = record { distance = d; used = used; counts = counts }
    in_phase Middle {d = d} {used = used} counts = record { distance = d; used = used; counts = in_middle counts }
    in_phase New counts = in_new counts

    same_distance : (c : Configuration) → HasConfiguration net u c → c.distances.ospf ≡ ospf
    same_distance c at = ap (λ (x : Configuration). x.distances.ospf) (same_Some c its.config (sym at ∙ its.router))

    -- an entry that leads to h counts at a distance above that of connected prefixes, and is one of OSPF and of IS-IS
    record LeadsBy (p : Block) (d h : ℕ) : Type 0 where
      some : 1 ≤ d
      entry : Entry
      of_ospf : old u p entry
      leads : LeadsTo (of_old entry) h

    leads_by : {phase : Phase} {p : Block} {d h : ℕ} {used : Usable} → Counts move u phase p d used → LeadsTo used h → LeadsBy p d h
    leads_by (connected_counts is) leads = absurd leads
    leads_by (old_counts {e = e} now c at is far entry) leads = record {
      some = let at_least = its.some in let alike = same_distance c at in omega (arith, at_least, alike, is);
      entry = e;
      of_ospf = entry;
      leads = leads;
    }
    leads_by {p = p} (new_counts {e = e} now entry) leads = record { some = omega arith; entry = e; of_ospf = (same u p e u_in).1 entry; leads = leads }

    module _ (a h : ℕ) where
      -- in a phase no connected prefix that is as long counts, where the used entry leads on
      none_connected : (phase : Phase) (steps : Steps move u phase a h) (q : Block) → Connected net u q → ContainsAddress q a →
          q.len ≡ steps.uses.prefix.len → ⊥
      none_connected phase steps q is inside long =
          let low : steps.uses.distance ≤ 0 = steps.uses.lowest q 0 connected (connected_counts is) inside long in
          let some : 1 ≤ steps.uses.distance = (leads_by steps.uses.counts steps.leads).some in
          omega (arith, low, some)

      to_old : (phase : Phase) → Steps move u phase a h → Steps move u Old a h
      to_old phase steps = record {
        must = steps.must;
        used = of_old by.entry;
        uses = record {
          prefix = steps.uses.prefix;
          distance = ospf;
          counts = old_counts tt its.config its.router refl its.far by.of_ospf;
          contains = steps.uses.contains;
          longest = λ q d other counts inside.
              let there = in_phase phase counts in steps.uses.longest q there.distance there.used there.counts inside;
          lowest = λ q d other counts inside long. low q d other counts inside long;
        };
        leads = by.leads;
      }
        where
          by : LeadsBy steps.uses.prefix steps.uses.distance h
          by = leads_by steps.uses.counts steps.leads

          low : (q : Block) (d : ℕ) (other : Usable) → Counts move u Old q d other → ContainsAddress q a → q.len ≡ steps.uses.prefix.len → ospf ≤ d
          low q _ _ (connected_counts is) inside long = absurd (none_connected phase steps q is inside long)
          low q d _ (old_counts now c at is far entry) inside long = let alike = same_distance c at in omega (arith, alike, is)
          low q _ _ (new_counts now entry) inside long = absurd now

      module _ (steps : Steps move u Old a h) where
        by : LeadsBy steps.uses.prefix steps.uses.distance h
        by = leads_by steps.uses.counts steps.leads

        longest : {phase : Phase} (q : Block) (d : ℕ) (other : Usable) → Counts move u phase q d other → ContainsAddress q a →
            q.len ≤ steps.uses.prefix.len
        longest q d other counts inside = let there = in_old counts in steps.uses.longest q there.distance there.used there.counts inside

        none : (q : Block) → Connected net u q → ContainsAddress q a → q.len ≡ steps.uses.prefix.len → ⊥
        none q is inside long = none_connected Old steps q is inside long

        new_steps : Steps move u New a h
        new_steps = record {
          must = steps.must;
          used = of_new by.entry;
          uses = record {
            prefix = steps.uses.prefix;
            distance = ISIS_DISTANCE;
            counts = new_counts tt ((same u steps.uses.prefix by.entry u_in).0 by.of_ospf);
            contains = steps.uses.contains;
            longest = λ q d other counts inside. longest q d other counts inside;
            lowest = λ q d other counts inside long. low q d other counts inside long;
          };
          leads = by.leads;
        }
          where
            low : (q : Block) (d : ℕ) (other : Usable) → Counts move u New q d other → ContainsAddress q a → q.len ≡ steps.uses.prefix.len →
                ISIS_DISTANCE ≤ d
            low q _ _ (connected_counts is) inside long = absurd (none q is inside long)
            low q d _ (old_counts now c at is far entry) inside long = absurd now
            low q _ _ (new_counts now entry) inside long = omega arith

        -- behind the first change OSPF is used where its distance is the lower one, else IS-IS
        by_ospf : ospf ≤ ISIS_DISTANCE → Steps move u Middle a h
        by_ospf lower = record {
          must = steps.must;
          used = of_old by.entry;
          uses = record {
            prefix = steps.uses.prefix;
            distance = ospf;
            counts = old_counts tt its.config its.router refl its.far by.of_ospf;
            contains = steps.uses.contains;
            longest = λ q d other counts inside. longest q d other counts inside;
            lowest = λ q d other counts inside long. low q d other counts inside long;
          };
          leads = by.leads;
        }
          where
            low : (q : Block) (d : ℕ) (other : Usable) → Counts move u Middle q d other → ContainsAddress q a → q.len ≡ steps.uses.prefix.len → ospf ≤ d
            low q _ _ (connected_counts is) inside long = absurd (none q is inside long)
            low q d _ (old_counts now c at is far entry) inside long = let alike = same_distance c at in omega (arith, alike, is)
            low q _ _ (new_counts now entry) inside long = lower

        by_isis : ISIS_DISTANCE ≤ ospf → Steps move u Middle a h
        by_isis lower = record {
          must = steps.must;
          used = of_new by.entry;
          uses = record {
            prefix = steps.uses.prefix;
            distance = ISIS_DISTANCE;
            counts = new_counts tt ((same u steps.uses.prefix by.entry u_in).0 by.of_ospf);
            contains = steps.uses.contains;
            longest = λ q d other counts inside. longest q d other counts inside;
            lowest = λ q d other counts inside long. low q d other counts inside long;
          };
          leads = by.leads;
        }
          where
            low : (q : Block) (d : ℕ) (other : Usable) → Counts move u Middle q d other → ContainsAddress q a → q.len ≡ steps.uses.prefix.len →
                ISIS_DISTANCE ≤ d
            low q _ _ (connected_counts is) inside long = absurd (none q is inside long)
            low q d _ (old_counts now c at is far entry) inside long = let alike = same_distance c at in omega (arith, alike, is, lower)
            low q _ _ (new_counts now entry) inside long = omega arith

        from_old : (phase : Phase) → Steps move u phase a h
        from_old Old = steps
        from_old Middle = elim (cases_lt ospf ISIS_DISTANCE) [
          | inl lower ↦ by_ospf (omega (arith, lower))
          | inr higher ↦ by_isis higher
        ]
        from_old New = new_steps

  -- a state is sound where the one is in which every router is Old
  module _ (sound : IsSound move all_old) (state : State) where
    old_steps : (a u h : ℕ) → a < 2 ^ 32 → StepsIn move state a u h → Steps move u Old a h
    old_steps a u h small steps =
        let there : HasStep move u Old a = (sound a small).forwards u steps.must in
        to_old u steps.must.router (old_distance u a there.hop there.steps) a h (state u) steps

    old_list : (a u v : ℕ) (hops : List ℕ) → a < 2 ^ 32 → Follows (StepsIn move state a) u hops v → Follows (StepsIn move all_old a) u hops v
    old_list a u v [] small same_router = same_router
    old_list a u v (h ∷ hops) small steps = (old_steps a u h small steps.0, old_list a h v hops small steps.1)

    pub sound_too : IsSound move state
    sound_too a small = record {
      forwards = λ u must.
          let there : HasStep move u Old a = (sound a small).forwards u must in record {
            hop = there.hop;
            steps = from_old u must.router (old_distance u a there.hop there.steps) a there.hop there.steps (state u);
          };
      returns_never = λ u h hops steps. (sound a small).returns_never u h hops (old_list a u u (h ∷ hops) small steps);
    }

pub states_are_sound : (net : Network) (n : ℕ) (state : State) → IsNetwork net → IsOneAreaAtEqualCosts net n → IsSound (ospf_to_isis net) all_old →
    IsSound (ospf_to_isis net) state
states_are_sound net n state network is sound = sound_too net (OspfEntry net) (IsisEntry net) (same_tables net n is) network sound state
