-- Tables with the same entries at the routers of the network act alike.
use Rattle.std.proofs.Common.{arith}
use Rattle.std.proofs.lemmas.Grind.{common_steps}
use Rattle.std.proofs.Common.{ℕ, ◌<◌, ◌↔◌, List, [], ◌∷◌, length}
use Rattle.net_addr.specs.Addresses.{Block}
use Rattle.order_core.specs.declared.turn.Turn.{Turn}
use Rattle.igp_theory.specs.Forwarding.{Usable, Counts, connected_counts, old_counts, new_counts, Uses, Steps, HasStep}
use Rattle.igp_theory.specs.Laws.{HaveSameTables}
use Rattle.igp_theory.specs.Loops.{IsTag, EachToNext, AroundRing, IsLoop, Arises, Fault, IsLive, IsLowestLive, IsLowestLiveHop, IsFoundRing, IsFault}
use Rattle.igp_theory.specs.Loops.{missing_step, loop_arises, IsFirstFault}
use Rattle.igp_theory.specs.Migrations.{Migration, retabled}
use Rattle.igp_theory.specs.Routes.{Tables}
use Rattle.igp_theory.specs.Phases.{State}
use Rattle.igp_theory.specs.States.{StepsIn, Follows, IsSoundAt, IsSound, IsSeamless}
use Rattle.igp_theory.specs.declared.phase.Phase.{Phase}
use Rattle.igp_theory.proofs.Tags.{tags_over}

pub same_tables_sym : {move : Migration} {old' new' : Tables} → HaveSameTables move old' new' →
    HaveSameTables (retabled move old' new') move.old move.new
same_tables_sym same = grind (arith, common_steps)

-- Used entries and steps

counts_over : {move : Migration} {old' new' : Tables} {u d : ℕ} {phase : Phase} {p : Block} {x : Usable} →
    HaveSameTables move old' new' → u < length move.net → Counts move u phase p d x → Counts (retabled move old' new') u phase p d x
counts_over same within (connected_counts is) = connected_counts is
counts_over {u = u} {p = p} same within (old_counts {e = e} counts c has is set entry) =
    old_counts counts c has is set ((same.same_old u p e within).0 entry)
counts_over {u = u} {p = p} same within (new_counts {e = e} counts entry) =
    new_counts counts ((same.same_new u p e within).0 entry)

-- the used entries are the same
pub uses_over : {move : Migration} {old' new' : Tables} {u a : ℕ} {phase : Phase} {x : Usable} →
    HaveSameTables move old' new' → u < length move.net → Uses move u phase a x → Uses (retabled move old' new') u phase a x
uses_over same within uses = record {
  prefix = uses.prefix;
  distance = uses.distance;
  counts = counts_over same within uses.counts;
  contains = uses.contains;
  longest = λ q d other counts. uses.longest q d other (counts_over (same_tables_sym same) within counts);
  lowest = λ q d other counts. uses.lowest q d other (counts_over (same_tables_sym same) within counts);
}

-- the steps are the same
pub steps_over : {move : Migration} {old' new' : Tables} {u a h : ℕ} {phase : Phase} →
    HaveSameTables move old' new' → Steps move u phase a h → Steps (retabled move old' new') u phase a h
steps_over same steps = record {
  must = steps.must;
  used = steps.used;
  uses = uses_over same steps.must.router steps.uses;
  leads = steps.leads;
}

pub has_step_over : {move : Migration} {old' new' : Tables} {u a : ℕ} {phase : Phase} →
    HaveSameTables move old' new' → HasStep move u phase a → HasStep (retabled move old' new') u phase a
has_step_over same has = record { hop = has.hop; steps = steps_over same has.steps }

-- States and orders

-- a list of steps is a list of steps of every relation that holds wherever this one does
pub follows_over : {step other : ℕ → ℕ → Type 0} → ((u h : ℕ) → step u h → other u h) →
    (u : ℕ) (hops : List ℕ) (v : ℕ) → Follows step u hops v → Follows other u hops v
follows_over over u [] v follows = follows
follows_over over u (h ∷ hops) v follows = (over u h follows.0, follows_over over h hops v follows.1)

pub sound_at_over : {move : Migration} {old' new' : Tables} {state : State} {a : ℕ} →
    HaveSameTables move old' new' → IsSoundAt move state a → IsSoundAt (retabled move old' new') state a
sound_at_over same sound = record {
  forwards = λ u must. has_step_over same (sound.forwards u must);
  returns_never = λ u h hops follows.
      sound.returns_never u h hops (follows_over (λ v k. steps_over (same_tables_sym same)) u (h ∷ hops) u follows);
}

-- the sound states are the same
pub sound_over : {move : Migration} {old' new' : Tables} {state : State} →
    HaveSameTables move old' new' → IsSound move state → IsSound (retabled move old' new') state
sound_over same sound a address = sound_at_over same (sound a address)

-- the seamless orders are the same
pub seamless_over : {move : Migration} {old' new' : Tables} {order : List ℕ} →
    HaveSameTables move old' new' → IsSeamless move order → IsSeamless (retabled move old' new') order
seamless_over same seamless = record {
  lists = seamless.lists;
  sound = λ k within. sound_over same (seamless.sound k within);
}

-- Rings

pub each_to_next_over : {A : Type 0} {R S : A → A → Type 0} → ((r s : A) → R r s → S r s) → (first : A) (ring : List A) →
    EachToNext R first ring → EachToNext S first ring
each_to_next_over over first [] goes = tt
each_to_next_over over first (r ∷ []) goes = over r first goes
each_to_next_over over first (r ∷ s ∷ rest) goes = (over r s goes.0, each_to_next_over over first (s ∷ rest) goes.1)

pub around_ring_over : {A : Type 0} {R S : A → A → Type 0} → ((r s : A) → R r s → S r s) → (ring : List A) →
    AroundRing R ring → AroundRing S ring
around_ring_over over [] goes = tt
around_ring_over over (r ∷ rest) goes = each_to_next_over over r (r ∷ rest) goes

pub tag_over : {move : Migration} {old' new' : Tables} {a next : ℕ} {r : Turn} →
    HaveSameTables move old' new' → IsTag move a r next → IsTag (retabled move old' new') a r next
tag_over {r = r} same tag = record {
  steps = tags_over r.tag (steps_over same, steps_over (same_tables_sym same)) (steps_over same, steps_over (same_tables_sym same)) tag.steps;
}

-- the loops of the network are the same
pub loop_over : {move : Migration} {old' new' : Tables} {a : ℕ} {ring : List Turn} →
    HaveSameTables move old' new' → IsLoop move a ring → IsLoop (retabled move old' new') a ring
loop_over {ring = ring} same is = record {
  address = is.address;
  some = is.some;
  distinct = is.distinct;
  tags = around_ring_over (λ (r s : Turn). tag_over {next = s.router} {r = r} same) ring is.tags;
}

pub arises_over : {move : Migration} {old' new' : Tables} (state : State) (a : ℕ) (ring : List Turn) →
    HaveSameTables move old' new' → Arises move state a ring → Arises (retabled move old' new') state a ring
arises_over state a ring same arises =
    around_ring_over (λ (r s : Turn). steps_over {u = r.router} {a = a} {h = s.router} {phase = state r.router} same) ring arises

-- The ring that is found

-- two relations lead to the same hops
abbrev pub SameHops : (ℕ → ℕ → Type 0) → (ℕ → ℕ → Type 0) → Type 0
SameHops step other = (u h : ℕ) → step u h ↔ other u h

pub same_hops_sym : {step other : ℕ → ℕ → Type 0} → SameHops step other → SameHops other step
same_hops_sym same u h = ((same u h).1, (same u h).0)

pub live_over : {step other : ℕ → ℕ → Type 0} {n u : ℕ} → SameHops step other → IsLive step n u → IsLive other n u
live_over {u = u} same live = record {
  hops = live.hops;
  last = live.last;
  many = live.many;
  follows = follows_over (λ v h. (same v h).0) u live.hops live.last live.follows;
}

lowest_live_over : {step other : ℕ → ℕ → Type 0} {n u : ℕ} → SameHops step other → IsLowestLive step n u → IsLowestLive other n u
lowest_live_over same is = record {
  live = live_over same is.live;
  lowest = λ v live. is.lowest v (live_over (same_hops_sym same) live);
}

lowest_live_hop_over : {step other : ℕ → ℕ → Type 0} {n u h : ℕ} → SameHops step other → IsLowestLiveHop step n u h →
    IsLowestLiveHop other n u h
lowest_live_hop_over {u = u} {h = h} same is = record {
  steps = (same u h).0 is.steps;
  live = live_over same is.live;
  lowest = λ v steps live. is.lowest v ((same u v).1 steps) (live_over (same_hops_sym same) live);
}

-- the ring that is found is the same
pub found_ring_over : {step other : ℕ → ℕ → Type 0} {n : ℕ} {ring : List ℕ} → SameHops step other → IsFoundRing step n ring →
    IsFoundRing other n ring
found_ring_over same is = record {
  start = is.start;
  visited = is.visited;
  begins = lowest_live_over same is.begins;
  lead = is.lead;
  again = is.again;
  rest = is.rest;
  in_order = is.in_order;
  distinct = is.distinct;
  goes = each_to_next_over (λ (r s : ℕ). lowest_live_hop_over {u = r} {h = s} same) is.again (is.start ∷ is.visited) is.goes;
  front = is.front;
  back = is.back;
  found = is.found;
  turned = is.turned;
  lowest = is.lowest;
  others = is.others;
  first = is.first;
  least = is.least;
}

-- Faults

same_steps_in : {move : Migration} {old' new' : Tables} (state : State) (a : ℕ) →
    HaveSameTables move old' new' → SameHops (StepsIn move state a) (StepsIn (retabled move old' new') state a)
same_steps_in state a same u h = (steps_over same, steps_over (same_tables_sym same))

-- the faults of a state are the same
pub fault_over : {move : Migration} {old' new' : Tables} {state : State} {fault : Fault} →
    HaveSameTables move old' new' → IsFault move state fault → IsFault (retabled move old' new') state fault
fault_over same (missing_step address below must lacks lowest) =
    missing_step address (λ b less. sound_at_over same (below b less)) must
    (λ has. lacks (has_step_over (same_tables_sym same) has))
    (λ v less other. has_step_over same (lowest v less other))
fault_over {state = state} same (loop_arises {a = a} {ring = ring} address below forwards found tags) =
    loop_arises address (λ b less. sound_at_over same (below b less)) (λ v must. has_step_over same (forwards v must))
    (found_ring_over (same_steps_in state a same) found) (around_ring_over (λ (r s : Turn). tag_over {next = s.router} {r = r} same) ring tags)

-- the first fault of an order is the same
pub first_fault_over : {move : Migration} {old' new' : Tables} {order : List ℕ} {k : ℕ} {fault : Fault} →
    HaveSameTables move old' new' → IsFirstFault move order k fault → IsFirstFault (retabled move old' new') order k fault
first_fault_over same first = record {
  before = λ j less. sound_over same (first.before j less);
  here = fault_over same first.here;
}
