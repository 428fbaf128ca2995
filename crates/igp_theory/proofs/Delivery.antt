-- What sound means: lists of steps are short, and lead on until an originator is reached.
use Rattle.std.proofs.lemmas.Grind.{common_steps}
use Rattle.std.proofs.Common.{refl, Option, Some, IsTrue, ap, ◌∙◌, ◌≡◌, ◌≢◌, ℕ, zero, suc, ◌+◌, ◌^◌, ◌<◌, ◌≤◌}
use Rattle.std.proofs.Common.{◌⊎◌, inl, inr, List, [], ◌∷◌, ◌++◌, length, Contains, arith, sym, subst}
use Rattle.std.specs.List.{AllPairs}
use Rattle.std.proofs.lemmas.Bool.{cases_eq, cases_Bool, eqb-true, false≢true}
use Rattle.std.proofs.lemmas.Bool.Decides.{Decides-eqb}
use Rattle.std.proofs.lemmas.Map.Made.{IsDistinct-from_AllPairs}
use Rattle.std.proofs.lemmas.Map.Steps.{length-le_from_distinct_below}
use Rattle.std.proofs.lemmas.Map.Views.{Contains-from_any}
use Rattle.std.proofs.lemmas.List.{length-append}
use Rattle.std.proofs.lemmas.Option.{same_Some, slice_get_within, slice_get_cases}
use Rattle.net_addr.specs.Addresses.{Block}
use Rattle.net_model.specs.Configuration.{Configuration}
use Rattle.net_model.specs.declared.interface.Interface.{Interface}
use Rattle.net_model.specs.Network.{Network, UpInterface, Connected}
use Rattle.route_core.specs.declared.entry.Entry.{Entry}
use Rattle.igp_theory.specs.Forwarding.{Usable, Counts, connected_counts, old_counts, new_counts, LeadsTo, IsTarget, Steps}
use Rattle.igp_theory.specs.Isis.{IsisEntry}
use Rattle.igp_theory.specs.Laws.{IsOspfNeighbor, IsIsisNeighbor}
use Rattle.igp_theory.specs.Migrations.{Migration}
use Rattle.igp_theory.specs.Ospf.{OspfEntry}
use Rattle.igp_theory.specs.Routes.{EntryLeadsTo}
use Rattle.igp_theory.specs.Phases.{State}
use Rattle.igp_theory.specs.States.{StepsIn, Follows, IsSoundAt, IsSound}
use Rattle.igp_theory.specs.WaveLaws.{HopsAreRouters, Delivers}
use Rattle.igp_theory.specs.declared.phase.Phase.{Phase}
use Rattle.net_model.proofs.Members.{Contains-none, Contains-first, Contains-rest, Contains-cases}
use Rattle.igp_theory.proofs.OrderedLists.{pairs_none, pairs_more}
use Rattle.igp_theory.proofs.TableLaws.{ospf_hop_is_neighbor, isis_hop_is_neighbor}

-- Hops are routers

up_is_router : {net : Network} (u : ℕ) {i : _} → UpInterface net u i → u < length net
up_is_router {net} u up = slice_get_within net u up.config up.router

pub ospf_hop_is_router : (net : Network) (u h : ℕ) (p : Block) (e : Entry) → OspfEntry net u p e → EntryLeadsTo e h → h < length net
ospf_hop_is_router net u h p e entry leads =
    let near : IsOspfNeighbor net u h = ospf_hop_is_neighbor entry leads in
    up_is_router h near.adjacent.far_up

pub isis_hop_is_router : (net : Network) (u h : ℕ) (p : Block) (e : Entry) → IsisEntry net u p e → EntryLeadsTo e h → h < length net
isis_hop_is_router net u h p e entry leads =
    let near : IsIsisNeighbor net u h = isis_hop_is_neighbor entry leads in
    elim near.adjacent [
      | inl one ↦ up_is_router h one.far_up
      | inr two ↦ up_is_router h two.far_up
    ]

leads_inside : {move : Migration} {u d h : ℕ} {phase : Phase} {p : Block} {x : Usable} → HopsAreRouters move.net move.old →
    HopsAreRouters move.net move.new →
    u < length move.net → Counts move u phase p d x → LeadsTo x h → h < length move.net
leads_inside in_old in_new below (connected_counts is) leads = absurd leads
leads_inside {u = u} {h = h} {p = p} in_old in_new below (old_counts {e = e} counts c has is set entry) leads = in_old u h p e below entry leads
leads_inside {u = u} {h = h} {p = p} in_old in_new below (new_counts {e = e} counts entry) leads = in_new u h p e below entry leads

pub steps_inside : {move : Migration} {u a h : ℕ} {phase : Phase} → HopsAreRouters move.net move.old → HopsAreRouters move.net move.new →
    Steps move u phase a h → h < length move.net
steps_inside in_old in_new steps = leads_inside in_old in_new steps.must.router steps.uses.counts steps.leads

-- Lists of steps

pub contains_or_not : (x : ℕ) (xs : List ℕ) → Contains xs x ⊎ (Contains xs x → ⊥)
contains_or_not x [] = inr (Contains-none x)
contains_or_not x (y ∷ xs) = elim (cases_eq y x) [
  | inl same ↦ inl (subst (λ (z : ℕ). Contains (y ∷ xs) z) same (Contains-first y xs))
  | inr apart ↦ elim (contains_or_not x xs) [
    | inl there ↦ inl (Contains-rest y xs x there)
    | inr absent ↦ inr (λ inside. elim (Contains-cases y xs x inside) [ inl same ↦ apart same | inr there ↦ absent there ])
  ]
]

-- every router of a list of steps is below n, where the first one and each hop is
pub steps_below : (step : ℕ → ℕ → Type 0) (n : ℕ) → ((u h : ℕ) → step u h → h < n) → (u : ℕ) (hops : List ℕ) (v : ℕ) → u < n →
    Follows step u hops v → (w : ℕ) → Contains (u ∷ hops) w → w < n
steps_below step n inside u [] v below follows w among = elim (Contains-cases u [] w among) [
  | inl same ↦ subst (λ (x : ℕ). x < n) same below
  | inr none ↦ absurd (Contains-none w none)
]
steps_below step n inside u (h ∷ hops) v below follows w among = elim (Contains-cases u (h ∷ hops) w among) [
  | inl same ↦ subst (λ (x : ℕ). x < n) same below
  | inr later ↦ steps_below step n inside h hops v (inside u h follows.0) follows.1 w later
]

pub last_below : (step : ℕ → ℕ → Type 0) (n : ℕ) → ((u h : ℕ) → step u h → h < n) → (u : ℕ) (hops : List ℕ) (v : ℕ) → u < n →
    Follows step u hops v → v < n
last_below step n inside u [] v below follows = subst (λ (x : ℕ). x < n) follows below
last_below step n inside u (h ∷ hops) v below follows = last_below step n inside h hops v (inside u h follows.0) follows.1

-- a list of steps, one or more, from u to v
pub record LeadsOn (step : ℕ → ℕ → Type 0) (u v : ℕ) : Type 0 where
  pub hop : ℕ
  pub hops : List ℕ
  pub follows : Follows step u (hop ∷ hops) v

pub leads_to : (step : ℕ → ℕ → Type 0) (u : ℕ) (hops : List ℕ) (v w : ℕ) → Follows step u hops v → Contains hops w → LeadsOn step u w
leads_to step u [] v w follows among = absurd (Contains-none w among)
leads_to step u (h ∷ hops) v w follows among = elim (Contains-cases h hops w among) [
  | inl same ↦ record { hop = h; hops = []; follows = (follows.0, same) }
  | inr later ↦
      let rest : LeadsOn step h w = leads_to step h hops v w follows.1 later in
      record { hop = h; hops = rest.hop ∷ rest.hops; follows = (follows.0, rest.follows) }
]

-- a list of steps visits distinct routers, or one of its routers comes back to itself
pub distinct_or_returns : (step : ℕ → ℕ → Type 0) (u : ℕ) (hops : List ℕ) (v : ℕ) → Follows step u hops v →
    AllPairs (λ x y. x ≢ y) (u ∷ hops) ⊎ ((w : ℕ) × LeadsOn step w w)
distinct_or_returns step u [] v follows = inl (pairs_more (λ x y. x ≢ y) u [] (λ w inside. absurd (Contains-none w inside)) (pairs_none (λ x y. x ≢ y)))
distinct_or_returns step u (h ∷ hops) v follows = elim (distinct_or_returns step h hops v follows.1) [
  | inr returns ↦ inr returns
  | inl distinct ↦ elim (contains_or_not u (h ∷ hops)) [
    | inl again ↦ inr (u, leads_to step u (h ∷ hops) v u follows again)
    | inr absent ↦ inl (pairs_more (λ x y. x ≢ y) u (h ∷ hops) (λ w inside same. absent (subst (Contains (h ∷ hops)) (sym same) inside)) distinct)
  ]
]

-- where no list of steps returns, every list of steps is shorter than the count of routers
pub short_lists : (step : ℕ → ℕ → Type 0) (n : ℕ) → ((u h : ℕ) → step u h → h < n) →
    ((u h : ℕ) (hops : List ℕ) → Follows step u (h ∷ hops) u → ⊥) → (u : ℕ) (hops : List ℕ) (v : ℕ) → u < n → Follows step u hops v →
    length hops < n
short_lists step n inside never u hops v below follows = elim (distinct_or_returns step u hops v follows) [
  | inr returns ↦ absurd (never returns.0 returns.1.hop returns.1.hops returns.1.follows)
  | inl distinct ↦
      let few : length (u ∷ hops) ≤ n = length-le_from_distinct_below (u ∷ hops) n (IsDistinct-from_AllPairs Decides-eqb (u ∷ hops) distinct)
      (λ q found. steps_below step n inside u hops v below follows q (Contains-from_any eqb-true q (u ∷ hops) found)) in
      omega (arith, few)
]

-- Whether a prefix is connected at a router

subnet_or_not : (subnet : Option Block) (p : Block) → (subnet ≡ Some p) ⊎ (subnet ≡ Some p → ⊥)
subnet_or_not subnet p = grind (arith, common_steps, cases_eq, same_Some)

-- one of some interfaces is up with this subnet, or none is
record UpWith (interfaces : List Interface) (p : Block) : Type 0 where
  interface : Interface
  among : Contains interfaces interface
  up : IsTrue interface.up
  subnet : interface.subnet ≡ Some p

up_with_or_not : (interfaces : List Interface) (p : Block) → UpWith interfaces p ⊎ (UpWith interfaces p → ⊥)
up_with_or_not [] p = inr (λ one. Contains-none one.interface one.among)
up_with_or_not (i ∷ interfaces) p = elim (cases_Bool i.up) [
  | inl up ↦ elim (subnet_or_not i.subnet p) [
    | inl subnet ↦ inl (record { interface = i; among = Contains-first i interfaces; up = up; subnet = subnet })
    | inr other ↦ others (λ one same. other (ap (λ (x : Interface). x.subnet) same ∙ one.subnet)) (up_with_or_not interfaces p)
  ]
  | inr down ↦ others (λ one same. false≢true (sym down ∙ ap (λ (x : Interface). x.up) same ∙ one.up)) (up_with_or_not interfaces p)
]
  where
    others : ((one : UpWith (i ∷ interfaces) p) → i ≡ one.interface → ⊥) → UpWith interfaces p ⊎ (UpWith interfaces p → ⊥) →
        UpWith (i ∷ interfaces) p ⊎ (UpWith (i ∷ interfaces) p → ⊥)
    others not_first (inl one) =
        inl (record { interface = one.interface; among = Contains-rest i interfaces one.interface one.among; up = one.up; subnet = one.subnet })
    others not_first (inr none) = inr (λ one. elim (Contains-cases i interfaces one.interface one.among) [
      | inl same ↦ not_first one same
      | inr later ↦ none (record { interface = one.interface; among = later; up = one.up; subnet = one.subnet })
    ])

pub connected_or_not : (net : Network) (u : ℕ) (p : Block) → u < length net → Connected net u p ⊎ (Connected net u p → ⊥)
connected_or_not net u p below = elim (slice_get_cases net u).1 [
  | inr past ↦ absurd (let gone = past.0 in omega (arith, gone, below))
  | inl here ↦ elim (up_with_or_not here.0.interfaces p) [
    | inl one ↦ inl (record {
      interface = one.interface;
      up = record { config = here.0; router = here.2; among = one.among; up = one.up };
      subnet = one.subnet;
    })
    | inr none ↦ inr (λ is. none (record {
      interface = is.interface;
      among = subst (λ (c : Configuration). Contains c.interfaces is.interface) (same_Some is.up.config here.0 (sym is.up.router ∙ here.2)) is.up.among;
      up = is.up.up;
      subnet = is.subnet;
    }))
  ]
]

-- a sound state delivers
pub sound_delivers : (move : Migration) (state : State) (a : ℕ) (p : Block) → HopsAreRouters move.net move.old → HopsAreRouters move.net move.new →
    IsSound move state → a < 2 ^ 32 → IsTarget move.net a p → Delivers move state a p
sound_delivers move state a p in_old in_new sound address target =
    let here : IsSoundAt move state a = sound a address in
    let inside : (u h : ℕ) → StepsIn move state a u h → h < length move.net = λ u h steps. steps_inside in_old in_new steps in
    record {
      short = λ u v hops below follows. short_lists (StepsIn move state a) (length move.net) inside here.returns_never u hops v below follows;
      onward = λ u v hops below follows.
          let router : v < length move.net = last_below (StepsIn move state a) (length move.net) inside u hops v below follows in
          elim (connected_or_not move.net v p router) [
            | inl reached ↦ inl reached
            | inr away ↦ inr (here.forwards v (record { router = router; target = p; is_target = target; away = away }))
          ];
    }

-- A state that delivers is sound

-- lists of steps, one after the other
steps_joined : (step : ℕ → ℕ → Type 0) (u : ℕ) (one : List ℕ) (v : ℕ) (two : List ℕ) (w : ℕ) → Follows step u one v →
    Follows step v two w →
    Follows step u (one ++ two) w
steps_joined step u [] v two w first second = subst (λ (x : ℕ). Follows step x two w) (sym first) second
steps_joined step u (h ∷ one) v two w first second = (first.0, steps_joined step h one v two w first.1 second)

-- a list of at least so many steps, from u back to u
record LongReturn (step : ℕ → ℕ → Type 0) (u k : ℕ) : Type 0 where
  hops : List ℕ
  follows : Follows step u hops u
  many : k ≤ length hops

-- a list of steps that returns can be gone again and again
long_return : (step : ℕ → ℕ → Type 0) (u h : ℕ) (hops : List ℕ) → Follows step u (h ∷ hops) u → (k : ℕ) → LongReturn step u k
long_return step u h hops returns zero = record { hops = []; follows = refl; many = omega arith }
long_return step u h hops returns (suc k) =
    let rest : LongReturn step u k = long_return step u h hops returns k in
    record {
      hops = (h ∷ hops) ++ rest.hops;
      follows = steps_joined step u (h ∷ hops) u rest.hops u returns rest.follows;
      many =
          let e : length ((h ∷ hops) ++ rest.hops) ≡ length (h ∷ hops) + length rest.hops = length-append (h ∷ hops) rest.hops in
          omega (arith, e, rest.many);
    }

pub delivers_sound : (move : Migration) (state : State) →
    ((a : ℕ) (p : Block) → a < 2 ^ 32 → IsTarget move.net a p → Delivers move state a p) → IsSound move state
delivers_sound move state delivers a address = record {
  forwards = λ u must. elim ((delivers a must.target address must.is_target).onward u u [] must.router refl) [
    | inl reached ↦ absurd (must.away reached)
    | inr has ↦ has
  ];
  returns_never = λ u h hops follows.
      let must = follows.0.must in
      let long : LongReturn (StepsIn move state a) u (length move.net) = long_return (StepsIn move state a) u h hops follows (length move.net) in
      let short = (delivers a must.target address must.is_target).short u u long.hops must.router long.follows in
      let many = long.many in
      omega (arith, short, many);
}
