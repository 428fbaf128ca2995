-- The routers at which a prefix is connected, interface by interface.
use Rattle.std.proofs.lemmas.Grind.{common_steps}
use Rattle.std.proofs.Common.{◌≡◌, ℕ, ◌+◌, ◌-◌, ◌<◌, ◌≤◌, ◌↔◌, inl, inr, List, length, take, drop, get_or, true, false, ltb, leb, ltb-true, ltb-false}
use Rattle.std.proofs.Common.{leb-true, leb-false, refl, sym, ap, subst, ◌∙◌, arith}
use Rattle.std.specs.List.{Contains, Any}
use Rattle.std.specs.List.Sorted.{IsPartitionPoint}
use Rattle.std.proofs.lemmas.Bool.{cases_lt}
use Rattle.std.proofs.lemmas.List.{get_or-take, get_or-drop, length-take-le, length-drop}
use Rattle.std.proofs.lemmas.List.Elements.{Contains-get_or}
use Rattle.net_addr.specs.Addresses.{Block}
use Rattle.net_model.proofs.Adjacency.{UpInterface-among}
use Rattle.net_model.proofs.NetworkFacts.{UpInterface-within}
use Rattle.net_model.specs.Configuration.{Configuration}
use Rattle.net_model.specs.Network.{Network, HasConfiguration, Connected}
use Rattle.net_model.specs.declared.interface.Interface.{Interface}
use Rattle.route_tables.specs.Lists.{Exactly}
use Rattle.net_addr.proofs.SomeElement.{any_of, any_in}
use Rattle.route_tables.proofs.ListFacts.{AnyBelow, exactly_same}
use Rattle.isis_routes.specs.steps.Homes.{IsOwnSubnet, IsHomeOf, AreHomes, AreRoutersAt}
use Rattle.isis_routes.specs.steps.Offered.{OffersIn}
use Rattle.isis_routes.specs.declared.homes.Home.{Home}
use Rattle.isis_routes.specs.declared.level.Level.{Level}

-- the connected prefixes of router w
abbrev pub RouterHome : Network → ℕ → Home → Type 0
RouterHome net w h = (h.router ≡ w) × Connected net h.router h.dest

pub router_home_is : (net : Network) (w : ℕ) (config : Configuration) (given : List Interface) → HasConfiguration net w config → given ≡ config.interfaces →
    (h : Home) →
    Any (λ (i : Interface). IsOwnSubnet i w h) given ↔ RouterHome net w h
router_home_is net w config given router are h = grind (arith, common_steps, UpInterface-among, any_in, any_of)

pub home_below : (net : Network) (n : ℕ) → length net ≡ n → (h : Home) → Connected net h.router h.dest → AnyBelow (RouterHome net) n h
home_below net n count h connected =
    let within : h.router < length net = UpInterface-within net h.router connected.interface connected.up in
    record { source = h.router; below = omega arith; given = (refl, connected) }

-- the routers that the homes of a prefix name are those at which it is connected
pub routers_are : (net : Network) (p : Block) (homes given : List Home) (routers : List ℕ) → AreHomes net homes → given ≡ homes →
    Exactly (λ (u : ℕ). Any (λ (h : Home). IsHomeOf p h u) given) routers →
    AreRoutersAt net p routers
routers_are net p homes given routers are same exactly =
    exactly_same routers (λ (u : ℕ). Any (λ (h : Home). IsHomeOf p h u) given) (λ (u : ℕ). Connected net u p) exactly
    (λ u. (
      λ any.
          let f = any_in (λ (h : Home). IsHomeOf p h u) given any in
          let connected : Connected net f.item.router f.item.dest = (are f.item).0 (subst (λ (l : List Home). Contains l f.item) same f.among) in
          subst (λ (k : ℕ). Connected net k p) f.holds.router (subst (λ (q : Block). Connected net f.item.router q) f.holds.dest connected),
      λ connected.
          let h : Home = record { dest = p; router = u } in
          any_of (λ (x : Home). IsHomeOf p x u) given h (subst (λ (l : List Home). Contains l h) (sym same) ((are h).1 connected))
          (record { dest = refl; router = refl }),
    ))

-- Sorted homes

-- the homes from a place on that begin with no later address than one, after those that begin with an earlier one
pub run_is : (homes rest : List Home) (start count base : ℕ) → rest ≡ drop start homes →
    IsPartitionPoint (λ (h : Home). ltb h.dest.base base ≡ true) (λ (h : Home). ltb h.dest.base base ≡ false) homes start →
    IsPartitionPoint (λ (h : Home). leb h.dest.base base ≡ true) (λ (h : Home). leb h.dest.base base ≡ false) rest count →
    start ≤ length homes → count ≤ length rest →
    (h : Home) → Contains (take count rest) h ↔ (Contains homes h × (h.dest.base ≡ base))
run_is homes rest start count base part first then within inside h = (
  λ has.
      let k : ℕ = has.0 in
      let long : length (take count rest) ≡ count = length-take-le count rest inside in
      let before : k < count = omega (arith, has.1, long) in
      let in_rest : get_or rest k h ≡ h = sym (get_or-take count rest k h before) ∙ has.2 in
      let at : get_or homes (start + k) h ≡ h = sym (read k) ∙ in_rest in
      let there : start + k < length homes = omega (arith, long_rest, before, inside, within) in
      let low : h.dest.base ≤ base = leb-true h.dest.base base (subst (λ (x : Home). leb x.dest.base base ≡ true) in_rest (then.0 k h (omega arith) before)) in
      let high : base ≤ h.dest.base = ltb-false h.dest.base base
      (subst (λ (x : Home). ltb x.dest.base base ≡ false) at (first.1 (start + k) h (omega arith) there)) in
      ((start + k, there, at), omega arith),
  λ both.
      let i : ℕ = both.0.0 in
      let here : i < length homes = both.0.1 in
      let at : get_or homes i h ≡ h = both.0.2 in
      let same : h.dest.base ≡ base = both.1 in
      let after : start ≤ i = elim (cases_lt i start) [
        | inl earlier ↦
            let less : h.dest.base < base = ltb-true h.dest.base base
            (subst (λ (x : Home). ltb x.dest.base base ≡ true) at (first.0 i h (omega arith) earlier)) in
            absurd (omega arith)
        | inr later ↦ later
      ] in
      let in_rest : get_or rest (i - start) h ≡ h = read (i - start) ∙ ap (λ (n : ℕ). get_or homes n h) (omega (arith, after)) ∙ at in
      let inside_rest : i - start < length rest = omega (arith, long_rest, here, after) in
      let before : i - start < count = elim (cases_lt (i - start) count) [
        | inl earlier ↦ earlier
        | inr later ↦
            let more : base < h.dest.base = leb-false h.dest.base base
            (subst (λ (x : Home). leb x.dest.base base ≡ false) in_rest (then.1 (i - start) h later inside_rest)) in
            absurd (omega arith)
      ] in
      (i - start, omega (arith, length-take-le count rest inside, before), get_or-take count rest (i - start) h before ∙ in_rest),
)
  where
    read : (k : ℕ) → get_or rest k h ≡ get_or homes (start + k) h
    read k = ap (λ (l : List Home). get_or l k h) part ∙ get_or-drop start homes k h

    long_rest : length rest ≡ length homes - start
    long_rest = ap (λ (l : List Home). length l) part ∙ length-drop start homes

-- the routers of the homes that begin as a prefix does are those of all homes of the prefix
pub begins_with : (p : Block) (homes run : List Home) (base u : ℕ) → base ≡ p.base →
    ((h : Home) → Contains run h ↔ (Contains homes h × (h.dest.base ≡ base))) →
    Any (λ (h : Home). IsHomeOf p h u) run ↔ Any (λ (h : Home). IsHomeOf p h u) homes
begins_with p homes run base u is same = (
  λ any.
      let f = any_in (λ (h : Home). IsHomeOf p h u) run any in any_of (λ (h : Home). IsHomeOf p h u) homes f.item ((same f.item).0 f.among).0 f.holds,
  λ any.
      let f = any_in (λ (h : Home). IsHomeOf p h u) homes any in
      any_of (λ (h : Home). IsHomeOf p h u) run f.item ((same f.item).1 (f.among, ap (λ (q : Block). q.base) f.holds.dest ∙ sym is)) f.holds,
)

-- a router at which a prefix is connected is a router
pub home_is_router : (net : Network) (p : Block) (homes : List ℕ) (i : ℕ) → AreRoutersAt net p homes → i < length homes → get_or homes i 0 < length net
home_is_router net p homes i are within =
    let connected = (are (get_or homes i 0)).0 (Contains-get_or homes i 0 within) in
    UpInterface-within net (get_or homes i 0) connected.interface connected.up

-- a router offers only what is connected there
pub offered_is_connected : (net : Network) (level : Level) (p : Block) (w cost : ℕ) → OffersIn net level p w cost → Connected net w p
offered_is_connected net level p w cost offers = grind (arith, common_steps)
