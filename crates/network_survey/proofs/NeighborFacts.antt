-- Whether another router is there can be decided, so where nothing stands out one is.
use Rattle.std.proofs.Common.{◌≡◌, ◌≢◌, ℕ, zero, suc, ◌+◌, ◌<◌, Bool, true, false, List, [], ◌∷◌, length, get_or, slice_get, Option, Some, None, is_some, IsSome}
use Rattle.std.proofs.Common.{Any, ◌⊎◌, ⊎_elim, inl, inr, refl, sym, subst, ap, ◌∙◌, arith}
use Rattle.std.proofs.lemmas.Bool.{cases_eq, false≢true}
use Rattle.std.proofs.lemmas.Option.{same_Some}
use Rattle.net_addr.specs.Addresses.{Block}
use Rattle.net_model.specs.Configuration.{Configuration}
use Rattle.net_model.specs.Links.{IsLink}
use Rattle.net_model.specs.Network.{Network, Adjacent}
use Rattle.net_model.specs.declared.interface.Interface.{Interface}
use Rattle.net_model.specs.declared.zone.Zone.TheVariants.{Area}
use Rattle.net_model.proofs.NetworkFacts.{UpInterface-keeps}
use Rattle.network_survey.specs.Interfaces.{HasPeer, IsHalf, IsOneSidedInArea}
use Rattle.network_survey.specs.Neighbors.{HasNeighborBy, NeighborLaw}
use Rattle.network_survey.specs.Ports.{Port, IsUpPort}
use Rattle.network_survey.proofs.SharingFacts.{UpInterface-port, slice_get-Contains}

bool_decided : (b c : Bool) → (b ≡ c) ⊎ (b ≡ c → ⊥)
bool_decided true true = inl refl
bool_decided false false = inl refl
bool_decided true false = inr (λ e. cc)
bool_decided false true = inr (λ e. cc)

number_decided : (o : Option ℕ) (n : ℕ) → (o ≡ Some n) ⊎ (o ≡ Some n → ⊥)
number_decided None n = inr (λ e. cc)
number_decided (Some m) n = ⊎_elim (λ e. inl (ap Some e)) (λ apart. inr (λ e. apart (same_Some m n e))) (cases_eq m n)

block_decided : (o : Option Block) (p : Block) → (o ≡ Some p) ⊎ (o ≡ Some p → ⊥)
block_decided None p = inr (λ e. cc)
block_decided (Some q) p =
    ⊎_elim
    (λ base. ⊎_elim (λ len. inl (λ i. Some (record { base = base i; len = len i })))
    (λ apart. inr (λ e. apart (ap (λ (x : Block). x.len) (same_Some q p e)))) (cases_eq q.len p.len))
    (λ apart. inr (λ e. apart (ap (λ (x : Block). x.base) (same_Some q p e)))) (cases_eq q.base p.base)

-- some element of a list that can be decided
any_decided : {A : Type 0} → (P : A → Type 0) → ((x : A) → P x ⊎ (P x → ⊥)) → (xs : List A) → Any P xs ⊎ (Any P xs → ⊥)
any_decided P each [] = inr (λ a. omega (arith, a.2))
any_decided {A} P each (x ∷ xs) =
    ⊎_elim (λ p. inl (0, x, omega arith, refl, p))
    (λ none. ⊎_elim (λ a. inl (suc a.0, a.1, omega (arith, a.2), a.3, a.4)) (λ rest. inr (later none rest)) (any_decided P each xs)) (each x)
  where
    at : (P x → ⊥) → (Any P xs → ⊥) → (k : ℕ) (y : A) → k < length (x ∷ xs) → get_or (x ∷ xs) k y ≡ y → P y → ⊥
    at none rest zero y l e p = none (subst P (sym e) p)
    at none rest (suc k) y l e p = rest (k, y, omega arith, e, p)

    later : (P x → ⊥) → (Any P xs → ⊥) → Any P (x ∷ xs) → ⊥
    later none rest a = at none rest a.0 a.1 a.2 a.3 a.4

-- an up interface of the subnet may take part in adjacencies of the area
record IsThere (p : Block) (area : ℕ) (i : Interface) : Type 0 where
  subnet : i.subnet ≡ Some p
  link : IsLink (Area area) i

there_decided : (p : Block) (area : ℕ) (i : Interface) → IsThere p area i ⊎ (IsThere p area i → ⊥)
there_decided p area i =
    ⊎_elim
    (λ subnet. ⊎_elim
    (λ up. ⊎_elim
    (λ link. ⊎_elim
    (λ runs. ⊎_elim
    (λ active. inl (record { subnet = subnet; link = record { up = up; link = link; runs = (runs, active) } }))
    (λ none. inr (λ t. none t.link.runs.1)) (bool_decided i.ospf_passive false))
    (λ none. inr (λ t. none t.link.runs.0)) (number_decided i.area area))
    (λ none. inr (λ t. none t.link.link)) (bool_decided i.loopback false))
    (λ none. inr (λ t. none t.link.up)) (bool_decided i.up true))
    (λ none. inr (λ t. none t.subnet)) (block_decided i.subnet p)

-- one of the routers, the first of them numbered so, is another one and is there
record HasOther (routers : List Configuration) (first own : ℕ) (p : Block) (area : ℕ) : Type 0 where
  place : ℕ
  config : Configuration
  at : slice_get routers place ≡ Some config
  apart : first + place ≢ own
  there : Any (IsThere p area) config.interfaces

other_decided : (routers : List Configuration) (first own : ℕ) (p : Block) (area : ℕ) →
    HasOther routers first own p area ⊎ (HasOther routers first own p area → ⊥)
other_decided [] first own p area = inr (λ h. absurd (cc (h.at)))
other_decided (c ∷ cs) first own p area =
    ⊎_elim (λ h. inl (record { place = suc h.place; config = h.config; at = h.at; apart = λ e. h.apart (omega (arith, e)); there = h.there }))
    (λ rest. ⊎_elim
    (λ same. inr (only rest (λ e t. e (omega (arith, same)))))
    (λ apart. ⊎_elim
    (λ there. inl (record { place = 0; config = c; at = refl; apart = λ e. apart (omega (arith, e)); there = there }))
    (λ none. inr (only rest (λ e t. none t))) (any_decided (IsThere p area) (there_decided p area) c.interfaces))
    (cases_eq first own))
    (other_decided cs (first + 1) own p area)
  where
    at_place : (HasOther cs (first + 1) own p area → ⊥) → (first + 0 ≢ own → Any (IsThere p area) c.interfaces → ⊥) → (k : ℕ) (d : Configuration) → slice_get (c ∷ cs) k ≡ Some d → first + k ≢ own →
        Any (IsThere p area) d.interfaces → ⊥
    at_place rest none zero d at apart there = none apart (subst (λ (x : Configuration). Any (IsThere p area) x.interfaces) (sym (same_Some c d at)) there)
    at_place rest none (suc k) d at apart there = rest (record { place = k; config = d; at = at; apart = λ e. apart (omega (arith, e)); there = there })

    only : (HasOther cs (first + 1) own p area → ⊥) → (first + 0 ≢ own → Any (IsThere p area) c.interfaces → ⊥) → HasOther (c ∷ cs) first own p area → ⊥
    only rest none h = at_place rest none h.place h.config h.at h.apart h.there

peer_of : (net : Network) (port : Port) (area : ℕ) → HasOther net 0 port.router port.subnet area → HasPeer net (Area area) port
peer_of net port area h =
    let i = h.there.1 in
    let peer : Port = record { router = h.place; place = h.there.0; subnet = port.subnet; interface = i } in
    let is : IsUpPort net peer = record {
      config = h.config;
      router = h.at;
      at = slice_get-Contains h.config.interfaces i (h.there.0, h.there.2, h.there.3);
      up = h.there.4.link.up;
      subnet = h.there.4.subnet;
    } in
    record { peer = peer; is = is; apart = λ e. h.apart (omega (arith, e)); subnet = refl; link = h.there.4.link }

other_of : (net : Network) (port : Port) (area : ℕ) → HasPeer net (Area area) port → HasOther net 0 port.router port.subnet area
other_of net port area p =
    let up = UpInterface-port net p.peer p.is in
    let there : IsThere port.subnet area p.peer.interface = record { subnet = p.is.subnet ∙ ap Some p.subnet; link = p.link } in
    record {
      place = p.peer.router;
      config = up.config;
      at = up.router;
      apart = λ e. p.apart (omega (arith, e));
      there = (up.among.0, p.peer.interface, up.among.1, up.among.2, there);
    }

-- an interface that doesn't stand out has a peer
peer_there : (net : Network) (port : Port) (area : ℕ) → IsUpPort net port → IsLink (Area area) port.interface → (IsHalf net port → ⊥) →
    (IsOneSidedInArea net port → ⊥) → HasPeer net (Area area) port
peer_there net port area is link no_half no_oneside =
    ⊎_elim (peer_of net port area)
    (λ none. let alone : HasPeer net (Area area) port → ⊥ = λ p. none (other_of net port area p) in
    absurd (no_half (record {
      is = is;
      link = link.link;
      runs = subst IsSome (sym link.runs.0) refl;
      active = link.runs.1;
      alone = λ shared. no_oneside (record { area = area; one_sided = record { is = is; link = link; shared = shared; alone = alone } });
    })))
    (other_decided net 0 port.router port.subnet area)

pub neighbor_law_holds : NeighborLaw
neighbor_law_holds net network no_half no_oneside u i area up link =
    let subnet = (UpInterface-keeps net u i network up).subnet up.up in
    by_subnet i.subnet refl subnet
  where
    met : (p : Block) → i.subnet ≡ Some p → HasNeighborBy net (Area area) u i
    met p e =
        let port : Port = record { router = u; place = up.among.0; subnet = p; interface = i } in
        let is : IsUpPort net port = record { config = up.config; router = up.router; at = slice_get-Contains up.config.interfaces i up.among; up = up.up; subnet = e } in
        let peer = peer_there net port area is link (no_half port) (no_oneside port) in
        let adjacent : Adjacent net (Area area) u peer.peer.router i.cost = record {
          apart = λ same. peer.apart (sym same);
          subnet = p;
          near = i;
          far = peer.peer.interface;
          near_up = up;
          far_up = UpInterface-port net peer.peer peer.is;
          near_subnet = e;
          far_subnet = peer.is.subnet ∙ ap Some peer.subnet;
          near_link = link.link;
          far_link = peer.link.link;
          near_runs = link.runs;
          far_runs = peer.link.runs;
          joined = tt;
          costs = refl;
        } in
        record { neighbor = peer.peer.router; cost = i.cost; adjacent = adjacent; by_this = refl }

    by_subnet : (o : Option Block) → i.subnet ≡ o → IsSome i.subnet → HasNeighborBy net (Area area) u i
    by_subnet None e some = absurd (false≢true (sym (ap (λ (o : Option Block). is_some o) e) ∙ some))
    by_subnet (Some p) e some = met p e
