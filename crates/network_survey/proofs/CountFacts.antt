-- How many subnets some up interfaces have, and how many the network.
use Rattle.std.proofs.Common.{◌≡◌, ℕ, List, length, map, Contains, IsPermutation, refl, subst}
use Rattle.std.specs.List.{dedup}
use Rattle.std.specs.List.Sorted.{IsSorted}
use Rattle.net_addr.specs.Addresses.{Block}
use Rattle.net_addr.proofs.BlockOrder.{apart_once, block_cmp, block_eq, same_prefixes}
use Rattle.net_model.specs.Network.{Network, Connected}
use Rattle.net_model.proofs.Members.{Contains-in_map, Contains-map}
use Rattle.network_survey.specs.Counts.{IsSharedSubnet, IsSubnet}
use Rattle.network_survey.specs.Listings.{CountsAll}
use Rattle.network_survey.specs.Ports.{Port, IsUpPort, ListsUpPorts}
use Rattle.network_survey.specs.steps.PortLists.{Selects}
use Rattle.network_survey.specs.steps.Sharing.{SeesOther}
use Rattle.network_survey.specs.steps.Subnets.{IsSubnetOf}
use Rattle.network_survey.proofs.SharingFacts.{Connected-port, IsShared-seen, SeesOther-shared, slice_get-Contains}

CountsAll-same : {A : Type 0} → (P Q : A → Type 0) (count : ℕ) → ((x : A) → P x → Q x) → ((x : A) → Q x → P x) → CountsAll P count → CountsAll Q count
CountsAll-same P Q count into back c = record {
  items = c.items;
  once = c.once;
  exact = λ x. (λ h. into x ((c.exact x).0 h), λ q. (c.exact x).1 (back x q));
  count_is = c.count_is;
}

pub CountsAll-sorted : (ports : List Port) (ys zs : List Block) → IsPermutation (map (λ (x : Port). x.subnet) ports) ys → IsSorted block_cmp ys →
    zs ≡ dedup block_eq ys → CountsAll (IsSubnetOf ports) (length zs)
CountsAll-sorted ports ys zs moved up is = record {
  items = zs;
  once = apart_once ys zs up is;
  exact = λ p. let same = same_prefixes (map (λ (x : Port). x.subnet) ports) ys zs p moved is in (
    λ c. let one = Contains-map (λ (x : Port). x.subnet) ports p (same.0 c) in record { port = one.item; among = one.among; subnet = one.gives },
    λ s. same.1 (subst (Contains (map (λ (x : Port). x.subnet) ports)) s.subnet (Contains-in_map (λ (x : Port). x.subnet) ports s.port s.among)),
  );
  count_is = refl;
}

port_at : (net : Network) (v : ℕ) (p : Block) → Connected net v p → Port
port_at net v p to = record { router = v; place = to.up.among.0; subnet = p; interface = to.interface }

module _ (net : Network) (ports : List Port) (lists : ListsUpPorts (IsUpPort net) ports) where
  among : (v : ℕ) (p : Block) → (to : Connected net v p) → Contains ports (port_at net v p to)
  unfolding port_at
  among v p to = (lists.exact (port_at net v p to)).1 (record {
    config = to.up.config;
    router = to.up.router;
    at = slice_get-Contains to.up.config.interfaces to.interface to.up.among;
    up = to.up.up;
    subnet = to.subnet;
  })

  pub CountsAll-subnets : (count : ℕ) → CountsAll (IsSubnetOf ports) count → CountsAll (IsSubnet net) count
  unfolding port_at
  CountsAll-subnets count =
      CountsAll-same (IsSubnetOf ports) (IsSubnet net) count
      (λ p s. record { router = s.port.router; connected = subst (Connected net s.port.router) s.subnet (Connected-port net s.port ((lists.exact s.port).0 s.among)) })
      (λ p s. record { port = port_at net s.router p s.connected; among = among s.router p s.connected; subnet = refl })

  pub CountsAll-links : (found : List Port) (count : ℕ) → Selects (SeesOther ports) ports found → CountsAll (IsSubnetOf found) count →
      CountsAll (IsSharedSubnet net) count
  unfolding port_at
  CountsAll-links found count s =
      CountsAll-same (IsSubnetOf found) (IsSharedSubnet net) count
      (λ p o.
      let one = (s.exact o.port).0 o.among in
      let shared = IsShared-seen net ports lists o.port one.holds in
      record {
        one = o.port.router;
        other = shared.other;
        apart = shared.apart;
        one_connected = subst (Connected net o.port.router) o.subnet (Connected-port net o.port ((lists.exact o.port).0 one.among));
        other_connected = subst (Connected net shared.other) o.subnet shared.connected;
      })
      (λ p h.
      let port : Port = port_at net h.one p h.one_connected in
      let sees = SeesOther-shared net ports lists port (record { other = h.other; apart = h.apart; connected = h.other_connected }) in
      record { port = port; among = (s.exact port).1 (record { among = among h.one p h.one_connected; holds = sees }); subnet = refl })
