-- The subnets of the interfaces that are up, and what they say of a prefix.
use Rattle.std.proofs.lemmas.Grind.{common_steps}
use Rattle.std.proofs.Common.{◌≡◌, ℕ, ◌<◌, ◌↔◌, List, length, Some, refl, sym, ap, subst, ◌∙◌, arith}
use Rattle.std.specs.List.{Any}
use Rattle.net_addr.specs.Addresses.{Block}
use Rattle.net_model.proofs.Adjacency.{UpInterface-among}
use Rattle.net_model.proofs.NetworkFacts.{UpInterface-within}
use Rattle.net_model.specs.Configuration.{Configuration}
use Rattle.net_model.specs.Network.{Network, HasConfiguration, UpInterface, Connected}
use Rattle.net_model.specs.declared.interface.Interface.{Interface}
use Rattle.igp_theory.specs.Ospf.{OffersSubnet}
use Rattle.net_addr.proofs.SomeElement.{any_of, any_in}
use Rattle.route_tables.proofs.ListFacts.{AnyBelow, exactly_same}
use Rattle.ospf_routes.specs.Lists.{Exactly}
use Rattle.ospf_routes.specs.steps.Subnets.{joins_on, IsInterfaceSubnet, IsUpSubnet, AreSubnetsAround, IsHome, IsSubnetRoute}
use Rattle.ospf_routes.specs.declared.area_route.AreaRoute.{AreaRoute}
use Rattle.ospf_routes.specs.declared.subnets.Subnet.{Subnet}

-- Router by router

-- the subnets of router w
abbrev pub RouterSubnet : Network → ℕ → Subnet → Type 0
RouterSubnet net w s = (s.at ≡ w) × IsUpSubnet net s

pub router_subnet_is : (net : Network) (w : ℕ) (config : Configuration) (given : List Interface) → HasConfiguration net w config →
    given ≡ config.interfaces → (s : Subnet) → Any (λ (i : Interface). IsInterfaceSubnet w i s) given ↔ RouterSubnet net w s
router_subnet_is net w config given router are s = grind (arith, common_steps, UpInterface-among, any_in, any_of)

pub subnet_below : (net : Network) (n : ℕ) → length net ≡ n → (s : Subnet) → IsUpSubnet net s → AnyBelow (RouterSubnet net) n s
subnet_below net n count s is =
    let within : s.at < length net = UpInterface-within net s.at is.interface is.up in
    record { source = s.at; below = omega arith; given = (refl, is) }

-- What the subnets say of a prefix

-- it is connected where one of them is
pub homes_are : (net : Network) (p : Block) (all near : List Subnet) (homes : List ℕ) → Exactly (IsUpSubnet net) all → AreSubnetsAround all p near →
    Exactly (λ (u : ℕ). Any (IsHome p u) near) homes → Exactly (λ (u : ℕ). Connected net u p) homes
homes_are net p all near homes are around listed =
    exactly_same homes (λ (u : ℕ). Any (IsHome p u) near) (λ (u : ℕ). Connected net u p) listed (λ u. (
      λ any.
          let f = any_in (IsHome p u) near any in
          let is : IsUpSubnet net f.item = (are f.item).0 (around.among f.item f.among) in
          record {
            interface = is.interface;
            up = subst (λ (w : ℕ). UpInterface net w is.interface) f.holds.at is.up;
            subnet = is.dest ∙ ap Some f.holds.dest;
          },
      λ connected.
          let i : Interface = connected.interface in
          let s : Subnet = record { dest = p; at = u; area = i.area; asks = i.cost; joins = joins_on i } in
          let is : IsUpSubnet net s =
          record { interface = i; up = connected.up; dest = connected.subnet; area = refl; costs = refl; joins = refl } in
          any_of (IsHome p u) near s (around.every s ((are s).1 is) refl) (record { dest = refl; at = refl }),
    ))

-- it is offered where one of them runs OSPF
pub subnet_routes_are : (net : Network) (p : Block) (all near : List Subnet) (routes : List AreaRoute) → Exactly (IsUpSubnet net) all →
    AreSubnetsAround all p near → Exactly (λ (r : AreaRoute). Any (IsSubnetRoute p r) near) routes →
    Exactly (λ (r : AreaRoute). OffersSubnet net r.area p r.at r.asks) routes
subnet_routes_are net p all near routes are around listed =
    exactly_same routes (λ (r : AreaRoute). Any (IsSubnetRoute p r) near) (λ (r : AreaRoute). OffersSubnet net r.area p r.at r.asks) listed (λ r. (
      λ any.
          let f = any_in (IsSubnetRoute p r) near any in
          let is : IsUpSubnet net f.item = (are f.item).0 (around.among f.item f.among) in
          record {
            interface = is.interface;
            up = subst (λ (w : ℕ). UpInterface net w is.interface) (sym f.holds.at) is.up;
            subnet = is.dest ∙ ap Some f.holds.dest;
            area = sym is.area ∙ f.holds.area;
            costs = sym is.costs ∙ sym f.holds.costs;
          },
      λ offers.
          let i : Interface = offers.interface in
          let s : Subnet = record { dest = p; at = r.at; area = Some r.area; asks = r.asks; joins = joins_on i } in
          let is : IsUpSubnet net s =
          record { interface = i; up = offers.up; dest = offers.subnet; area = sym offers.area; costs = sym offers.costs; joins = refl } in
          any_of (IsSubnetRoute p r) near s (around.every s ((are s).1 is) refl) (record { dest = refl; area = refl; at = refl; costs = refl }),
    ))
