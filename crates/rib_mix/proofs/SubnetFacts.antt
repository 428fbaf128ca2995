-- The connected prefixes of a router, as they are listed.
use Rattle.std.proofs.Common.{◌≡◌, ℕ, Bool, true, false, if◌then◌else◌, IsTrue, Contains, Option, Some, None, refl, sym, subst, ◌∙◌}
use Rattle.std.specs.List.{filter_map}
use Rattle.net_model.proofs.Members.{Contains-filter_map, Contains-in_filter_map}
use Rattle.std.proofs.lemmas.Option.{same_Some}
use Rattle.net_addr.specs.Addresses.{Block}
use Rattle.net_model.specs.Configuration.{Configuration}
use Rattle.net_model.specs.DestLists.{subnet_if_up}
use Rattle.net_model.specs.Network.{Network, HasConfiguration}
use Rattle.rib_mix.specs.Rows.{AreSubnets}

if_up : (up : Bool) (subnet : Option Block) (p : Block) → (if up then subnet else None) ≡ Some p → IsTrue up × (subnet ≡ Some p)
if_up true subnet p is = (refl, is)
if_up false subnet p is = cc

up_subnet : (up : Bool) (subnet : Option Block) (p : Block) → IsTrue up → subnet ≡ Some p → (if up then subnet else None) ≡ Some p
up_subnet true subnet p up is = is
up_subnet false subnet p up is = cc

-- the subnets of the interfaces of its configuration that are up are the connected prefixes of a router
pub are_subnets : (net : Network) (u : ℕ) (config : Configuration) → HasConfiguration net u config
    → AreSubnets net u (filter_map subnet_if_up config.interfaces)
are_subnets net u config has p = (
  λ among.
      let one = Contains-filter_map subnet_if_up config.interfaces p among in
      let is = if_up one.item.up one.item.subnet p one.gives in
      record { interface = one.item; up = record { config = config; router = has; among = one.among; up = is.0 }; subnet = is.1 },
  λ connected.
      let same : connected.up.config ≡ config = same_Some connected.up.config config (sym connected.up.router ∙ has) in
      Contains-in_filter_map subnet_if_up config.interfaces connected.interface p
      (subst (λ (x : Configuration). Contains x.interfaces connected.interface) same connected.up.among)
      (up_subnet connected.interface.up connected.interface.subnet p connected.up.up connected.subnet),
)
