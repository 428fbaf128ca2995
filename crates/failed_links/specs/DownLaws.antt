-- The laws of a network with a link down.
use Rattle.std.specs.Prelude.{◌≡◌, ℕ, List, length}
use Rattle.net_addr.specs.Addresses.{Block}
use Rattle.net_model.specs.Configuration.{Configuration}
use Rattle.net_model.specs.Network.{Network}
use Rattle.net_model.specs.OffStarts.{StartsOff}
use Rattle.net_model.specs.RouterNames.{names_of}
use Rattle.failed_links.specs.ShutDown.{IsRefusedWithout, StandsWithout, shut_down}
use Rattle.net_model.specs.declared.refusal.NetRefusal.{NetRefusal}

-- routers keep their numbers: there are as many, of the same names in the same order
abbrev pub KeepsRouters : Type 0
KeepsRouters = (p : Block) (net : Network) → (length (shut_down p net) ≡ length net) × (names_of (shut_down p net) ≡ names_of net)

-- they are at the start where they were, and else not
abbrev pub KeepsStarts : Type 0
KeepsStarts = (p : Block) (net : Network) (u : ℕ) → StartsOff (shut_down p net) u → StartsOff net u

-- a network stands without a link, or is refused for one reason
abbrev pub StandsOrIsRefused : Type 0
StandsOrIsRefused = (p : Block) (net : Network) (refusal : NetRefusal) → StandsWithout net p → IsRefusedWithout net p refusal → ⊥
