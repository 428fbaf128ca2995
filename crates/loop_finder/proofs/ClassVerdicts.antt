-- What is read of a class before its steps are.
use Rattle.std.proofs.Common.{arith}
use Rattle.std.proofs.lemmas.Grind.{common_steps}
use Rattle.std.proofs.Common.{◌≡◌, ℕ, ◌<◌, ◌↔◌, List, length, get_or, Contains, Option, IfSome, Bool, subst}
use Rattle.std.proofs.lemmas.List.Elements.{All-contains}
use Rattle.std.proofs.lemmas.Option.{slice_get_within, get_or_from_slice_get}
use Rattle.net_addr.specs.Addresses.{Block, IsBlock}
use Rattle.net_addr.proofs.LongestMatchLaws.{one_longest_match}
use Rattle.net_model.specs.Configuration.{Configuration, IsConfiguration, IsInterface}
use Rattle.net_model.specs.Network.{Network, Connected}
use Rattle.net_model.specs.Refusals.{IsNetwork}
use Rattle.igp_theory.specs.Forwarding.{IsOriginated, IsTarget}
use Rattle.igp_theory.specs.Migrations.{Migration}
use Rattle.prefix_atoms.specs.Classes.{Classes, AreClasses, IsInClass}
use Rattle.order_core.specs.Marks.{IsMarked}
use Rattle.loop_finder.specs.steps.ClassSteps.{AreForwarders}

-- an originated prefix is a block of addresses
originated_block : (net : Network) (p : Block) → IsNetwork net → IsOriginated net p → IsBlock p
originated_block net p network o =
    let c : Configuration = o.up.config in
    let among : Contains net c = (o.router, slice_get_within net o.router c o.up.router, get_or_from_slice_get net o.router c c o.up.router) in
    let config : IsConfiguration c = All-contains IsConfiguration net c network.configurations among in
    let interface : IsInterface o.interface = All-contains IsInterface c.interfaces o.interface config.interfaces o.up.among in
    subst (λ (s : Option Block). IfSome s IsBlock) o.subnet interface.prefix

-- an address has one target
pub one_target : (net : Network) (a : ℕ) (p q : Block) → IsNetwork net → IsTarget net a p → IsTarget net a q → p ≡ q
one_target net a p q network one two = grind (arith, common_steps, one_longest_match, originated_block)

-- the routers at which the target isn't connected have to pass packets on
pub forwarders_from : (net : Network) (a : ℕ) (p : Block) (forwards : List Bool) → IsNetwork net → IsTarget net a p
    → ((u : ℕ) → IsMarked forwards u ↔ ((u < length net) × (¬ Connected net u p))) → AreForwarders net a forwards
forwarders_from net a p forwards network target exact u = (
  λ marked. record { router = ((exact u).0 marked).0; target = p; is_target = target; away = ((exact u).0 marked).1 },
  λ must. (exact u).1 (must.router, subst (λ (q : Block). ¬ Connected net u q) (one_target net a must.target p network must.is_target target) must.away),
)

-- the least address of a class is in it
pub sample_in : {move : Migration} (c : Classes) (atom : ℕ) → AreClasses move c → atom < length c.samples → IsInClass c atom (get_or c.samples atom 0)
sample_in c atom are within = grind (arith, common_steps)
