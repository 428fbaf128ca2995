use Rattle.std.proofs.Common.{List, sym, ap, ◌∙◌}
use Rattle.std.specs.Prelude.{find, option_map}
use Rattle.ios_reader.specs.steps.Networks.{takes}
use Rattle.ios_reader.specs.Routers.{Router}
use Rattle.ios_reader.specs.InterfacesAsRead.{network_area}
use Rattle.ios_reader.specs.declared.networks.PlacedNetwork.{PlacedNetwork}
use Rattle.ios_reader.proofs.NetworkFacts.{area_of_line, first_area}
use Rattle.ios_reader.proofs.router.network_area.Goals as goal

pub returns-in-Some : goal.returns-in-Some
returns-in-Some c =
    ap (option_map area_of_line) (sym c.in-Some.is)
    ∙ ap (option_map area_of_line) c.first_taking.ensures
    ∙ ap (λ (all : List PlacedNetwork). option_map area_of_line (find (takes c.args.address) all)) c.router.invariant
    ∙ sym (first_area c.args.address 0 c.router.inside.ospf.now)
    ∙ ap (λ (r : Router). network_area r.ospf c.args.address) c.router.view_is

pub returns-in-None : goal.returns-in-None
returns-in-None c =
    ap (option_map area_of_line) (sym c.in-None.is)
    ∙ ap (option_map area_of_line) c.first_taking.ensures
    ∙ ap (λ (all : List PlacedNetwork). option_map area_of_line (find (takes c.args.address) all)) c.router.invariant
    ∙ sym (first_area c.args.address 0 c.router.inside.ospf.now)
    ∙ ap (λ (r : Router). network_area r.ospf c.args.address) c.router.view_is
