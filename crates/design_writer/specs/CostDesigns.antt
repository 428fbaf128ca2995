-- A design in which each interface has its OSPF cost as its IS-IS metric.
use Rattle.std.specs.Prelude.{◌≡◌, ℕ, false, ◌||◌, List, All, Contains, None, filter, map, IsUtf8}
use Rattle.net_model.specs.Configuration.{Configuration}
use Rattle.net_model.specs.Network.{Network}
use Rattle.net_model.specs.declared.config.Levels.{Levels}
use Rattle.net_model.specs.declared.interface.Interface.{Interface}
use Rattle.ios_lines.specs.Words.{Word}
use Rattle.design_file.specs.Answers.{SaysDesign, Settles}
use Rattle.design_file.specs.declared.design.Design.{Design}
use Rattle.design_file.specs.declared.settled.SettledInterface.{SettledInterface}
use Rattle.design_file.specs.declared.settled.SettledRouter.{SettledRouter}
use Rattle.toml.specs.Text.{IsDocumentText}
use Rattle.design_writer.specs.CostTables.{document_by_costs, has_cost}

-- what is settled for it: its OSPF cost as its metric; it is passive where it is a loopback or passive for OSPF
abbrev pub interface_by_cost : Interface → SettledInterface
interface_by_cost i = record { name = i.name; metric = i.cost; passive = i.loopback || i.ospf_passive; circuit = None }

-- what is settled for a router: the area and the levels, and each such interface, in the order of the configuration
abbrev pub router_by_costs : Word → Levels → Configuration → SettledRouter
router_by_costs area levels c = record {
  area = area;
  levels = levels;
  leak = false;
  interfaces = map interface_by_cost (filter has_cost c.interfaces);
}

-- what is settled for a network
abbrev pub settled_by_costs : Word → Levels → Network → List SettledRouter
settled_by_costs area levels net = map (router_by_costs area levels) net

-- a text is the design by costs: it is what the writer of TOML writes for its document; it says a design; and for the network, if
-- no router runs IS-IS yet, this is what it settles
pub record IsDesignByCosts (area : Word) (levels : Levels) (net : Network) (text : List ℕ) : Type 0 where
  pub written : IsDocumentText false (document_by_costs area levels net) text
  pub design : Design
  pub says : SaysDesign text design
  pub settles : ((c : Configuration) → Contains net c → c.isis ≡ false) → Settles design net (settled_by_costs area levels net)

-- the names of a router's interfaces are text, as a design is
abbrev pub HasTextNames : Configuration → Type 0
HasTextNames c = All (λ (i : Interface). IsUtf8 i.name) c.interfaces

abbrev pub HaveTextNames : Network → Type 0
HaveTextNames net = All HasTextNames net
