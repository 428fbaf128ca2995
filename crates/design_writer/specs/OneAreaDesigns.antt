-- Networks of one OSPF area that are prepared with their design by costs: IS-IS gives there what OSPF gives (RFC 2328; RFC 1195,
-- RFC 5305).
use Rattle.std.specs.Prelude.{◌≡◌, ◌⊎◌, ℕ, false, map, None, Some}
use Rattle.net_model.specs.Network.{Network, UpInterface}
use Rattle.net_model.specs.Refusals.{IsNetwork}
use Rattle.net_model.specs.declared.config.Levels.TheVariants.{Two}
use Rattle.net_model.specs.declared.interface.Interface.{Interface}
use Rattle.ios_lines.specs.Words.{Word}
use Rattle.igp_theory.specs.Isis.{IsisEntry}
use Rattle.igp_theory.specs.Migrations.{ospf_to_isis}
use Rattle.igp_theory.specs.Ospf.{OspfEntry}
use Rattle.igp_theory.specs.Phases.{State, all_old}
use Rattle.igp_theory.specs.Routes.{HaveSameEntries}
use Rattle.igp_theory.specs.States.{IsSound}
use Rattle.isis_writer.specs.PreparedConfigurations.{prepared}
use Rattle.design_writer.specs.CostDesigns.{settled_by_costs}

-- up interfaces run OSPF in one area, if they run it, and none runs IS-IS. Where ranges, stub areas and loopbacks of any cost
-- are configured they change nothing here: one area has no border, and a loopback's metric is its cost too
pub record IsOneOspfArea (net : Network) (area : ℕ) : Type 0 where
  pub one_area : (u : ℕ) (i : Interface) → UpInterface net u i → (i.area ≡ None) ⊎ (i.area ≡ Some area)
  pub no_isis : (u : ℕ) (i : Interface) → UpInterface net u i → i.level2 ≡ false

-- the network with the IS-IS of its design by costs, of this IS-IS area and at level 2
abbrev pub prepared_by_costs : Word → Network → Network
prepared_by_costs isis_area net = map (prepared net (settled_by_costs isis_area Two net)) net

-- there both protocols give each router the same entries
abbrev pub CostDesignsKeepTables : Type 0
CostDesignsKeepTables =
    (net : Network) (isis_area : Word) (area : ℕ) → IsNetwork net → IsOneOspfArea net area →
    HaveSameEntries (prepared_by_costs isis_area net) (OspfEntry (prepared_by_costs isis_area net)) (IsisEntry (prepared_by_costs isis_area net))

-- and where it is a network, every state of its migration is sound if the first one is: so are those of each wave list
abbrev pub CostDesignsAreSound : Type 0
CostDesignsAreSound =
    (net : Network) (isis_area : Word) (area : ℕ) (state : State) → IsNetwork net → IsOneOspfArea net area →
    IsNetwork (prepared_by_costs isis_area net) → IsSound (ospf_to_isis (prepared_by_costs isis_area net)) all_old →
    IsSound (ospf_to_isis (prepared_by_costs isis_area net)) state
