-- Networks in which IS-IS runs level 2 where OSPF runs, at the same costs (RFC 2328; RFC 1195, RFC 5305).
use Rattle.std.specs.Prelude.{◌≡◌, ℕ, ◌⊎◌, ◌↔◌, true, false, Some, None, IsTrue, IsSome}
use Rattle.net_model.specs.Configuration.{Configuration}
use Rattle.net_model.specs.Network.{Network, HasConfiguration, UpInterface}
use Rattle.net_model.specs.Refusals.{IsNetwork}
use Rattle.net_model.specs.declared.config.Levels.TheVariants.{Two}
use Rattle.net_model.specs.declared.interface.Interface.{Interface}
use Rattle.igp_theory.specs.Isis.{IsisEntry}
use Rattle.igp_theory.specs.Migrations.{ospf_to_isis}
use Rattle.igp_theory.specs.Ospf.{OspfEntry}
use Rattle.igp_theory.specs.Phases.{State, all_old}
use Rattle.igp_theory.specs.Routes.{HaveSameEntries}
use Rattle.igp_theory.specs.States.{IsSound}

-- an interface runs level 2 exactly where it runs OSPF; then its metric is its OSPF cost, and if it isn't a loopback it is
-- passive for the one where it is for the other
pub record HasEqualCosts (i : Interface) : Type 0 where
  pub runs : IsTrue i.level2 ↔ IsSome i.area
  pub metric : IsSome i.area → i.metric2 ≡ i.cost
  pub passive : IsSome i.area → i.loopback ≡ false → i.isis_passive ≡ i.ospf_passive

-- a network of one OSPF area, in which each router runs IS-IS in level 2 alone, and each up interface has equal costs
pub record IsOneAreaAtEqualCosts (net : Network) (area : ℕ) : Type 0 where
  pub one_area : (u : ℕ) (i : Interface) → UpInterface net u i → (i.area ≡ None) ⊎ (i.area ≡ Some area)
  pub isis : (u : ℕ) (c : Configuration) → HasConfiguration net u c → (c.isis ≡ true) × (c.levels ≡ Two)
  pub equal : (u : ℕ) (i : Interface) → UpInterface net u i → HasEqualCosts i

-- there both protocols give each router the same entries
abbrev pub EqualCostsKeepTables : Type 0
EqualCostsKeepTables = (net : Network) (area : ℕ) → IsOneAreaAtEqualCosts net area → HaveSameEntries net (OspfEntry net) (IsisEntry net)

-- and every state of its migration is sound where the first one is
abbrev pub EqualCostsAreSound : Type 0
EqualCostsAreSound =
    (net : Network) (area : ℕ) (state : State) → IsNetwork net → IsOneAreaAtEqualCosts net area → IsSound (ospf_to_isis net) all_old →
    IsSound (ospf_to_isis net) state
