-- A router is a border router without the backbone exactly where its list of interfaces leaves the backbone.
use Rattle.std.proofs.Common.{ℕ, ◌<◌, length, Any}
use Rattle.net_model.specs.Conditions.{LacksBackbone}
use Rattle.net_model.specs.Configuration.{Configuration}
use Rattle.net_model.specs.Network.{Network, HasConfiguration, IsBorderRouter}
use Rattle.net_model.specs.steps.Scans.{AreInTwoAreas, LeaveBackbone}
use Rattle.net_model.specs.declared.interface.Interface.{Interface}
use Rattle.net_model.proofs.Adjacency.{UpInterface-among}
use Rattle.net_addr.proofs.SomeElement.{any_of}
use Rattle.net_model.proofs.NetworkFacts.{InArea-within}
use Rattle.net_model.proofs.RouterFacts.{UpInterface-from, InArea-from, any_from_InArea}

pub LacksBackbone-within : (net : Network) (u : ℕ) → LacksBackbone net u → u < length net
LacksBackbone-within net u h = InArea-within net u h.border.one h.border.in_one

module _ (net : Network) (u : ℕ) (c : Configuration) (at : HasConfiguration net u c) where
  border_from : Any (λ (i : Interface). Any (AreInTwoAreas i) c.interfaces) c.interfaces → IsBorderRouter net u
  border_from h =
      let other = h.4 in
      record {
        one = other.4.one_area;
        other = other.4.two_area;
        apart = other.4.apart;
        in_one = record { interface = h.1; up = UpInterface-from net u c at h.1 (h.0, h.2, h.3) other.4.one_up; area = other.4.one_runs };
        in_other = record {
          interface = other.1;
          up = UpInterface-from net u c at other.1 (other.0, other.2, other.3) other.4.two_up;
          area = other.4.two_runs;
        };
      }

  list_from : IsBorderRouter net u → Any (λ (i : Interface). Any (AreInTwoAreas i) c.interfaces) c.interfaces
  list_from b =
      let i = b.in_one.interface in
      let j = b.in_other.interface in
      let two : AreInTwoAreas i j = record {
        one_up = b.in_one.up.up;
        two_up = b.in_other.up.up;
        one_area = b.one;
        two_area = b.other;
        one_runs =
            b.in_one.area;
        two_runs = b.in_other.area;
        apart = b.apart;
      } in
      any_of (λ (x : Interface). Any (AreInTwoAreas x) c.interfaces) c.interfaces i (UpInterface-among net u c i at b.in_one.up)
      (any_of (AreInTwoAreas i) c.interfaces j (UpInterface-among net u c j at b.in_other.up) two)

  pub LacksBackbone-from : LeaveBackbone c.interfaces → LacksBackbone net u
  LacksBackbone-from h = record { border = border_from h.border; outside = λ a. h.outside (any_from_InArea net u c at 0 a) }

  pub list_from_LacksBackbone : LacksBackbone net u → LeaveBackbone c.interfaces
  list_from_LacksBackbone h = record { border = list_from h.border; outside = λ a. h.outside (InArea-from net u c at 0 a) }
