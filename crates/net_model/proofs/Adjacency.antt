-- Adjacency of two routers, by their configurations.
use Rattle.std.proofs.Common.{◌≡◌, ◌≢◌, ℕ, Option, Some, None, Contains, Any, MatchOption, sym, subst, ◌∙◌}
use Rattle.std.proofs.lemmas.Option.{same_Some}
use Rattle.net_model.specs.Configuration.{Configuration}
use Rattle.net_model.specs.steps.BestLinks.{BestLink, Joins, OffersCost}
use Rattle.net_model.specs.Lookups.{LeastArc}
use Rattle.net_model.specs.Network.{Network, HasConfiguration, UpInterface, MayJoin, Adjacent}
use Rattle.net_model.specs.declared.interface.Interface.{Interface}
use Rattle.net_model.specs.declared.zone.Zone.{Zone}
use Rattle.net_addr.proofs.SomeElement.{any_of}

-- a router has one configuration
pub HasConfiguration-unique : (net : Network) (u : ℕ) (c d : Configuration) → HasConfiguration net u c → HasConfiguration net u d → c ≡ d
HasConfiguration-unique net u c d h k = same_Some c d (sym h ∙ k)

-- an up interface of a router is one of its configuration
pub UpInterface-among : (net : Network) (u : ℕ) (c : Configuration) (i : Interface) → HasConfiguration net u c → UpInterface net u i → Contains c.interfaces i
UpInterface-among net u c i h up =
    subst (λ (d : Configuration). Contains d.interfaces i) (HasConfiguration-unique net u up.config c up.router h) up.among

module _ (net : Network) (zone : Zone) (u v : ℕ) (c d : Configuration) (from : HasConfiguration net u c) (to : HasConfiguration net v d) where
  Adjacent-from_link : (cost : ℕ) → u ≢ v → MayJoin zone c d → Any (OffersCost zone d.interfaces cost) c.interfaces → Adjacent net zone u v cost
  Adjacent-from_link cost apart may h =
      let far = h.4.1 in
      let joins = far.4 in
      record {
        apart = apart;
        subnet = joins.share.subnet;
        near = h.1;
        far = far.1;
        near_up = record { config = c; router = from; among = (h.0, h.2, h.3); up = joins.near.up };
        far_up = record { config = d; router = to; among = (far.0, far.2, far.3); up = joins.far.up };
        near_subnet = joins.share.near;
        far_subnet = joins.share.far;
        near_link = joins.near.link;
        far_link = joins.far.link;
        near_runs = joins.near.runs;
        far_runs = joins.far.runs;
        joined = may;
        costs = h.4.0;
      }

  link_from_Adjacent : (cost : ℕ) → Adjacent net zone u v cost → Any (OffersCost zone d.interfaces cost) c.interfaces
  link_from_Adjacent cost a =
      let joins : Joins zone a.near a.far = record {
        near = record { up = a.near_up.up; link = a.near_link; runs = a.near_runs };
        far = record { up = a.far_up.up; link = a.far_link; runs = a.far_runs };
        share = record { subnet = a.subnet; near = a.near_subnet; far = a.far_subnet };
      } in
      any_of (OffersCost zone d.interfaces cost) c.interfaces a.near (UpInterface-among net u c a.near from a.near_up)
      (a.costs, any_of (Joins zone a.near) d.interfaces a.far (UpInterface-among net v d a.far to a.far_up) joins)

  pub LeastArc-from_best : (best : Option ℕ) → u ≢ v → MayJoin zone c d → BestLink zone c.interfaces d.interfaces best →
      MatchOption best ((cost : ℕ) → Adjacent net zone u v cost → ⊥) (LeastArc net zone u v)
  LeastArc-from_best None apart may h = λ cost a. h cost (link_from_Adjacent cost a)
  LeastArc-from_best (Some cost) apart may h = record {
    adjacent = Adjacent-from_link cost apart may h.holds;
    least = λ other a. h.least other (link_from_Adjacent other a);
  }
