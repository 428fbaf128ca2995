-- Two routers run a subnet in two areas exactly where their lists of interfaces do.
use Rattle.std.proofs.Common.{arith}
use Rattle.std.proofs.lemmas.Grind.{common_steps}
use Rattle.std.proofs.Common.{ℕ, ◌<◌, length, Option, Any, sym, ◌∙◌}
use Rattle.net_addr.specs.Addresses.{Block}
use Rattle.net_model.specs.Conditions.{RunTwoAreas}
use Rattle.net_model.specs.Configuration.{Configuration}
use Rattle.net_model.specs.Least.{IsBest, IsBlockAtMost}
use Rattle.net_model.specs.Network.{Network, HasConfiguration}
use Rattle.net_model.specs.steps.Scans.{IsMutual, AreInTwoAreas, ClashOnArea, OffersDest}
use Rattle.net_model.proofs.Adjacency.{UpInterface-among}
use Rattle.net_addr.proofs.SomeElement.{any_of}
use Rattle.net_model.proofs.Bests.{IsBest-same}
use Rattle.net_model.proofs.NetworkFacts.{UpInterface-within}
use Rattle.net_model.proofs.RouterFacts.{UpInterface-from}

RunTwoAreas-within : (net : Network) (u v : ℕ) (p : Block) → RunTwoAreas net u v p → v < length net
RunTwoAreas-within net u v p h = UpInterface-within net v h.two h.two_up

RunTwoAreas-sym : (net : Network) (u v : ℕ) (p : Block) → RunTwoAreas net u v p → RunTwoAreas net v u p
RunTwoAreas-sym net u v p h = grind (arith, common_steps)

pub RunTwoAreas-mutual : (net : Network) → IsMutual (RunTwoAreas net) (length net)
RunTwoAreas-mutual net = record { within = RunTwoAreas-within net; back = RunTwoAreas-sym net }

module _ (net : Network) (u v : ℕ) (c d : Configuration) (near : HasConfiguration net u c) (far : HasConfiguration net v d) where
  from_list : (p : Block) → Any (OffersDest d.interfaces p) c.interfaces → RunTwoAreas net u v p
  from_list p h =
      let clash = h.4.1 in
      record {
        one = h.1;
        two = clash.1;
        one_up = UpInterface-from net u c near h.1 (h.0, h.2, h.3) clash.4.0.one_up;
        two_up = UpInterface-from net v d far clash.1 (clash.0, clash.2, clash.3) clash.4.0.two_up;
        one_subnet = h.4.0;
        two_subnet = clash.4.1.far ∙ sym clash.4.1.near ∙ h.4.0;
        one_area = clash.4.0.one_area;
        two_area = clash.4.0.two_area;
        one_runs = clash.4.0.one_runs;
        two_runs = clash.4.0.two_runs;
        apart = clash.4.0.apart;
      }

  from_net : (p : Block) → RunTwoAreas net u v p → Any (OffersDest d.interfaces p) c.interfaces
  from_net p h =
      let two : AreInTwoAreas h.one h.two = record {
        one_up = h.one_up.up;
        two_up = h.two_up.up;
        one_area = h.one_area;
        two_area = h.two_area;
        one_runs =
            h.one_runs;
        two_runs = h.two_runs;
        apart = h.apart;
      } in
      any_of (OffersDest d.interfaces p) c.interfaces h.one (UpInterface-among net u c h.one near h.one_up) (
        h.one_subnet,
        any_of (ClashOnArea h.one) d.interfaces h.two (UpInterface-among net v d h.two far h.two_up) (
          two,
          record { subnet = p; near = h.one_subnet; far = h.two_subnet },
        ),
      )

  pub RunTwoAreas-best : (best : Option Block) → IsBest IsBlockAtMost (λ p. Any (OffersDest d.interfaces p) c.interfaces) best →
      IsBest IsBlockAtMost (RunTwoAreas net u v) best
  RunTwoAreas-best best h = IsBest-same IsBlockAtMost (λ p. Any (OffersDest d.interfaces p) c.interfaces) (RunTwoAreas net u v) best from_list from_net h
