-- Two routers have one address exactly where their lists of interfaces clash over it.
use Rattle.std.proofs.Common.{arith}
use Rattle.std.proofs.lemmas.Grind.{common_steps}
use Rattle.std.proofs.Common.{◌≡◌, ℕ, ◌<◌, ◌≤◌, Bool, ◌↔◌, length, Option, IsTrue, Any, sym, ◌∙◌, inl, inr, ⊎_elim}
use Rattle.net_model.specs.Conditions.{HaveOneAddress}
use Rattle.net_model.specs.Configuration.{Configuration}
use Rattle.net_model.specs.Least.{IsBest}
use Rattle.net_model.specs.Network.{Network, HasConfiguration}
use Rattle.net_model.specs.steps.Scans.{IsMutual, ClashOnAddress, OffersAddress}
use Rattle.net_model.proofs.Adjacency.{UpInterface-among}
use Rattle.net_addr.proofs.SomeElement.{any_of}
use Rattle.net_model.proofs.Bests.{IsBest-same}
use Rattle.net_model.proofs.NetworkFacts.{UpInterface-within}
use Rattle.net_model.proofs.RouterFacts.{UpInterface-from}

HaveOneAddress-within : (net : Network) (u v a : ℕ) → HaveOneAddress net u v a → v < length net
HaveOneAddress-within net u v a h = UpInterface-within net v h.two h.interfaces.two_up

HaveOneAddress-sym : (net : Network) (u v a : ℕ) → HaveOneAddress net u v a → HaveOneAddress net v u a
HaveOneAddress-sym net u v a h = grind (arith, common_steps)

pub HaveOneAddress-mutual : (net : Network) → IsMutual (HaveOneAddress net) (length net)
HaveOneAddress-mutual net = record { within = HaveOneAddress-within net; back = HaveOneAddress-sym net }

module _ (net : Network) (u v : ℕ) (c d : Configuration) (near : HasConfiguration net u c) (far : HasConfiguration net v d) (same : Bool)
    (same_is : IsTrue same ↔ (u ≡ v)) where
  from_list : (a : ℕ) → Any (OffersAddress same d.interfaces a) c.interfaces → HaveOneAddress net u v a
  from_list a h =
      let clash = h.4.1 in
      record {
        one = h.1;
        two = clash.1;
        interfaces = record {
          one_up = UpInterface-from net u c near h.1 (h.0, h.2, h.3) clash.4.one_up;
          two_up = UpInterface-from net v d far clash.1 (clash.0, clash.2, clash.3) clash.4.two_up;
          apart = λ e. clash.4.apart (same_is.1 e);
        };
        one_address = h.4.0;
        two_address = sym clash.4.one_address ∙ h.4.0;
        unshared = ⊎_elim (λ s. inl (same_is.0 s)) inr clash.4.unshared;
      }

  from_net : (a : ℕ) → HaveOneAddress net u v a → Any (OffersAddress same d.interfaces a) c.interfaces
  from_net a h =
      let clash : ClashOnAddress same h.one h.two = record {
        one_up = h.interfaces.one_up.up;
        two_up = h.interfaces.two_up.up;
        one_address = h.one_address ∙ sym h.two_address;
        apart = λ s. h.interfaces.apart (same_is.0 s);
        unshared = ⊎_elim (λ e. inl (same_is.1 e)) inr h.unshared;
      } in
      any_of (OffersAddress same d.interfaces a) c.interfaces h.one (UpInterface-among net u c h.one near h.interfaces.one_up)
      (h.one_address, any_of (ClashOnAddress same h.one) d.interfaces h.two (UpInterface-among net v d h.two far h.interfaces.two_up) clash)

  pub HaveOneAddress-best : (best : Option ℕ) → IsBest (λ a b. a ≤ b) (λ a. Any (OffersAddress same d.interfaces a) c.interfaces) best →
      IsBest (λ a b. a ≤ b) (HaveOneAddress net u v) best
  HaveOneAddress-best best h = IsBest-same (λ a b. a ≤ b) (λ a. Any (OffersAddress same d.interfaces a) c.interfaces) (HaveOneAddress net u v)
      best from_list from_net h
