-- Two routers differ on a stub area exactly where their lists of interfaces and stub lines do.
use Rattle.std.proofs.Common.{arith}
use Rattle.std.proofs.lemmas.Grind.{common_steps}
use Rattle.std.proofs.Common.{◌≡◌, ℕ, ◌<◌, ◌≤◌, List, [], length, Option, All, Any, Contains, subst, inl, inr, ⊎_elim}
use Rattle.std.proofs.lemmas.Option.{get_or_from_slice_get, slice_get_within}
use Rattle.net_model.specs.Conditions.{DifferOnStub, HasStubLine, StubsAgree}
use Rattle.net_model.specs.Configuration.{Configuration}
use Rattle.net_model.specs.Least.{IsBest}
use Rattle.net_model.specs.Network.{Network, HasConfiguration, RunsArea}
use Rattle.net_model.specs.steps.Scans.{IsMutual, ClashOnStub, OffersArea}
use Rattle.net_model.specs.declared.area.Stub.{Stub}
use Rattle.net_model.proofs.Members.{Contains-none}
use Rattle.net_model.proofs.Adjacency.{UpInterface-among}
use Rattle.net_addr.proofs.SomeElement.{any_of}
use Rattle.net_model.proofs.Bests.{IsBest-same}
use Rattle.net_model.proofs.NetworkFacts.{InArea-within}
use Rattle.net_model.proofs.RouterFacts.{UpInterface-from, InArea-from, any_from_InArea, HasStubLine-from, any_from_HasStubLine}

DifferOnStub-within : (net : Network) (u v a : ℕ) → DifferOnStub net u v a → v < length net
DifferOnStub-within net u v a h = InArea-within net v a h.two_in

DifferOnStub-sym : (net : Network) (u v a : ℕ) → DifferOnStub net u v a → DifferOnStub net v u a
DifferOnStub-sym net u v a h = grind (arith, common_steps)

pub DifferOnStub-mutual : (net : Network) → IsMutual (DifferOnStub net) (length net)
DifferOnStub-mutual net = record { within = DifferOnStub-within net; back = DifferOnStub-sym net }

module _ (net : Network) (u v : ℕ) (c d : Configuration) (near : HasConfiguration net u c) (far : HasConfiguration net v d) where
  from_list : (a : ℕ) → Any (OffersArea c d a) c.interfaces → DifferOnStub net u v a
  from_list a h = record {
    one_in = record { interface = h.1; up = UpInterface-from net u c near h.1 (h.0, h.2, h.3) h.4.0.up; area = h.4.0.area_is };
    two_in = InArea-from net v d far a h.4.1.other_runs;
    differ = ⊎_elim
        (λ l. inl (HasStubLine-from net u c near a l.0, λ s. l.1 (any_from_HasStubLine net v d far a s)))
        (λ r. inr ((λ s. r.0 (any_from_HasStubLine net u c near a s)), HasStubLine-from net v d far a r.1))
        h.4.1.differ;
  }

  from_net : (a : ℕ) → DifferOnStub net u v a → Any (OffersArea c d a) c.interfaces
  from_net a h =
      let i = h.one_in.interface in
      let runs : RunsArea a i = record { up = h.one_in.up.up; area_is = h.one_in.area } in
      let clash : ClashOnStub a c d = record {
        other_runs = any_from_InArea net v d far a h.two_in;
        differ = ⊎_elim
            (λ l. inl (any_from_HasStubLine net u c near a l.0, λ s. l.1 (HasStubLine-from net v d far a s)))
            (λ r. inr ((λ s. r.0 (HasStubLine-from net u c near a s)), any_from_HasStubLine net v d far a r.1))
            h.differ;
      } in
      any_of (OffersArea c d a) c.interfaces i (UpInterface-among net u c i near h.one_in.up) (runs, clash)

  pub DifferOnStub-best : (best : Option ℕ) → IsBest (λ a b. a ≤ b) (λ a. Any (OffersArea c d a) c.interfaces) best →
      IsBest (λ a b. a ≤ b) (DifferOnStub net u v) best
  DifferOnStub-best best h = IsBest-same (λ a b. a ≤ b) (λ a. Any (OffersArea c d a) c.interfaces) (DifferOnStub net u v) best from_list from_net h

-- where no router has a stub line, none differ on one
pub StubsAgree-none : (net : Network) → All (λ (c : Configuration). c.stubs ≡ []) net → StubsAgree net
StubsAgree-none net none u v a h = ⊎_elim (λ l. lacks u l.0) (λ r. lacks v r.1) h.differ
  where
    lacks : (w : ℕ) → HasStubLine net w a → ⊥
    lacks w line =
        let empty = subst (λ (c : Configuration). c.stubs ≡ []) (get_or_from_slice_get net w line.config line.config line.router)
        (none w line.config (slice_get_within net w line.config line.router)) in
        Contains-none line.stub (subst (λ (l : List Stub). Contains l line.stub) empty line.among)
