-- What a router's configuration says of it: its interfaces, areas and stub lines, and the lowest router of some.
use Rattle.std.proofs.Common.{arith}
use Rattle.std.proofs.lemmas.Grind.{common_steps}
use Rattle.std.proofs.Common.{◌≡◌, ℕ, ◌<◌, length, get_or, IsTrue, Any, Contains, refl, subst}
use Rattle.std.proofs.lemmas.Bool.{cases_lt}
use Rattle.std.proofs.lemmas.Option.{slice_get_read}
use Rattle.net_model.specs.Conditions.{HasStubLine}
use Rattle.net_model.specs.Configuration.{Configuration}
use Rattle.net_model.specs.Least.{IsLowest}
use Rattle.net_model.specs.Network.{Network, HasConfiguration, UpInterface, InArea, RunsArea}
use Rattle.net_model.specs.steps.Scans.{HaveStub}
use Rattle.net_model.specs.declared.area.Stub.{Stub}
use Rattle.net_model.specs.declared.interface.Interface.{Interface}
use Rattle.net_model.proofs.Adjacency.{HasConfiguration-unique, UpInterface-among}
use Rattle.net_addr.proofs.SomeElement.{any_of}

pub HasConfiguration-at : (net : Network) (u : ℕ) (c : Configuration) → u < length net → c ≡ get_or net u c → HasConfiguration net u c
HasConfiguration-at net u c l e = slice_get_read net (length net) u c refl l e

-- the lowest number of which P holds, from those below it
pub IsLowest-from : (P : ℕ → Type 0) (n : ℕ) → P n → ((m : ℕ) → m < n → P m → ⊥) → IsLowest P n
IsLowest-from P n here below = grind (arith, common_steps, cases_lt)

module _ (net : Network) (u : ℕ) (c : Configuration) (at : HasConfiguration net u c) where
  pub UpInterface-from : (i : Interface) → Contains c.interfaces i → IsTrue i.up → UpInterface net u i
  UpInterface-from i among up = record { config = c; router = at; among = among; up = up }

  pub InArea-from : (area : ℕ) → Any (RunsArea area) c.interfaces → InArea net u area
  InArea-from area h = record { interface = h.1; up = UpInterface-from h.1 (h.0, h.2, h.3) h.4.up; area = h.4.area_is }

  pub any_from_InArea : (area : ℕ) → InArea net u area → Any (RunsArea area) c.interfaces
  any_from_InArea area h =
      any_of (RunsArea area) c.interfaces h.interface (UpInterface-among net u c h.interface at h.up) (record { up = h.up.up; area_is = h.area })

  pub HasStubLine-from : (area : ℕ) → HaveStub area c.stubs → HasStubLine net u area
  HasStubLine-from area h = record { config = c; router = at; stub = h.1; among = (h.0, h.2, h.3); area_is = h.4 }

  pub any_from_HasStubLine : (area : ℕ) → HasStubLine net u area → HaveStub area c.stubs
  any_from_HasStubLine area h =
      any_of (λ (s : Stub). s.area ≡ area) c.stubs h.stub
      (subst (λ (d : Configuration). Contains d.stubs h.stub) (HasConfiguration-unique net u h.config c h.router at) h.among) h.area_is
