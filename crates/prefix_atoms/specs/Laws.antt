-- What the law of this crate says: the addresses of a class act alike.
use Rattle.std.specs.Prelude.{◌≡◌, ℕ, ◌↔◌}
use Rattle.net_addr.specs.Addresses.{Block}
use Rattle.net_model.specs.Lookups.{LongestConnected}
use Rattle.route_core.specs.Tables.{LongestEntry}
use Rattle.route_core.specs.declared.entry.Entry.{Entry}
use Rattle.igp_theory.specs.Forwarding.{IsTarget, Usable, Uses, Steps}
use Rattle.igp_theory.specs.Migrations.{Migration}
use Rattle.igp_theory.specs.Phases.{State}
use Rattle.igp_theory.specs.States.{IsSoundAt}
use Rattle.igp_theory.specs.declared.phase.Phase.{Phase}
use Rattle.prefix_atoms.specs.Classes.{Classes, AreClasses, IsInClass}

-- two addresses have one target, and at every router the same longest connected prefix, the same
-- longest entries and the same used entries; a state is sound for both or for neither
pub record ActAlike (move : Migration) (a b : ℕ) : Type 0 where
  pub target : (p : Block) → IsTarget move.net a p ↔ IsTarget move.net b p
  pub connected : (u : ℕ) (p : Block) → LongestConnected move.net u a p ↔ LongestConnected move.net u b p
  pub old_entry : (u : ℕ) (p : Block) (e : Entry) → LongestEntry (move.old u) a p e ↔ LongestEntry (move.old u) b p e
  pub new_entry : (u : ℕ) (p : Block) (e : Entry) → LongestEntry (move.new u) a p e ↔ LongestEntry (move.new u) b p e
  pub used : (u : ℕ) (phase : Phase) (x : Usable) → Uses move u phase a x ↔ Uses move u phase b x
  pub steps : (u h : ℕ) (phase : Phase) → Steps move u phase a h ↔ Steps move u phase b h
  pub sound : (state : State) → IsSoundAt move state a ↔ IsSoundAt move state b

-- the addresses of one class act alike
abbrev pub OneClassActsAlike : Migration → Type 0
OneClassActsAlike move =
    (c : Classes) (k a b : ℕ) → AreClasses move c → IsInClass c k a → IsInClass c k b →
    ActAlike move a b

-- an address is in one class
abbrev pub OneClassEach : Migration → Type 0
OneClassEach move =
    (c : Classes) (k j a : ℕ) → AreClasses move c → IsInClass c k a → IsInClass c j a → k ≡ j
