-- What the code looks for in the lists of routers' interfaces and stub lines.
use Rattle.std.specs.Prelude.{◌≡◌, ◌≢◌, ℕ, ◌<◌, ◌≤◌, nat_lt, nat_eq, Bool, false, List, ◌||◌, ◌&&◌, if◌then◌else◌, ◌⊎◌, Option, Some, IsTrue, Any}
use Rattle.net_addr.specs.Addresses.{Block}
use Rattle.net_model.specs.Configuration.{Configuration}
use Rattle.net_model.specs.Least.{better_by}
use Rattle.net_model.specs.steps.BestLinks.{ShareSubnet}
use Rattle.net_model.specs.Network.{RunsArea}
use Rattle.net_model.specs.declared.area.Stub.{Stub}
use Rattle.net_model.specs.declared.interface.Interface.{Interface}

-- among the routers from one on, below count, router two is the first that clashes, with its least item
pub record IsFirstPartner {A : Type 0} (AtMost : A → A → Type 0) (Clash : ℕ → A → Type 0) (count one two : ℕ) (item : A) : Type 0 where
  pub ordered : one ≤ two
  pub within : two < count
  pub clash : Clash two item
  pub least : (other : A) → Clash two other → AtMost item other
  pub none_before : (v : ℕ) (other : A) → one ≤ v → v < two → Clash v other → ⊥

-- no router from one on, below count, clashes
abbrev pub NonePartner : {A : Type 0} → (ℕ → A → Type 0) → ℕ → ℕ → Type 0
NonePartner {A} Clash count one = (v : ℕ) (item : A) → one ≤ v → v < count → Clash v item → ⊥

-- routers that clash are below count, and clash both ways
pub record IsMutual {A : Type 0} (Clash : ℕ → ℕ → A → Type 0) (count : ℕ) : Type 0 where
  pub within : (u v : ℕ) (item : A) → Clash u v item → v < count
  pub back : (u v : ℕ) (item : A) → Clash u v item → Clash v u item

-- two up interfaces have one address and may not: they are of one router, as `same` says, or one is no loopback
pub record ClashOnAddress (same : Bool) (i j : Interface) : Type 0 where
  pub one_up : IsTrue i.up
  pub two_up : IsTrue j.up
  pub one_address : i.address ≡ j.address
  pub apart : IsTrue same → i.name ≢ j.name
  pub unshared : IsTrue same ⊎ (i.loopback ≡ false) ⊎ (j.loopback ≡ false)

-- the interface has the address, and clashes on it with one of the others
abbrev pub OffersAddress : Bool → List Interface → ℕ → Interface → Type 0
OffersAddress same others address i = (i.address ≡ address) × Any (ClashOnAddress same i) others

-- two interfaces are up and run OSPF in different areas
pub record AreInTwoAreas (i j : Interface) : Type 0 where
  pub one_up : IsTrue i.up
  pub two_up : IsTrue j.up
  pub one_area : ℕ
  pub two_area : ℕ
  pub one_runs : i.area ≡ Some one_area
  pub two_runs : j.area ≡ Some two_area
  pub apart : one_area ≢ two_area

-- two interfaces of one subnet are up and run OSPF in different areas
abbrev pub ClashOnArea : Interface → Interface → Type 0
ClashOnArea i j = AreInTwoAreas i j × ShareSubnet i j

-- the interface has the subnet, and one of the others runs it in another area
abbrev pub OffersDest : List Interface → Block → Interface → Type 0
OffersDest others dest i = (i.subnet ≡ Some dest) × Any (ClashOnArea i) others

-- the interfaces are in two areas, and none is in area 0
pub record LeaveBackbone (interfaces : List Interface) : Type 0 where
  pub border : Any (λ i. Any (AreInTwoAreas i) interfaces) interfaces
  pub outside : Any (RunsArea 0) interfaces → ⊥

-- a stub line for the area is among them
abbrev pub HaveStub : ℕ → List Stub → Type 0
HaveStub area stubs = Any (λ (s : Stub). s.area ≡ area) stubs

-- one of two has a stub line for the area, the other has none
abbrev pub OneHasStub : ℕ → List Stub → List Stub → Type 0
OneHasStub area ones twos =
    (HaveStub area ones × (HaveStub area twos → ⊥)) ⊎ ((HaveStub area ones → ⊥) × HaveStub area twos)

-- an interface of the second router runs in the area, and one of the two alone has a stub line for it
pub record ClashOnStub (area : ℕ) (one two : Configuration) : Type 0 where
  pub other_runs : Any (RunsArea area) two.interfaces
  pub differ : OneHasStub area one.stubs two.stubs

-- the interface runs in the area, and the two routers clash on it
abbrev pub OffersArea : Configuration → Configuration → ℕ → Interface → Type 0
OffersArea one two area i = RunsArea area i × ClashOnStub area one two

-- the first of two prefixes, by base and then by length
abbrev pub pick_block : Block → Block → Block
pick_block p q = if nat_lt q.base p.base || (nat_eq q.base p.base && nat_lt q.len p.len) then q else p

-- the first of two prefixes, or the one that there is
abbrev pub first_block : Option Block → Option Block → Option Block
first_block = better_by pick_block
