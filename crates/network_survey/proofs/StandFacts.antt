-- What stands at a place of the order: one refusal at most, and none where the condition of the place holds of no router.
use Rattle.std.proofs.Common.{◌≡◌, ◌≢◌, ℕ, ◌≤◌, refl, sym, ap, ◌∙◌, arith}
use Rattle.std.proofs.Math.Nat.{le_antisymm}
use Rattle.net_model.specs.Conditions.{HaveOneAddress, RunTwoAreas, LacksBackbone, HaveOneSystem, DifferOnStub}
use Rattle.net_model.specs.Conditions.{AddressesDiffer, AreasAgree, BordersMeetBackbone, OspfCostsFit, IsisMetricsFit, SystemsDiffer, StubsAgree}
use Rattle.net_model.specs.Least.{IsBlockAtMost}
use Rattle.net_model.specs.Network.{Network}
use Rattle.net_model.specs.Refusals.{MayStand, Stands, place_of}
use Rattle.net_model.specs.declared.refusal.NetRefusal.{NetRefusal}
use Rattle.net_model.specs.declared.refusal.NetRefusal.TheVariants.{Limit, TwoNames, AddressTwice, PrefixInTwoAreas, BorderWithoutBackbone, OspfCostSum}
use Rattle.net_model.specs.declared.refusal.NetRefusal.TheVariants.{IsisMetricSum, SystemIdTwice, StubMismatch, OutOfMemory}
use Rattle.net_model.proofs.PairFacts.{IsLeastNamedPair-unique, IsLowestNamed-unique}
use Rattle.net_model.proofs.RefusalLaws.{block_antisymmetric}

Stands-unique : (net : Network) (one other : NetRefusal) → place_of one ≡ place_of other → Stands one net → Stands other net → one ≡ other
Stands-unique net (Limit _ _) other e h k = absurd h
Stands-unique net (TwoNames _) other e h k = absurd h
Stands-unique net OutOfMemory other e h k = absurd h
Stands-unique net one (Limit _ _) e h k = absurd k
Stands-unique net one (TwoNames _) e h k = absurd k
Stands-unique net one OutOfMemory e h k = absurd k
Stands-unique net (AddressTwice u1 v1 a1) (AddressTwice u2 v2 a2) e h k =
    let same = IsLeastNamedPair-unique (λ a b. a ≤ b) (HaveOneAddress net) net u1 v1 a1 u2 v2 a2 (λ a b. le_antisymm) h k in
    λ i. AddressTwice (same.0 i) (same.1 i) (same.2 i)
Stands-unique net (PrefixInTwoAreas u1 v1 p1) (PrefixInTwoAreas u2 v2 p2) e h k =
    let same = IsLeastNamedPair-unique IsBlockAtMost (RunTwoAreas net) net u1 v1 p1 u2 v2 p2 block_antisymmetric h k in
    λ i. PrefixInTwoAreas (same.0 i) (same.1 i) (same.2 i)
Stands-unique net (BorderWithoutBackbone u1) (BorderWithoutBackbone u2) e h k =
    ap BorderWithoutBackbone (IsLowestNamed-unique (LacksBackbone net) net u1 u2 h k)
Stands-unique net (OspfCostSum s1) (OspfCostSum s2) e h k = ap OspfCostSum (h.number_is ∙ sym k.number_is)
Stands-unique net (IsisMetricSum s1) (IsisMetricSum s2) e h k = ap IsisMetricSum (h.number_is ∙ sym k.number_is)
Stands-unique net (SystemIdTwice u1 v1) (SystemIdTwice u2 v2) e h k =
    let same = IsLeastNamedPair-unique (λ a b. a ≤ b) (HaveOneSystem net) net u1 v1 h.0 u2 v2 k.0 (λ a b. le_antisymm) h.1 k.1 in
    λ i. SystemIdTwice (same.0 i) (same.1 i)
Stands-unique net (StubMismatch u1 v1 n1) (StubMismatch u2 v2 n2) e h k =
    let same = IsLeastNamedPair-unique (λ a b. a ≤ b) (DifferOnStub net) net u1 v1 n1 u2 v2 n2 (λ a b. le_antisymm) h k in
    λ i. StubMismatch (same.0 i) (same.1 i) (same.2 i)
Stands-unique net one other e h k = absurd (omega (arith, e))

-- the refusal of a check is the one that stands at its place
pub one_stands : (place : ℕ) (net : Network) (e : NetRefusal) → MayStand place e net → e ≢ OutOfMemory →
    (place_of e ≡ place) × Stands e net × ((r : NetRefusal) → place_of r ≡ place → Stands r net → e ≡ r)
one_stands place net OutOfMemory m told = absurd (told refl)
one_stands place net e m told = (m.0, m.1, λ r f s. Stands-unique net e r (m.0 ∙ sym f) m.1 s)

-- a refusal that stands is one of a network
pub place_of-stands : (net : Network) (r : NetRefusal) → Stands r net → (4 ≤ place_of r) × (place_of r ≤ 10)
place_of-stands net (Limit _ _) s = absurd s
place_of-stands net (TwoNames _) s = absurd s
place_of-stands net OutOfMemory s = absurd s
place_of-stands net _ s = (omega arith, omega arith)

pub none_by_addresses : (net : Network) → AddressesDiffer net → (r : NetRefusal) → place_of r ≡ 4 → Stands r net → ⊥
none_by_addresses net holds (Limit _ _) e s = s
none_by_addresses net holds (TwoNames _) e s = s
none_by_addresses net holds OutOfMemory e s = s
none_by_addresses net holds (AddressTwice _ _ a) e s = holds s.first s.second a s.pair.clash
none_by_addresses net holds _ e s = omega (arith, e)

pub none_by_areas : (net : Network) → AreasAgree net → (r : NetRefusal) → place_of r ≡ 5 → Stands r net → ⊥
none_by_areas net holds (Limit _ _) e s = s
none_by_areas net holds (TwoNames _) e s = s
none_by_areas net holds OutOfMemory e s = s
none_by_areas net holds (PrefixInTwoAreas _ _ p) e s = holds s.first s.second p s.pair.clash
none_by_areas net holds _ e s = omega (arith, e)

pub none_by_borders : (net : Network) → BordersMeetBackbone net → (r : NetRefusal) → place_of r ≡ 6 → Stands r net → ⊥
none_by_borders net holds (Limit _ _) e s = s
none_by_borders net holds (TwoNames _) e s = s
none_by_borders net holds OutOfMemory e s = s
none_by_borders net holds (BorderWithoutBackbone _) e s = holds s.router s.lowest.holds
none_by_borders net holds _ e s = omega (arith, e)

pub none_by_ospf_costs : (net : Network) → OspfCostsFit net → (r : NetRefusal) → place_of r ≡ 7 → Stands r net → ⊥
none_by_ospf_costs net holds (Limit _ _) e s = s
none_by_ospf_costs net holds (TwoNames _) e s = s
none_by_ospf_costs net holds OutOfMemory e s = s
none_by_ospf_costs net holds (OspfCostSum _) e s = omega (arith, holds, s.above)
none_by_ospf_costs net holds _ e s = omega (arith, e)

pub none_by_isis_metrics : (net : Network) → IsisMetricsFit net → (r : NetRefusal) → place_of r ≡ 8 → Stands r net → ⊥
none_by_isis_metrics net holds (Limit _ _) e s = s
none_by_isis_metrics net holds (TwoNames _) e s = s
none_by_isis_metrics net holds OutOfMemory e s = s
none_by_isis_metrics net holds (IsisMetricSum _) e s = omega (arith, holds, s.above)
none_by_isis_metrics net holds _ e s = omega (arith, e)

pub none_by_systems : (net : Network) → SystemsDiffer net → (r : NetRefusal) → place_of r ≡ 9 → Stands r net → ⊥
none_by_systems net holds (Limit _ _) e s = s
none_by_systems net holds (TwoNames _) e s = s
none_by_systems net holds OutOfMemory e s = s
none_by_systems net holds (SystemIdTwice _ _) e s = holds s.1.first s.1.second s.0 s.1.pair.clash
none_by_systems net holds _ e s = omega (arith, e)

pub none_by_stubs : (net : Network) → StubsAgree net → (r : NetRefusal) → place_of r ≡ 10 → Stands r net → ⊥
none_by_stubs net holds (Limit _ _) e s = s
none_by_stubs net holds (TwoNames _) e s = s
none_by_stubs net holds OutOfMemory e s = s
none_by_stubs net holds (StubMismatch _ _ n) e s = holds s.first s.second n s.pair.clash
none_by_stubs net holds _ e s = omega (arith, e)
