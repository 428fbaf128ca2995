-- Configurations make one network or are refused, and in one way.
use Rattle.std.proofs.lemmas.Grind.{common_steps}
use Rattle.std.proofs.Common.{◌≡◌, ◌≢◌, ℕ, suc, ◌≤◌, List, [], ◌∷◌, Contains, refl, sym, ap, subst, ◌∙◌, ⊎_elim, arith}
use Rattle.std.specs.Cmp.Lexicographic.{nat_list_cmp_total}
use Rattle.std.proofs.Math.Nat.{le_antisymm}
use Rattle.std.proofs.lemmas.List.Sorted.{Contains-permutation, IsPermutation-sym}
use Rattle.net_addr.specs.Addresses.{Block}
use Rattle.net_model.specs.Conditions.{HaveOneAddress, RunTwoAreas, LacksBackbone, HaveOneSystem, DifferOnStub, IsConsistent}
use Rattle.net_model.specs.Configuration.{Configuration}
use Rattle.net_model.specs.Least.{IsBlockAtMost}
use Rattle.net_model.specs.Limits.{CountsDests, IsWithinLimits}
use Rattle.net_model.specs.Network.{Network}
use Rattle.net_model.specs.Refusals.{IsBelow, NamesAscend, IsNetworkOf, MakeNetwork, TwoHaveName, IsLeastDouble, HoldsOfNetwork}
use Rattle.net_model.specs.Refusals.{RefusesNetwork, Refuses}
use Rattle.net_model.specs.declared.refusal.LimitWhat.{LimitWhat}
use Rattle.net_model.specs.declared.refusal.LimitWhat.TheVariants.{Routers, Interfaces, Dests}
use Rattle.net_model.specs.declared.refusal.NetRefusal.{NetRefusal}
use Rattle.net_model.specs.declared.refusal.NetRefusal.TheVariants.{Limit, TwoNames, AddressTwice, PrefixInTwoAreas, BorderWithoutBackbone, OspfCostSum}
use Rattle.net_model.specs.declared.refusal.NetRefusal.TheVariants.{IsisMetricSum, SystemIdTwice, StubMismatch, OutOfMemory}
use Rattle.net_model.proofs.Members.{Contains-none, Contains-first, Contains-rest, Contains-cases, length-same_from_distinct}
use Rattle.net_model.proofs.Names.{IsBelow-irrefl, TwoHaveName-permutation, neither_below}
use Rattle.net_model.proofs.NetworkFacts.{IsNamed-unique}
use Rattle.net_model.proofs.PairFacts.{IsLeastNamedPair-unique, IsLowestNamed-unique}

-- configurations name only so many prefixes
pub CountsDests-unique : (configs : List Configuration) (m n : ℕ) → CountsDests configs m → CountsDests configs n → m ≡ n
CountsDests-unique configs m n h k =
    sym h.count_is
    ∙ length-same_from_distinct h.dests k.dests h.once k.once
    (λ p c. (k.exact p).1 ((h.exact p).0 c)) (λ p c. (h.exact p).1 ((k.exact p).0 c))
    ∙ k.count_is

pub TwoHaveName-none : (configs : List Configuration) (net : Network) (name : List ℕ) → IsNetworkOf configs net → TwoHaveName configs name → ⊥
TwoHaveName-none configs net name n t =
    let two = TwoHaveName-permutation configs net name n.same t in
    two.apart (IsNamed-unique net name two.one two.two n.ascending two.first two.second)

pub limit_exceeded : (configs : List Configuration) (what : LimitWhat) (number : ℕ) → Refuses (Limit what number) configs → IsWithinLimits configs → ⊥
limit_exceeded configs Routers number h w = omega (arith, h.above, w.routers)
limit_exceeded configs Interfaces number h w = omega (arith, h.1.above, w.interfaces)
limit_exceeded configs Dests number h w =
    omega (arith, h.2.above.above, w.few, CountsDests-unique configs h.2.dests w.dests h.2.counted w.counted)

below_all : (c : Configuration) (cs : List Configuration) (d : Configuration) → NamesAscend (c ∷ cs) → Contains cs d → IsBelow c.name d.name
below_all c cs d up h =
    subst (λ (e : Configuration). IsBelow c.name e.name) h.2 (up 0 (suc h.0) d (omega arith) (omega (arith, h.1)))

same_first : (x : Configuration) (xs : List Configuration) (y : Configuration) (ys : List Configuration) → NamesAscend (x ∷ xs) → NamesAscend (y ∷ ys) →
    Contains (y ∷ ys) x → Contains (x ∷ xs) y → x ≡ y
same_first x xs y ys a b into back =
    ⊎_elim sym
    (λ x_later. ⊎_elim (λ e. e)
    (λ y_later. absurd (IsBelow-irrefl x.name (nat_list_cmp_total.trans x.name y.name x.name (below_all x xs y a y_later) (below_all y ys x b x_later))))
    (Contains-cases x xs y back))
    (Contains-cases y ys x into)

-- an element of the rest of one list is in the rest of the other, whose first element is the same
later : (x : Configuration) (xs : List Configuration) (y : Configuration) (ys : List Configuration) → NamesAscend (x ∷ xs) → (c : Configuration) → y ≡ x →
    Contains xs c → Contains (y ∷ ys) c → Contains ys c
later x xs y ys a c same m h =
    ⊎_elim
    (λ e. absurd (IsBelow-irrefl x.name (subst (λ (d : Configuration). IsBelow x.name d.name) (sym e ∙ same) (below_all x xs c a m))))
    (λ r. r)
    (Contains-cases y ys c h)

same_ascending : (xs ys : List Configuration) → NamesAscend xs → NamesAscend ys → ((c : Configuration) → Contains xs c → Contains ys c) →
    ((c : Configuration) → Contains ys c → Contains xs c) → xs ≡ ys
same_ascending [] [] a b into back = refl
same_ascending [] (y ∷ ys) a b into back = absurd (Contains-none y (back y (Contains-first y ys)))
same_ascending (x ∷ xs) [] a b into back = absurd (Contains-none x (into x (Contains-first x xs)))
same_ascending (x ∷ xs) (y ∷ ys) a b into back =
    let first = same_first x xs y ys a b (into x (Contains-first x xs)) (back y (Contains-first y ys)) in
    let rest =
    same_ascending xs ys (λ i j d l h. a (suc i) (suc j) d (omega arith) (omega arith)) (λ i j d l h. b (suc i) (suc j) d (omega arith) (omega arith))
    (λ c m. later x xs y ys a c (sym first) m (into c (Contains-rest x xs c m)))
    (λ c m. later y ys x xs b c first m (back c (Contains-rest y ys c m))) in
    λ i. first i ∷ rest i

-- configurations make one network
pub IsNetworkOf-unique : (configs : List Configuration) (one other : Network) → IsNetworkOf configs one → IsNetworkOf configs other → one ≡ other
IsNetworkOf-unique configs one other h k =
    same_ascending one other h.ascending k.ascending
    (λ c m. Contains-permutation configs other c k.same (Contains-permutation one configs c (IsPermutation-sym configs one h.same) m))
    (λ c m. Contains-permutation configs one c h.same (Contains-permutation other configs c (IsPermutation-sym configs other k.same) m))

-- none of its conditions refuses a consistent network
pub IsConsistent-refused : (net : Network) (refusal : NetRefusal) → IsConsistent net → RefusesNetwork refusal net → ⊥
IsConsistent-refused net (Limit _ _) k h = h
IsConsistent-refused net (TwoNames _) k h = h
IsConsistent-refused net (AddressTwice one two address) k h = k.addresses h.first h.second address h.pair.clash
IsConsistent-refused net (PrefixInTwoAreas one two dest) k h = k.areas h.1.first h.1.second dest h.1.pair.clash
IsConsistent-refused net (BorderWithoutBackbone router) k h = k.borders h.1.router h.1.lowest.holds
IsConsistent-refused net (OspfCostSum sum) k h = omega (arith, k.ospf_costs, h.1.above)
IsConsistent-refused net (IsisMetricSum sum) k h = omega (arith, k.isis_metrics, h.1.above)
IsConsistent-refused net (SystemIdTwice one two) k h = k.systems h.1.1.first h.1.1.second h.1.0 h.1.1.pair.clash
IsConsistent-refused net (StubMismatch one two area) k h = k.stubs h.1.first h.1.second area h.1.pair.clash
IsConsistent-refused net OutOfMemory k h = h

refused_by_network : (configs : List Configuration) (net : Network) (refusal : NetRefusal) → MakeNetwork configs net →
    HoldsOfNetwork configs (RefusesNetwork refusal) → ⊥
refused_by_network configs net refusal m h =
    IsConsistent-refused net refusal m.consistent (subst (RefusesNetwork refusal) (IsNetworkOf-unique configs h.net net h.network m.network) h.holds)

-- where configurations make a network, only want of memory may refuse them
pub MakeNetwork-refused : (configs : List Configuration) (net : Network) (refusal : NetRefusal) → MakeNetwork configs net →
    Refuses refusal configs → refusal ≡ OutOfMemory
MakeNetwork-refused configs net (Limit what number) m h = absurd (limit_exceeded configs what number h m.limits)
MakeNetwork-refused configs net (TwoNames name) m h = absurd (TwoHaveName-none configs net name m.network h.1.double)
MakeNetwork-refused configs net OutOfMemory m h = refl
MakeNetwork-refused configs net refusal m h = absurd (refused_by_network configs net refusal m h)

same_limit : (configs : List Configuration) (what other : LimitWhat) (m n : ℕ) → Refuses (Limit what m) configs → Refuses (Limit other n) configs →
    Limit what m ≡ Limit other n
same_limit configs Routers Routers m n h k = ap (Limit Routers) (h.number_is ∙ sym k.number_is)
same_limit configs Routers Interfaces m n h k = absurd (omega (arith, h.above, k.0))
same_limit configs Routers Dests m n h k = absurd (omega (arith, h.above, k.0))
same_limit configs Interfaces Routers m n h k = absurd (omega (arith, k.above, h.0))
same_limit configs Interfaces Interfaces m n h k = ap (Limit Interfaces) (h.1.number_is ∙ sym k.1.number_is)
same_limit configs Interfaces Dests m n h k = absurd (omega (arith, h.1.above, k.1))
same_limit configs Dests Routers m n h k = absurd (omega (arith, k.above, h.0))
same_limit configs Dests Interfaces m n h k = absurd (omega (arith, k.1.above, h.1))
same_limit configs Dests Dests m n h k =
    ap (Limit Dests) (omega (arith, h.2.above.number_is, k.2.above.number_is, CountsDests-unique configs h.2.dests k.2.dests h.2.counted k.2.counted))

pub IsLeastDouble-unique : (configs : List Configuration) (a b : List ℕ) → IsLeastDouble configs a → IsLeastDouble configs b → a ≡ b
IsLeastDouble-unique configs a b h k = neither_below a b (k.least a h.double) (h.least b k.double)

pub block_antisymmetric : (p q : Block) → IsBlockAtMost p q → IsBlockAtMost q p → p ≡ q
block_antisymmetric p q l m = grind (arith, common_steps)

-- of two refusals of one network the later one needs that the earlier one's condition doesn't hold
RefusesNetwork-unique : (net : Network) (one other : NetRefusal) → RefusesNetwork one net → RefusesNetwork other net → one ≡ other
RefusesNetwork-unique net (AddressTwice u1 v1 a1) (AddressTwice u2 v2 a2) h k =
    let same = IsLeastNamedPair-unique (λ a b. a ≤ b) (HaveOneAddress net) net u1 v1 a1 u2 v2 a2 (λ a b. le_antisymm) h k in
    λ i. AddressTwice (same.0 i) (same.1 i) (same.2 i)
RefusesNetwork-unique net (AddressTwice u1 v1 a1) (PrefixInTwoAreas u2 v2 p2) h k = absurd (k.0 h.first h.second a1 h.pair.clash)
RefusesNetwork-unique net (AddressTwice u1 v1 a1) (BorderWithoutBackbone u2) h k = absurd (k.0.0 h.first h.second a1 h.pair.clash)
RefusesNetwork-unique net (AddressTwice u1 v1 a1) (OspfCostSum s2) h k = absurd (k.0.0.0 h.first h.second a1 h.pair.clash)
RefusesNetwork-unique net (AddressTwice u1 v1 a1) (IsisMetricSum s2) h k = absurd (k.0.0.0.0 h.first h.second a1 h.pair.clash)
RefusesNetwork-unique net (AddressTwice u1 v1 a1) (SystemIdTwice u2 v2) h k = absurd (k.0.0.0.0.0 h.first h.second a1 h.pair.clash)
RefusesNetwork-unique net (AddressTwice u1 v1 a1) (StubMismatch u2 v2 n2) h k = absurd (k.0.0.0.0.0.0 h.first h.second a1 h.pair.clash)
RefusesNetwork-unique net (PrefixInTwoAreas u1 v1 p1) (AddressTwice u2 v2 a2) h k = absurd (h.0 k.first k.second a2 k.pair.clash)
RefusesNetwork-unique net (PrefixInTwoAreas u1 v1 p1) (PrefixInTwoAreas u2 v2 p2) h k =
    let same = IsLeastNamedPair-unique IsBlockAtMost (RunTwoAreas net) net u1 v1 p1 u2 v2 p2 block_antisymmetric h.1 k.1 in
    λ i. PrefixInTwoAreas (same.0 i) (same.1 i) (same.2 i)
RefusesNetwork-unique net (PrefixInTwoAreas u1 v1 p1) (BorderWithoutBackbone u2) h k = absurd (k.0.1 h.1.first h.1.second p1 h.1.pair.clash)
RefusesNetwork-unique net (PrefixInTwoAreas u1 v1 p1) (OspfCostSum s2) h k = absurd (k.0.0.1 h.1.first h.1.second p1 h.1.pair.clash)
RefusesNetwork-unique net (PrefixInTwoAreas u1 v1 p1) (IsisMetricSum s2) h k = absurd (k.0.0.0.1 h.1.first h.1.second p1 h.1.pair.clash)
RefusesNetwork-unique net (PrefixInTwoAreas u1 v1 p1) (SystemIdTwice u2 v2) h k = absurd (k.0.0.0.0.1 h.1.first h.1.second p1 h.1.pair.clash)
RefusesNetwork-unique net (PrefixInTwoAreas u1 v1 p1) (StubMismatch u2 v2 n2) h k = absurd (k.0.0.0.0.0.1 h.1.first h.1.second p1 h.1.pair.clash)
RefusesNetwork-unique net (BorderWithoutBackbone u1) (AddressTwice u2 v2 a2) h k = absurd (h.0.0 k.first k.second a2 k.pair.clash)
RefusesNetwork-unique net (BorderWithoutBackbone u1) (PrefixInTwoAreas u2 v2 p2) h k = absurd (h.0.1 k.1.first k.1.second p2 k.1.pair.clash)
RefusesNetwork-unique net (BorderWithoutBackbone u1) (BorderWithoutBackbone u2) h k =
    ap BorderWithoutBackbone (IsLowestNamed-unique (LacksBackbone net) net u1 u2 h.1 k.1)
RefusesNetwork-unique net (BorderWithoutBackbone u1) (OspfCostSum s2) h k = absurd (k.0.1 h.1.router h.1.lowest.holds)
RefusesNetwork-unique net (BorderWithoutBackbone u1) (IsisMetricSum s2) h k = absurd (k.0.0.1 h.1.router h.1.lowest.holds)
RefusesNetwork-unique net (BorderWithoutBackbone u1) (SystemIdTwice u2 v2) h k = absurd (k.0.0.0.1 h.1.router h.1.lowest.holds)
RefusesNetwork-unique net (BorderWithoutBackbone u1) (StubMismatch u2 v2 n2) h k = absurd (k.0.0.0.0.1 h.1.router h.1.lowest.holds)
RefusesNetwork-unique net (OspfCostSum s1) (AddressTwice u2 v2 a2) h k = absurd (h.0.0.0 k.first k.second a2 k.pair.clash)
RefusesNetwork-unique net (OspfCostSum s1) (PrefixInTwoAreas u2 v2 p2) h k = absurd (h.0.0.1 k.1.first k.1.second p2 k.1.pair.clash)
RefusesNetwork-unique net (OspfCostSum s1) (BorderWithoutBackbone u2) h k = absurd (h.0.1 k.1.router k.1.lowest.holds)
RefusesNetwork-unique net (OspfCostSum s1) (OspfCostSum s2) h k = ap OspfCostSum (h.1.number_is ∙ sym k.1.number_is)
RefusesNetwork-unique net (OspfCostSum s1) (IsisMetricSum s2) h k = absurd (omega (arith, k.0.1, h.1.above))
RefusesNetwork-unique net (OspfCostSum s1) (SystemIdTwice u2 v2) h k = absurd (omega (arith, k.0.0.1, h.1.above))
RefusesNetwork-unique net (OspfCostSum s1) (StubMismatch u2 v2 n2) h k = absurd (omega (arith, k.0.0.0.1, h.1.above))
RefusesNetwork-unique net (IsisMetricSum s1) (AddressTwice u2 v2 a2) h k = absurd (h.0.0.0.0 k.first k.second a2 k.pair.clash)
RefusesNetwork-unique net (IsisMetricSum s1) (PrefixInTwoAreas u2 v2 p2) h k = absurd (h.0.0.0.1 k.1.first k.1.second p2 k.1.pair.clash)
RefusesNetwork-unique net (IsisMetricSum s1) (BorderWithoutBackbone u2) h k = absurd (h.0.0.1 k.1.router k.1.lowest.holds)
RefusesNetwork-unique net (IsisMetricSum s1) (OspfCostSum s2) h k = absurd (omega (arith, h.0.1, k.1.above))
RefusesNetwork-unique net (IsisMetricSum s1) (IsisMetricSum s2) h k = ap IsisMetricSum (h.1.number_is ∙ sym k.1.number_is)
RefusesNetwork-unique net (IsisMetricSum s1) (SystemIdTwice u2 v2) h k = absurd (omega (arith, k.0.1, h.1.above))
RefusesNetwork-unique net (IsisMetricSum s1) (StubMismatch u2 v2 n2) h k = absurd (omega (arith, k.0.0.1, h.1.above))
RefusesNetwork-unique net (SystemIdTwice u1 v1) (AddressTwice u2 v2 a2) h k = absurd (h.0.0.0.0.0 k.first k.second a2 k.pair.clash)
RefusesNetwork-unique net (SystemIdTwice u1 v1) (PrefixInTwoAreas u2 v2 p2) h k = absurd (h.0.0.0.0.1 k.1.first k.1.second p2 k.1.pair.clash)
RefusesNetwork-unique net (SystemIdTwice u1 v1) (BorderWithoutBackbone u2) h k = absurd (h.0.0.0.1 k.1.router k.1.lowest.holds)
RefusesNetwork-unique net (SystemIdTwice u1 v1) (OspfCostSum s2) h k = absurd (omega (arith, h.0.0.1, k.1.above))
RefusesNetwork-unique net (SystemIdTwice u1 v1) (IsisMetricSum s2) h k = absurd (omega (arith, h.0.1, k.1.above))
RefusesNetwork-unique net (SystemIdTwice u1 v1) (SystemIdTwice u2 v2) h k =
    let same = IsLeastNamedPair-unique (λ a b. a ≤ b) (HaveOneSystem net) net u1 v1 h.1.0 u2 v2 k.1.0 (λ a b. le_antisymm) h.1.1 k.1.1 in
    λ i. SystemIdTwice (same.0 i) (same.1 i)
RefusesNetwork-unique net (SystemIdTwice u1 v1) (StubMismatch u2 v2 n2) h k = absurd (k.0.1 h.1.1.first h.1.1.second h.1.0 h.1.1.pair.clash)
RefusesNetwork-unique net (StubMismatch u1 v1 n1) (AddressTwice u2 v2 a2) h k = absurd (h.0.0.0.0.0.0 k.first k.second a2 k.pair.clash)
RefusesNetwork-unique net (StubMismatch u1 v1 n1) (PrefixInTwoAreas u2 v2 p2) h k = absurd (h.0.0.0.0.0.1 k.1.first k.1.second p2 k.1.pair.clash)
RefusesNetwork-unique net (StubMismatch u1 v1 n1) (BorderWithoutBackbone u2) h k = absurd (h.0.0.0.0.1 k.1.router k.1.lowest.holds)
RefusesNetwork-unique net (StubMismatch u1 v1 n1) (OspfCostSum s2) h k = absurd (omega (arith, h.0.0.0.1, k.1.above))
RefusesNetwork-unique net (StubMismatch u1 v1 n1) (IsisMetricSum s2) h k = absurd (omega (arith, h.0.0.1, k.1.above))
RefusesNetwork-unique net (StubMismatch u1 v1 n1) (SystemIdTwice u2 v2) h k = absurd (h.0.1 k.1.1.first k.1.1.second k.1.0 k.1.1.pair.clash)
RefusesNetwork-unique net (StubMismatch u1 v1 n1) (StubMismatch u2 v2 n2) h k =
    let same = IsLeastNamedPair-unique (λ a b. a ≤ b) (DifferOnStub net) net u1 v1 n1 u2 v2 n2 (λ a b. le_antisymm) h.1 k.1 in
    λ i. StubMismatch (same.0 i) (same.1 i) (same.2 i)
RefusesNetwork-unique net (Limit _ _) other h k = absurd h
RefusesNetwork-unique net (TwoNames _) other h k = absurd h
RefusesNetwork-unique net OutOfMemory other h k = absurd h
RefusesNetwork-unique net one (Limit _ _) h k = absurd k
RefusesNetwork-unique net one (TwoNames _) h k = absurd k
RefusesNetwork-unique net one OutOfMemory h k = absurd k

both_of_network : (configs : List Configuration) (one other : NetRefusal) → HoldsOfNetwork configs (RefusesNetwork one) →
    HoldsOfNetwork configs (RefusesNetwork other) → one ≡ other
both_of_network configs one other h k =
    RefusesNetwork-unique h.net one other h.holds (subst (RefusesNetwork other) (IsNetworkOf-unique configs k.net h.net k.network h.network) k.holds)

-- one refusal at most stands, besides want of memory
pub Refuses-unique : (configs : List Configuration) (one other : NetRefusal) → one ≢ OutOfMemory → other ≢ OutOfMemory → Refuses one configs →
    Refuses other configs → one ≡ other
Refuses-unique configs OutOfMemory other a b h k = absurd (a refl)
Refuses-unique configs one OutOfMemory a b h k = absurd (b refl)
Refuses-unique configs (Limit what m) (Limit other n) a b h k = same_limit configs what other m n h k
Refuses-unique configs (Limit what m) (TwoNames name) a b h k = absurd (limit_exceeded configs what m h k.0)
Refuses-unique configs (TwoNames name) (Limit what m) a b h k = absurd (limit_exceeded configs what m k h.0)
Refuses-unique configs (TwoNames name) (TwoNames other) a b h k = ap TwoNames (IsLeastDouble-unique configs name other h.1 k.1)
Refuses-unique configs (Limit what m) other a b h k = absurd (limit_exceeded configs what m h k.limits)
Refuses-unique configs one (Limit what m) a b h k = absurd (limit_exceeded configs what m k h.limits)
Refuses-unique configs (TwoNames name) other a b h k = absurd (TwoHaveName-none configs k.net name k.network h.1.double)
Refuses-unique configs one (TwoNames name) a b h k = absurd (TwoHaveName-none configs h.net name h.network k.1.double)
Refuses-unique configs one other a b h k = both_of_network configs one other h k
