-- Two networks make a pair or are refused, and in one way; what is the same in the networks of a pair.
use Rattle.std.proofs.Common.{◌≡◌, ◌≢◌, ℕ, List, refl, ap, ⊎_elim}
use Rattle.net_model.proofs.Names.{neither_below}
use Rattle.ospf_pair.specs.NetworkPairs.{NetworkPair, StandsInOne, HaveSameRouters, RouterMeets}
use Rattle.ospf_pair.specs.PairRefusals.{IsLeastName, MakePair, RefusesPair}
use Rattle.ospf_pair.specs.RouterConditions.{HaveOtherInterfaces, RunsIsis, HasProcessClash, IsNotIdle}
use Rattle.ospf_pair.specs.declared.refusal.PairRefusal.{PairRefusal}
use Rattle.ospf_pair.specs.declared.refusal.PairRefusal.TheVariants.{RouterMissing, InterfacesDiffer, HasIsis, ProcessClash, NotIdle, OutOfMemory}

-- no router of two networks with the same routers is missing
none_missing : (nets : NetworkPair) (name : List ℕ) → HaveSameRouters nets → StandsInOne nets name → ⊥
none_missing nets name same h =
    ⊎_elim
    (λ a. a.1 (a.0.0, (same name a.0.0).0 a.0.1))
    (λ b. b.0 (b.1.0, (same name b.1.0).1 b.1.1))
    h

-- where two networks make a pair, only want of memory may refuse them
pub MakePair-refused : (nets : NetworkPair) (refusal : PairRefusal) → MakePair nets → RefusesPair refusal nets → refusal ≡ OutOfMemory
MakePair-refused nets (RouterMissing name) m h = absurd (none_missing nets name m.0.0.0.0 h.holds)
MakePair-refused nets (InterfacesDiffer name) m h = absurd (m.0.0.0.1 name h.1.holds)
MakePair-refused nets (HasIsis name) m h = absurd (m.0.0.1 name h.1.holds)
MakePair-refused nets (ProcessClash name) m h = absurd (m.0.1 name h.1.holds)
MakePair-refused nets (NotIdle name) m h = absurd (m.1 name h.1.holds)
MakePair-refused nets OutOfMemory m h = refl

least_unique : (P : List ℕ → Type 0) (one other : List ℕ) → IsLeastName P one → IsLeastName P other → one ≡ other
least_unique P one other h k = neither_below one other (k.least one h.holds) (h.least other k.holds)

-- of two refusals the later one needs that the condition of the earlier one holds of no router
pub RefusesPair-unique : (nets : NetworkPair) (one other : PairRefusal) → one ≢ OutOfMemory → other ≢ OutOfMemory → RefusesPair one nets →
    RefusesPair other nets → one ≡ other
RefusesPair-unique nets OutOfMemory other a b h k = absurd (a refl)
RefusesPair-unique nets one OutOfMemory a b h k = absurd (b refl)
RefusesPair-unique nets (RouterMissing m) (RouterMissing n) a b h k = ap RouterMissing (least_unique (StandsInOne nets) m n h k)
RefusesPair-unique nets (RouterMissing m) (InterfacesDiffer n) a b h k = absurd (none_missing nets m k.0 h.holds)
RefusesPair-unique nets (RouterMissing m) (HasIsis n) a b h k = absurd (none_missing nets m k.0.0 h.holds)
RefusesPair-unique nets (RouterMissing m) (ProcessClash n) a b h k = absurd (none_missing nets m k.0.0.0 h.holds)
RefusesPair-unique nets (RouterMissing m) (NotIdle n) a b h k = absurd (none_missing nets m k.0.0.0.0 h.holds)
RefusesPair-unique nets (InterfacesDiffer m) (RouterMissing n) a b h k = absurd (none_missing nets n h.0 k.holds)
RefusesPair-unique nets (InterfacesDiffer m) (InterfacesDiffer n) a b h k =
    ap InterfacesDiffer (least_unique (RouterMeets HaveOtherInterfaces nets) m n h.1 k.1)
RefusesPair-unique nets (InterfacesDiffer m) (HasIsis n) a b h k = absurd (k.0.1 m h.1.holds)
RefusesPair-unique nets (InterfacesDiffer m) (ProcessClash n) a b h k = absurd (k.0.0.1 m h.1.holds)
RefusesPair-unique nets (InterfacesDiffer m) (NotIdle n) a b h k = absurd (k.0.0.0.1 m h.1.holds)
RefusesPair-unique nets (HasIsis m) (RouterMissing n) a b h k = absurd (none_missing nets n h.0.0 k.holds)
RefusesPair-unique nets (HasIsis m) (InterfacesDiffer n) a b h k = absurd (h.0.1 n k.1.holds)
RefusesPair-unique nets (HasIsis m) (HasIsis n) a b h k = ap HasIsis (least_unique (RouterMeets RunsIsis nets) m n h.1 k.1)
RefusesPair-unique nets (HasIsis m) (ProcessClash n) a b h k = absurd (k.0.1 m h.1.holds)
RefusesPair-unique nets (HasIsis m) (NotIdle n) a b h k = absurd (k.0.0.1 m h.1.holds)
RefusesPair-unique nets (ProcessClash m) (RouterMissing n) a b h k = absurd (none_missing nets n h.0.0.0 k.holds)
RefusesPair-unique nets (ProcessClash m) (InterfacesDiffer n) a b h k = absurd (h.0.0.1 n k.1.holds)
RefusesPair-unique nets (ProcessClash m) (HasIsis n) a b h k = absurd (h.0.1 n k.1.holds)
RefusesPair-unique nets (ProcessClash m) (ProcessClash n) a b h k = ap ProcessClash (least_unique (RouterMeets HasProcessClash nets) m n h.1 k.1)
RefusesPair-unique nets (ProcessClash m) (NotIdle n) a b h k = absurd (k.0.1 m h.1.holds)
RefusesPair-unique nets (NotIdle m) (RouterMissing n) a b h k = absurd (none_missing nets n h.0.0.0.0 k.holds)
RefusesPair-unique nets (NotIdle m) (InterfacesDiffer n) a b h k = absurd (h.0.0.0.1 n k.1.holds)
RefusesPair-unique nets (NotIdle m) (HasIsis n) a b h k = absurd (h.0.0.1 n k.1.holds)
RefusesPair-unique nets (NotIdle m) (ProcessClash n) a b h k = absurd (h.0.1 n k.1.holds)
RefusesPair-unique nets (NotIdle m) (NotIdle n) a b h k = ap NotIdle (least_unique (RouterMeets IsNotIdle nets) m n h.1 k.1)
