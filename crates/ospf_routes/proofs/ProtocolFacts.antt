-- What OSPF gives routers keeps what every protocol keeps.
use Rattle.std.proofs.lemmas.Grind.{common_steps}
use Rattle.std.proofs.Common.{◌≡◌, ℕ, ◌<◌, ◌≤◌, ◌⊎◌, List, length, get_or, arith}
use Rattle.std.specs.List.Sorted.{IsStrictlyIncreasing}
use Rattle.std.proofs.lemmas.List.Elements.{Contains-get_or}
use Rattle.net_addr.specs.Addresses.{Block}
use Rattle.net_model.proofs.NetworkFacts.{Adjacent-to_within}
use Rattle.net_model.specs.Network.{Network}
use Rattle.net_model.specs.declared.zone.Zone.TheVariants.{Area}
use Rattle.route_core.specs.Tables.{AreLinkedHops}
use Rattle.route_core.specs.declared.entry.Entry.TheVariants.{Via, Discard}
use Rattle.igp_theory.specs.Ospf.{OspfEntry}
use Rattle.igp_theory.specs.Laws.{IsOspfNeighbor, Forwards}
use Rattle.igp_theory.proofs.TableLaws.{ospf_entry_unique, ospf_entry_forwards, ospf_hop_is_neighbor}
use Rattle.route_tables.specs.Entries.{IsLawful}

-- Neighbors

-- a neighbor is a router
neighbor_is_router : (net : Network) (u v : ℕ) → IsOspfNeighbor net u v → v < length net
neighbor_is_router net u v is = Adjacent-to_within net (Area is.area) u v is.cost is.adjacent

-- Entries

-- the list of an entry's hops ascends
hops_ascend : (net : Network) (u : ℕ) (p : Block) (hops : List ℕ) → OspfEntry net u p (Via hops) → IsStrictlyIncreasing hops
hops_ascend net u p hops it_4 = grind (arith, common_steps)

-- an entry with hops has some
has_hop : (hops : List ℕ) → Forwards (Via hops) ⊎ (Via hops ≡ Discard) → 0 < length hops
has_hop hops it_1 = grind (arith, common_steps)

-- an entry's hops are neighbors of its router
linked_hops : (net : Network) (u : ℕ) (p : Block) (hops : List ℕ) → OspfEntry net u p (Via hops) → AreLinkedHops (length net) (IsOspfNeighbor net u) hops
linked_hops net u p hops entry = record {
  some = has_hop hops (ospf_entry_forwards entry);
  ascending = hops_ascend net u p hops entry;
  below = λ k d within. neighbor_is_router net u (get_or hops k d) (ospf_hop_is_neighbor entry (Contains-get_or hops k d within));
  linked = λ k d within. ospf_hop_is_neighbor entry (Contains-get_or hops k d within);
}

-- all of it
pub ospf_is_lawful : (net : Network) → length net ≤ 200 → IsLawful (length net) (OspfEntry net) (IsOspfNeighbor net)
ospf_is_lawful net small = record {
  few = small;
  single = λ u p e f one other. ospf_entry_unique one other;
  hops = linked_hops net;
  within = neighbor_is_router net;
}
