-- What IS-IS gives routers keeps what every protocol keeps.
use Rattle.std.proofs.lemmas.Grind.{common_steps}
use Rattle.std.proofs.Common.{◌≡◌, ℕ, ◌<◌, ◌≤◌, inl, inr, List, ◌++◌, length, get_or, arith}
use Rattle.std.specs.List.{Contains}
use Rattle.std.specs.List.Sorted.{IsStrictlyIncreasing}
use Rattle.std.proofs.lemmas.List.Elements.{Contains-get_or}
use Rattle.net_addr.specs.Addresses.{Block}
use Rattle.net_model.proofs.NetworkFacts.{Adjacent-to_within}
use Rattle.net_model.specs.Network.{Network}
use Rattle.net_model.specs.declared.zone.Zone.TheVariants.{One as ZoneOne, Two as ZoneTwo}
use Rattle.route_core.specs.Tables.{AreLinkedHops}
use Rattle.route_core.specs.declared.entry.Entry.TheVariants.{Via}
use Rattle.igp_theory.specs.Isis.{IsisEntry}
use Rattle.igp_theory.specs.Laws.{IsIsisNeighbor}
use Rattle.igp_theory.proofs.TableLaws.{isis_entry_unique, isis_entry_forwards, isis_hop_is_neighbor}
use Rattle.route_tables.specs.Entries.{AreJoinedBy, IsLawful}
use Rattle.route_tables.proofs.JoinedLaws.{joined_both}
use Rattle.walk_core.specs.declared.segment.Port.{Port}
use Rattle.zone_graph.specs.Segments.{AreZoneSegments}
use Rattle.isis_routes.specs.steps.Domain.{IsisDomain}

-- Neighbors

-- a neighbor is a router
neighbor_is_router : (net : Network) (u v : ℕ) → IsIsisNeighbor net u v → v < length net
neighbor_is_router net u v is = elim is.adjacent [
  | inl one ↦ Adjacent-to_within net ZoneOne u v is.cost one
  | inr two ↦ Adjacent-to_within net ZoneTwo u v is.cost two
]

-- the segments of both levels join neighbors, and no others
pub joined_in_levels : (net : Network) (one two : List (List Port)) → AreZoneSegments net ZoneOne one → AreZoneSegments net ZoneTwo two →
    AreJoinedBy (IsIsisNeighbor net) (one ++ two)
joined_in_levels net one two in_one in_two u v = (
  λ joined. elim ((joined_both one two u v).0 joined) [
    | inl first ↦ record { cost = first.cost; adjacent = inl ((in_one.exact u v first.cost).0 first.sends) }
    | inr second ↦ record { cost = second.cost; adjacent = inr ((in_two.exact u v second.cost).0 second.sends) }
  ],
  λ is. (joined_both one two u v).1 (elim is.adjacent [
    | inl first ↦ inl (record { cost = is.cost; sends = (in_one.exact u v is.cost).1 first })
    | inr second ↦ inr (record { cost = is.cost; sends = (in_two.exact u v is.cost).1 second })
  ]),
)

-- Entries

-- the list of an entry's hops ascends
hops_ascend : (net : Network) (u : ℕ) (p : Block) (hops : List ℕ) → IsisEntry net u p (Via hops) → IsStrictlyIncreasing hops
hops_ascend net u p hops it_4 = grind (arith, common_steps)

-- an entry's hops are neighbors of its router
linked_hops : (net : Network) (u : ℕ) (p : Block) (hops : List ℕ) → IsisEntry net u p (Via hops) → AreLinkedHops (length net) (IsIsisNeighbor net u) hops
linked_hops net u p hops entry = record {
  some = let leads = isis_entry_forwards entry in let inside : Contains hops leads.0 = leads.1 in omega (arith, inside.1);
  ascending = hops_ascend net u p hops entry;
  below = λ k d within. neighbor_is_router net u (get_or hops k d) (isis_hop_is_neighbor entry (Contains-get_or hops k d within));
  linked = λ k d within. isis_hop_is_neighbor entry (Contains-get_or hops k d within);
}

-- all of it
pub isis_is_lawful : (net : Network) → length net ≤ 200 → IsLawful (length net) (IsisEntry net) (IsIsisNeighbor net)
isis_is_lawful net small = record {
  few = small;
  single = λ u p e f one other. isis_entry_unique one other;
  hops = linked_hops net;
  within = neighbor_is_router net;
}

-- What is asked for

-- what is so of the domain, the router and the prefix that are read is so of those that are meant
pub asked_as : (P : IsisDomain → ℕ → Block → Type 0) {read domain : IsisDomain} {v u : ℕ} {p q : Block} → read ≡ domain → v ≡ u → p ≡ q → P read v p →
    P domain u q
asked_as P {read} {domain} {v} {u} {p} {q} same router dest is = grind (arith, common_steps)
