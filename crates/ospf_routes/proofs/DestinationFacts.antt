-- Destinations by their prefixes.
use Rattle.std.proofs.Common.{◌≡◌, List, ap, arith, sym, subst}
use Rattle.std.specs.List.{All, Contains}
use Rattle.std.specs.List.Sorted.{IsNonDecreasingBy}
use Rattle.std.proofs.lemmas.List.{get_or-map, length-map}
use Rattle.net_addr.specs.Addresses.{Block}
use Rattle.route_tables.specs.Prefixes.{AreDistinctPrefixes, BeginInOrder}
use Rattle.ospf_routes.specs.steps.Candidates.{IsOspfCandidate}
use Rattle.ospf_routes.specs.steps.Destinations.{IsDestinationIn, AreOspfDestinations, ospf_prefixes}
use Rattle.ospf_routes.specs.steps.Domain.{OspfDomain}
use Rattle.ospf_routes.specs.declared.intra_area.Destination.{Destination}

-- destinations stand in the order of their prefixes
in_order_of : (all : List Destination) → BeginInOrder (ospf_prefixes all) → IsNonDecreasingBy (λ (d : Destination). d.dest.base) all
in_order_of all ordered i j d up within =
    let e = get_or-map (λ (x : Destination). x.dest) all i d d.dest (omega (arith, up, within)) in
    let f = get_or-map (λ (x : Destination). x.dest) all j d d.dest within in
    let long = length-map all (λ (x : Destination). x.dest) in
    let at = ordered i j d.dest up (omega (arith, within, long)) in
    let low = ap (λ (p : Block). p.base) e in
    let high = ap (λ (p : Block). p.base) f in
    omega (arith, at, low, high)

-- destinations of distinct candidates in order
pub are_destinations : (domain : OspfDomain) (all : List Destination) (dests : List Block) → ospf_prefixes all ≡ dests →
    All (IsDestinationIn domain) all → AreDistinctPrefixes dests → BeginInOrder dests → ((p : Block) → IsOspfCandidate domain.net p → Contains dests p) →
    AreOspfDestinations domain all
are_destinations domain all dests same each distinct ordered every = record {
  each = each;
  distinct = subst AreDistinctPrefixes (sym same) distinct;
  ordered = in_order_of all (subst BeginInOrder (sym same) ordered);
  every = λ p is. subst (λ (l : List Block). Contains l p) (sym same) (every p is);
}
