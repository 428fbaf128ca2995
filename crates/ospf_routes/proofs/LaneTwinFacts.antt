-- Prefixes outside an area that are announced alike into it have the same entries at the routers that are in it alone.
use Rattle.std.proofs.lemmas.Grind.{common_steps}
use Rattle.std.proofs.Common.{◌≡◌, ⊎_elim, ℕ, ◌+◌, ◌<◌, List, [], length, get_or, set, Option, None, Some, sym, subst, arith}
use Rattle.std.specs.Option.{IfSome}
use Rattle.std.proofs.lemmas.List.{length-map}
use Rattle.std.proofs.lemmas.Option.{none-some, same_Some}
use Rattle.net_addr.specs.Addresses.{Block}
use Rattle.net_model.specs.Network.{Connected}
use Rattle.walk_core.specs.declared.offers.Offer.{Offer}
use Rattle.igp_theory.specs.Ospf.{ListensTo, OspfEntry}
use Rattle.igp_theory.proofs.TableLaws.{listens_to_one_area}
use Rattle.route_tables.specs.AlikeOffers.{AreAlikeOffers}
use Rattle.route_tables.specs.Entries.{AreAlikeFor}
use Rattle.route_tables.specs.Prefixes.{prefix_at}
use Rattle.ospf_routes.specs.steps.Areas.{AreListeners}
use Rattle.ospf_routes.specs.steps.Destinations.{AreOspfDestinations, IsDestination, ospf_prefixes}
use Rattle.ospf_routes.specs.steps.Lanes.{IsOfOspfLane, LaneOf}
use Rattle.ospf_routes.specs.steps.LaneTwins.{AreAllLaneTwins, AreTwinsAlone, AreLaneAlike, AreOutsideBelow, IsEarlierOutside, IsOutsideLane}
use Rattle.ospf_routes.specs.steps.Heard.{AreHeardAt, AreHeardLike, AreSummaries}
use Rattle.ospf_routes.specs.steps.OfferLists.{HeardLists, heard_into}
use Rattle.ospf_routes.specs.steps.Twins.{AreEarlierBy, IsEarlierBy}
use Rattle.ospf_routes.specs.steps.Domain.{OspfDomain}
use Rattle.ospf_routes.specs.declared.intra_area.Destination.{Destination}
use Rattle.ospf_routes.proofs.PlaceFacts.{noted_or_before, place_read}
use Rattle.ospf_routes.proofs.LaneLaws.{IsOutside, outside_where}
use Rattle.ospf_routes.proofs.HeardFacts.{heard_of}
use Rattle.ospf_routes.proofs.ShiftLaws.{heard_alike}
use Rattle.ospf_routes.proofs.TwinFacts.{IsDestinationAt, destination_read}
use Rattle.ospf_routes.proofs.TwinLaws.{IsTwinFor, alike_offers_back, twin_entries}

-- the prefix of d is outside the area, and this is announced of it there
pub record IsAnnouncedOutside (l : LaneOf) (d : Destination) (offers : List Offer) : Type 0 where
  pub is : IsDestination l.domain.net d
  pub outside : IsOutsideLane l d
  pub heard : AreHeardAt l.domain d.dest l.zone offers

-- prefixes of which alike offers are announced are twins at a router that the second one isn't connected at
outside_twins : (l : LaneOf) (u : ℕ) (p q : Block) (ones others : List Offer) → IsOutside l u p ones → IsOutside l u q others →
    (Connected l.domain.net u q → ⊥) → AreAlikeOffers ones others → IsTwinFor l.domain.net u p q
outside_twins l u p q ones others one other away alike = record {
  homes = λ here. absurd (away here);
  no_range = one.no_range;
  other_no_range = other.no_range;
  offered = λ n cost costs. absurd (one.no_intra (record { area = n; cost = cost; costs = costs }));
  announced = λ n at asks listens is.
      heard_alike l.domain.net p q n ones others (into p ones one n listens) (into q others other n listens) alike;
}
  where
    into : (r : Block) (offers : List Offer) → IsOutside l u r offers → (n : ℕ) → ListensTo l.domain.net u n → AreHeardLike l.domain.net r n offers
    into r offers out n listens =
        subst (λ (m : ℕ). AreHeardLike l.domain.net r m offers) (listens_to_one_area out.place.listens listens) out.heard

-- so they have the same entries
lane_alike : (l : LaneOf) (d e : Destination) (ones others : List Offer) → AreListeners l.domain.net l.domain.areas (length l.domain.net) l.listens →
    IsAnnouncedOutside l d ones → IsAnnouncedOutside l e others → AreAlikeOffers ones others → AreLaneAlike l d.dest e.dest
lane_alike l d e ones others listeners one other alike u f lane =
    let near = outside_where l d ones u listeners one.is one.outside.no_part one.heard lane.0 lane.1 in
    let far = outside_where l e others u listeners other.is other.outside.no_part other.heard lane.0 lane.1 in
    let away_d : Connected l.domain.net u d.dest → ⊥ = λ here. one.outside.away u lane.1 ((one.is.homes u).1 here) in
    let away_e : Connected l.domain.net u e.dest → ⊥ = λ here. other.outside.away u lane.1 ((other.is.homes u).1 here) in
    twin_entries l.domain.net d.dest e.dest u f (outside_twins l u d.dest e.dest ones others near far away_e alike)
    (outside_twins l u e.dest d.dest others ones far near away_d (alike_offers_back ones others alike))

-- what is read at a place
abbrev lane_of_zone : OspfDomain → List (Option ℕ) → ℕ → LaneOf
lane_of_zone domain listens zone = record { domain = domain; listens = listens; zone = zone }

pub announced_at : (domain : OspfDomain) (ds : List Destination) (listens : List (Option ℕ)) (heard : HeardLists) (zone place : ℕ) (d : Destination)
    (offers : List Offer) → AreOspfDestinations domain ds → AreSummaries domain ds heard → zone < length domain.areas →
    place < length ds → d ≡ get_or ds place d → IsOutsideLane (lane_of_zone domain listens zone) d →
    offers ≡ heard_into heard place zone → IsAnnouncedOutside (lane_of_zone domain listens zone) d offers
announced_at domain ds listens heard zone place d offers is are inside within at outside read = record {
  is = (destination_read domain ds place d is within at).is.is;
  outside = outside;
  heard = subst (AreHeardAt domain d.dest zone) (sym read) (heard_of domain ds heard place d are within at zone inside);
}

-- an earlier prefix that is announced alike
pub outside_earlier : (domain : OspfDomain) (ds : List Destination) (listens : List (Option ℕ)) (zone place earlier : ℕ) (d e : Destination)
    (ones others : List Offer) → AreListeners domain.net domain.areas (length domain.net) listens → earlier < place →
    IsDestinationAt domain ds earlier d → IsDestinationAt domain ds place e →
    IsAnnouncedOutside (lane_of_zone domain listens zone) d ones → IsAnnouncedOutside (lane_of_zone domain listens zone) e others →
    AreAlikeOffers ones others → IsEarlierBy (AreLaneAlike (lane_of_zone domain listens zone)) (ospf_prefixes ds) place earlier
outside_earlier domain ds listens zone place earlier d e ones others listeners before near far one other alike = (
  before,
  let l : LaneOf = lane_of_zone domain listens zone in
      let dests : List Block = ospf_prefixes ds in
      subst (λ (p : Block). AreLaneAlike l p (prefix_at dests place)) near.prefix
      (subst (λ (q : Block). AreLaneAlike l d.dest q) far.prefix (lane_alike l d e ones others listeners one other alike)),
)

-- Known places

pub outside_later : (l : LaneOf) (ds : List Destination) (n : ℕ) (known : List (Option ℕ)) → AreOutsideBelow l ds n known →
    AreOutsideBelow l ds (n + 1) known
outside_later l ds n known are u place is =
    let before = are u place is in
    let earlier : place < n = before.earlier in
    record { earlier = omega arith; d = before.d; at = before.at; outside = before.outside }

-- a destination outside the lane is noted
pub outside_noted : (l : LaneOf) (ds : List Destination) (n : ℕ) (d : Destination) (old new : List (Option ℕ)) (number : ℕ) → AreOutsideBelow l ds n old →
    d ≡ get_or ds n d → IsOutsideLane l d → new ≡ set old number (Some n) → AreOutsideBelow l ds (n + 1) new
outside_noted l ds n d old new number are at outside noted u k is = ⊎_elim
    (λ same. subst (IsEarlierOutside l ds (n + 1)) (sym same) (record { earlier = omega arith; d = d; at = at; outside = outside }))
    (λ before. outside_later l ds n old are u k before)
    (noted_or_before old number n u k (subst (λ (known : List (Option ℕ)). get_or known u None ≡ Some k) noted is))

-- what holds of the number that an option names
pub some_each : (P : ℕ → Type 0) (found : Option ℕ) → IfSome found P → (k : ℕ) → found ≡ Some k → P k
some_each P found is k same = grind (arith, common_steps, is, none-some, same_Some)

-- What is read for a lane

-- prefixes that are alike in one sense are so in another that follows
pub earlier_then : (one other : Block → Block → Type 0) (dests : List Block) (n : ℕ) (named : List (Option ℕ)) → ((p q : Block) → one p q → other p q) →
    AreEarlierBy one dests n named → AreEarlierBy other dests n named
earlier_then one other dests n named follows are = record {
  count = are.count;
  each = λ place earlier is.
      let both = are.each place earlier is in
      (both.0, follows (prefix_at dests earlier) (prefix_at dests place) both.1);
}

-- what is named for an area is so for the routers of its lane
pub lane_earlier : (domain : OspfDomain) (ds : List Destination) (listens : List (Option ℕ)) (twins : List (List (Option ℕ))) (lane : ℕ) (here : List
    (Option ℕ)) →
    AreAllLaneTwins domain ds listens twins → lane < length domain.areas → here ≡ get_or twins lane here →
    AreEarlierBy (AreAlikeFor (IsOfOspfLane (record { domain = domain; listens = listens; zone = lane })) (OspfEntry domain.net))
    (ospf_prefixes ds) (length (ospf_prefixes ds)) here
lane_earlier domain ds listens twins lane here are within here_is =
    let l : LaneOf = record { domain = domain; listens = listens; zone = lane } in
    let dests : List Block = ospf_prefixes ds in
    let long : length dests ≡ length ds = length-map ds (λ (d : Destination). d.dest) in
    earlier_then (AreLaneAlike l) (AreAlikeFor (IsOfOspfLane l) (OspfEntry domain.net)) dests (length dests) here
    (λ p q same u e is. same u e (is.below, is.inner within))
    (subst (λ (n : ℕ). AreEarlierBy (AreLaneAlike l) dests n here) (sym long)
    (place_read (λ (zone : ℕ). AreTwinsAlone ds (record { domain = domain; listens = listens; zone = zone })) [] (length domain.areas) twins lane here are
    within here_is))
