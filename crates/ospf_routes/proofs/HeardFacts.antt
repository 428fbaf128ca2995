-- What is announced of each prefix into each area.
use Rattle.std.proofs.lemmas.Grind.{common_steps}
use Rattle.std.proofs.Common.{None, ◌≡◌, ℕ, ◌+◌, ◌*◌, ◌<◌, ◌≤◌, inl, inr, Option, Some, List, [], ◌∷◌, ◌++◌}
use Rattle.std.proofs.Common.{length, length-append, get_or, refl, sym, ap, subst, ◌∙◌}
use Rattle.std.proofs.Common.{append_assoc, arith}
use Rattle.std.proofs.lemmas.Bool.{cases_lt}
use Rattle.std.proofs.lemmas.Nat.{row_fits}
use Rattle.std.proofs.lemmas.Option.{MatchOption-at_some}
use Rattle.std.proofs.lemmas.List.{append-nil, drop-append-le, drop_at, take-append-le, take_all, map-append, length-drop, length-map}
use Rattle.std.proofs.lemmas.List.{get_or_append_left, get_or-append-add}
use Rattle.std.proofs.lemmas.List.Elements.{All-head, All-tail}
use Rattle.net_addr.specs.Addresses.{Block}
use Rattle.net_model.specs.Network.{Network}
use Rattle.route_tables.specs.Prefixes.{prefix_at}
use Rattle.route_tables.proofs.DestinationLists.{prefix_is}
use Rattle.walk_core.specs.declared.offers.Offer.{Offer}
use Rattle.igp_theory.specs.Ospf.{ListensTo}
use Rattle.ospf_routes.specs.steps.Areas.{AreListeners, IsListenedPlace, IsListenerAt}
use Rattle.ospf_routes.specs.steps.Heard.{AddsRow, IsSummaryRow, AreHeardAt, AreHeardLike, AreHeardBelow, AreSummaries}
use Rattle.ospf_routes.specs.steps.Offered.{AreOffers}
use Rattle.ospf_routes.specs.steps.OfferLists.{offers_of, offer_lists_of, AreOfferSpans, AreSummariesOf, HeardLists, heard_into}
use Rattle.ospf_routes.specs.steps.Summarized.{IsHeard}
use Rattle.ospf_routes.specs.declared.areas.AreaWalks.{AreaWalks}
use Rattle.ospf_routes.specs.steps.Domain.{OspfDomain}
use Rattle.ospf_routes.specs.declared.intra_area.Destination.{Destination}
use Rattle.ospf_routes.specs.declared.summaries.OfferSpan.{OfferSpan}
use Rattle.ospf_routes.proofs.AreaFacts.{number_at}
use Rattle.ospf_routes.proofs.ShiftLaws.{heard_itself}
use Rattle.ospf_routes.proofs.PlaceFacts.{place_read}
use Rattle.route_tables.proofs.ListFacts.{each_more}

-- more offers behind the others change no span
span_stays : (offers more : List Offer) (span : OfferSpan) → span.start + span.count ≤ length offers → offers_of (offers ++ more) span ≡ offers_of offers span
span_stays offers more span within = grind (arith, common_steps, drop-append-le, length-drop, take-append-le)

spans_stay : (offers more : List Offer) (spans : List OfferSpan) → AreOfferSpans offers spans →
    offer_lists_of (offers ++ more) spans ≡ offer_lists_of offers spans
spans_stay offers more [] are = refl
spans_stay offers more (span ∷ spans) are =
    let Within : OfferSpan → Type 0 = λ s. s.start + s.count ≤ length offers in
    ap (λ (l : List Offer). l ∷ offer_lists_of (offers ++ more) spans) (span_stays offers more span (All-head Within span spans are))
    ∙ ap (λ (l : List (List Offer)). offers_of offers span ∷ l) (spans_stay offers more spans (All-tail Within span spans are))

-- the span of the last offers is the list that came
pub offer_lists_more : (offers more : List Offer) (spans : List OfferSpan) (span : OfferSpan) → AreOfferSpans offers spans →
    span.start ≡ length offers → span.count ≡ length more →
    offer_lists_of (offers ++ more) (spans ++ span ∷ []) ≡ offer_lists_of offers spans ++ more ∷ []
offer_lists_more offers more spans span are starts counts =
    grind (arith, common_steps, drop_at, map-append, spans_stay, take_all)

-- The lists of each prefix

below_product : (k a place zone : ℕ) → place < k → zone < a → place * a + zone < k * a
below_product k a place zone below within = let fits = row_fits place a k a below (omega arith) in omega (arith, within, fits)

pub heard_within : (domain : OspfDomain) (dests : List Block) (k : ℕ) (heard : HeardLists) → AreHeardBelow domain dests k heard →
    AreSummariesOf k heard
heard_within domain dests k heard are place below zone within = grind (arith, common_steps, below_product)

abbrev pub lists_with : ℕ → List (List Offer) → HeardLists
lists_with areas lists = record { areas = areas; lists = lists }

pub row_none : (domain : OspfDomain) (p : Block) (heard : HeardLists) → AddsRow (IsSummaryRow domain p 0) heard heard
row_none domain p heard = grind (arith, common_steps, append-nil)

pub row_more : (domain : OspfDomain) (p : Block) (m : ℕ) (old mid new : HeardLists) (list : List Offer) →
    AddsRow (IsSummaryRow domain p m) old mid → new ≡ record { areas = mid.areas; lists = mid.lists ++ list ∷ [] } → AreHeardAt domain p m list →
    AddsRow (IsSummaryRow domain p (m + 1)) old new
row_more domain p m old mid new list r same next = record {
  row = r.row ++ list ∷ [];
  behind = same
      ∙ ap (λ (h : HeardLists). lists_with h.areas (h.lists ++ list ∷ [])) r.behind
      ∙ ap (λ (l : List (List Offer)). lists_with old.areas l) (append_assoc old.lists r.row (list ∷ []));
  is = record {
    count = let long = length-append r.row (list ∷ []) in omega (arith, long, r.is.count);
    each = each_more (AreHeardAt domain p) r.row m list [] r.is.count r.is.each next;
  };
}

pub heard_more : (domain : OspfDomain) (dests : List Block) (k : ℕ) (old new : HeardLists) → AreHeardBelow domain dests k old →
    AddsRow (IsSummaryRow domain (prefix_at dests k) (length domain.areas)) old new → AreHeardBelow domain dests (k + 1) new
heard_more domain dests k old new are r =
    subst (AreHeardBelow domain dests (k + 1)) (sym r.behind) (record {
      areas_are = are.areas_are;
      count = let long = length-append old.lists r.row in omega (arith, long, r.is.count, are.count, are.areas_are);
      each = λ place zone below within. elim (cases_lt place k) [
        | inl less ↦ subst (AreHeardAt domain (prefix_at dests place) zone)
            (sym (get_or_append_left old.lists r.row [] (place * old.areas + zone) (heard_within domain dests k old are place less zone within)))
            (are.each place zone less within)
        | inr past ↦
            let same : place ≡ k = omega (arith, below, past) in
            subst (λ (j : ℕ). AreHeardAt domain (prefix_at dests j) zone (get_or (old.lists ++ r.row) (j * old.areas + zone) [])) (sym same)
            (subst (λ (j : ℕ). AreHeardAt domain (prefix_at dests k) zone (get_or (old.lists ++ r.row) (j + zone) [])) are.count
            (subst (AreHeardAt domain (prefix_at dests k) zone) (sym (get_or-append-add old.lists r.row zone []))
            (r.is.each zone (subst (λ (n : ℕ). zone < n) are.areas_are within))))
      ];
    })

-- what is announced of one prefix into an area
pub heard_of : (domain : OspfDomain) (ds : List Destination) (heard : HeardLists) (k : ℕ) (d : Destination) → AreSummaries domain ds heard →
    k < length ds → d ≡ get_or ds k d → (zone : ℕ) → zone < length domain.areas →
    AreHeardAt domain d.dest zone (heard_into heard k zone)
heard_of domain ds heard k d are within at zone inside =
    let long = length-map ds (λ (x : Destination). x.dest) in
    subst (λ (p : Block). AreHeardAt domain p zone (heard_into heard k zone))
    (sym (prefix_is (λ (x : Destination). x.dest) ds k d (omega (arith, long, within)) at))
    (are.each k zone within (subst (λ (n : ℕ). zone < n) (sym are.areas_are) inside))

-- its list is there
pub announced_within : (domain : OspfDomain) (ds : List Destination) (heard : HeardLists) (place zone : ℕ) → AreSummaries domain ds heard →
    place < length ds → zone < length domain.areas → place * heard.areas + zone < length heard.lists
announced_within domain ds heard place zone are within inside = grind (arith, common_steps, heard_within)

-- what an area's routers announce into it is that of its place
pub heard_here : (domain : OspfDomain) (p : Block) (zone : ℕ) (a : AreaWalks) (offers : List Offer) → a ≡ get_or domain.areas zone a →
    AreOffers (IsHeard domain.net p a.number) offers → AreHeardAt domain p zone offers
heard_here domain p zone a offers here are n at =
    subst (λ (m : ℕ). AreHeardLike domain.net p m offers) (number_at domain.areas n zone a at here) (heard_itself are)

-- an area that a router listens to is at a place within
pub listened_inside : (net : Network) (areas : List AreaWalks) (all : List (Option ℕ)) (u zone : ℕ) (here : Option ℕ) →
    AreListeners net areas (length net) all → u < length net → here ≡ get_or all u here → here ≡ Some zone → zone < length areas
listened_inside net areas all u zone here are below at is =
    (MatchOption-at_some ((n : ℕ) → ListensTo net u n →
    ⊥) (IsListenedPlace net areas u) zone is (place_read (IsListenerAt net areas) None (length net) all u here are below at)).at.within
