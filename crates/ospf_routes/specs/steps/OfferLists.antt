-- Lists of offers, one after another in one list.
use Rattle.std.specs.Prelude.{ℕ, ◌+◌, ◌*◌, ◌<◌, ◌≤◌, List, [], length, take, drop, map, All, slice_index_or}
use Rattle.walk_core.specs.declared.offers.Offer.{Offer}
use Rattle.ospf_routes.specs.declared.summaries.OfferSpan.{OfferSpan}

-- the offers of a span
abbrev pub offers_of : List Offer → OfferSpan → List Offer
offers_of offers span = take span.count (drop span.start offers)

-- the lists of all spans
abbrev pub offer_lists_of : List Offer → List OfferSpan → List (List Offer)
offer_lists_of offers spans = map (offers_of offers) spans

-- all spans are within the offers
abbrev pub AreOfferSpans : List Offer → List OfferSpan → Type 0
AreOfferSpans offers spans = All (λ (span : OfferSpan). span.start + span.count ≤ length offers) spans

-- lists of offers, for each prefix one for each of so many areas
pub record HeardLists : Type 0 where
  pub areas : ℕ
  pub lists : List (List Offer)

-- the list of the prefix at a place into the area at another
abbrev pub heard_into : HeardLists → ℕ → ℕ → List Offer
heard_into heard place zone = slice_index_or heard.lists (place * heard.areas + zone) []

-- the place is of a prefix whose lists are there
abbrev pub IsPlaceIn : HeardLists → ℕ → Type 0
IsPlaceIn heard place = (zone : ℕ) → zone < heard.areas → place * heard.areas + zone < length heard.lists

-- there are the lists of so many prefixes
abbrev pub AreSummariesOf : ℕ → HeardLists → Type 0
AreSummariesOf count heard = (place : ℕ) → place < count → IsPlaceIn heard place
