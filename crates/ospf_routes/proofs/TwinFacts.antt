-- Destinations that have the same entries, place by place.
use Rattle.std.proofs.Common.{◌≡◌, ℕ, ◌+◌, ◌<◌, ◌↔◌, inl, inr, List, [], ◌∷◌, ◌++◌, length, get_or, Option, None, Some, sym, subst, ◌∙◌, arith}
use Rattle.std.proofs.Common.{length-append}
use Rattle.std.proofs.lemmas.Bool.{cases_lt, cases_eq}
use Rattle.std.proofs.lemmas.Option.{none-some, same_Some}
use Rattle.std.proofs.lemmas.List.{get_or_append_left, get_or_push, get_or_past, length-map}
use Rattle.std.specs.List.{Contains}
use Rattle.std.specs.Option.{IfSome}
use Rattle.net_addr.specs.Addresses.{Block}
use Rattle.igp_theory.specs.Ospf.{OspfEntry}
use Rattle.route_tables.specs.Entries.{AreAlikePrefixes}
use Rattle.route_tables.specs.Prefixes.{prefix_at}
use Rattle.route_tables.proofs.DestinationLists.{prefix_is}
use Rattle.route_tables.proofs.ListFacts.{all_at}
use Rattle.ospf_routes.specs.steps.Ranges.{HoldRanges}
use Rattle.ospf_routes.specs.steps.Destinations.{AreOspfDestinations, IsDestinationIn, ospf_prefixes}
use Rattle.ospf_routes.specs.steps.Heard.{AreSummaries}
use Rattle.ospf_routes.specs.steps.OfferLists.{HeardLists}
use Rattle.ospf_routes.specs.steps.Twins.{AreEarlierBy, AreTwinsAt, IsEarlierBy}
use Rattle.ospf_routes.specs.steps.Areas.{AreAreas}
use Rattle.ospf_routes.specs.steps.Domain.{OspfDomain}
use Rattle.ospf_routes.specs.declared.intra_area.Destination.{Destination}
use Rattle.ospf_routes.proofs.TwinLaws.{is_twin_for, twin_destinations_back, twin_entries, twin_summaries_back}

-- the destination at a place
pub record IsDestinationAt (domain : OspfDomain) (ds : List Destination) (place : ℕ) (d : Destination) : Type 0 where
  pub is : IsDestinationIn domain d
  pub prefix : d.dest ≡ prefix_at (ospf_prefixes ds) place

pub destination_read : (domain : OspfDomain) (ds : List Destination) (place : ℕ) (d : Destination) → AreOspfDestinations domain ds →
    place < length ds → d ≡ get_or ds place d → IsDestinationAt domain ds place d
destination_read domain ds place d is within d_at =
    let long = length-map ds (λ (x : Destination). x.dest) in
    record {
      is = all_at (IsDestinationIn domain) ds place d is.each within d_at;
      prefix = prefix_is (λ (x : Destination). x.dest) ds place d (omega (arith, long, within)) d_at;
    }

-- twin destinations have the same entries
pub twin_at : (domain : OspfDomain) (ds : List Destination) (ranged : List Block) (heard : HeardLists) (one other : ℕ) → AreAreas domain.net domain.areas →
    AreOspfDestinations domain ds →
    HoldRanges domain.net ranged → AreSummaries domain ds heard → one < length ds →
    other < length ds → AreTwinsAt (record { destinations = ds; heard = heard; ranged = ranged }) one other →
    AreAlikePrefixes (length domain.net) (OspfEntry domain.net) (prefix_at (ospf_prefixes ds) one)
    (prefix_at (ospf_prefixes ds) other)
twin_at domain ds ranged heard one other known is hold announced within_one within_other at u f _ =
    let d = destination_read domain ds one at.d is within_one at.d_at in
    let e = destination_read domain ds other at.e is within_other at.e_at in
    subst (λ (p : Block). OspfEntry domain.net u p f ↔ OspfEntry domain.net u (prefix_at (ospf_prefixes ds) other) f) d.prefix
    (subst (λ (q : Block). OspfEntry domain.net u at.d.dest f ↔ OspfEntry domain.net u q f) e.prefix
    (twin_entries domain.net at.d.dest at.e.dest u f
    (is_twin_for domain ds ranged heard one other at.d at.e u known is hold announced within_one within_other at.d_at at.e_at at.twins at.announced)
    (is_twin_for domain ds ranged heard other one at.e at.d u known is hold announced within_other within_one at.e_at at.d_at
    (twin_destinations_back ranged at.d at.e at.twins) (twin_summaries_back heard one other at.announced))))

-- so the one that is found has the same entries
pub twin_found : (domain : OspfDomain) (ds : List Destination) (ranged : List Block) (heard : HeardLists) (place : ℕ)
    (found : Option ℕ) → AreAreas domain.net domain.areas → AreOspfDestinations domain ds → HoldRanges domain.net ranged →
    AreSummaries domain ds heard →
    place < length ds → IfSome found (λ one. one < place) →
    IfSome found (λ one. AreTwinsAt (record { destinations = ds; heard = heard; ranged = ranged }) one place) → (earlier : ℕ) → found ≡ Some earlier →
    IsEarlierBy (AreAlikePrefixes (length domain.net) (OspfEntry domain.net)) (ospf_prefixes ds) place earlier
twin_found domain ds ranged heard place None known is hold announced within below at earlier wrong = absurd (none-some earlier wrong)
twin_found domain ds ranged heard place (Some one) known is hold announced within below at earlier found =
    let before : one < place = below in
    subst (IsEarlierBy (AreAlikePrefixes (length domain.net) (OspfEntry domain.net)) (ospf_prefixes ds) place)
    (same_Some one earlier found) (
      before,
      twin_at domain ds ranged heard one place known is hold announced (omega arith) within at,
    )

-- Place by place

-- one more prefix, with an earlier one where one is named
pub earlier_more : (alike : Block → Block → Type 0) (dests : List Block) (n : ℕ) (named : List (Option ℕ)) (next : Option ℕ) →
    AreEarlierBy alike dests n named → ((earlier : ℕ) → next ≡ Some earlier → IsEarlierBy alike dests n earlier) →
    AreEarlierBy alike dests (n + 1) (named ++ next ∷ [])
earlier_more alike dests n named next are is = record {
  count = let long = length-append named (next ∷ []) in omega (arith, are.count);
  each = λ place earlier found. elim (cases_lt place n) [
    | inl less ↦ are.each place earlier (sym (get_or_append_left named (next ∷ []) None place (omega (arith, are.count))) ∙ found)
    | inr past ↦ elim (cases_eq place n) [
      | inl same ↦
          let here : IsEarlierBy alike dests n earlier = is earlier (sym (get_or_push named next None n are.count)
          ∙ subst (λ (k : ℕ). get_or (named ++ next ∷ []) k None ≡ Some earlier) same found) in
          subst (λ (k : ℕ). IsEarlierBy alike dests k earlier) (sym same) here
      | inr other ↦
          let long = length-append named (next ∷ []) in
          absurd (none-some earlier (sym (get_or_past (named ++ next ∷ []) place None (omega (arith, are.count))) ∙ found))
    ]
  ];
}

-- Homes

pub both_alone : (xs ys : List ℕ) (x y : ℕ) → ((u : ℕ) → Contains xs u ↔ (x ≡ u)) → ((u : ℕ) → Contains ys u ↔ (y ≡ u)) → x ≡ y →
    (u : ℕ) → Contains xs u ↔ Contains ys u
both_alone xs ys x y one other same u = (
  λ has. (other u).1 (sym same ∙ (one u).0 has),
  λ has. (one u).1 (same ∙ (other u).0 has),
)
