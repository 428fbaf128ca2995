-- Siblings are announced alike into every area.
use Rattle.std.proofs.lemmas.Grind.{common_steps}
use Rattle.std.proofs.Common.{◌≡◌, ◌≢◌, ◌+◌, ◌*◌, ◌<◌, ◌∷◌, ◌++◌, ℕ, List, [], length, refl, sym, subst, ◌∙◌, arith}
use Rattle.std.proofs.lemmas.List.{append-nil, get_or_append_left}
use Rattle.std.proofs.lemmas.List.Elements.{All-contains, All-push, All-weaker}
use Rattle.net_addr.specs.Addresses.{Block, default_prefix}
use Rattle.net_model.specs.Network.{Adjacent, IsBorderRouter, Network}
use Rattle.net_model.specs.declared.area.Range.{Range}
use Rattle.net_model.specs.declared.zone.Zone.TheVariants.{Area}
use Rattle.route_tables.specs.Prefixes.{prefix_at}
use Rattle.route_tables.proofs.ListFacts.{each_more}
use Rattle.route_tables.proofs.AlikeRoutes.{alike_lists}
use Rattle.walk_core.specs.declared.offers.Offer.{Offer}
use Rattle.igp_theory.specs.Ospf.{AreaSummary, BackboneSummary, BorderCost, IntraAreaCost, IsActiveRange, IsComponent, OfOthers}
use Rattle.igp_theory.specs.Ospf.{Summary, SummarizesRange, SummarizesSubnet, into_area, into_backbone}
use Rattle.ospf_routes.specs.steps.Destinations.{IsDestination}
use Rattle.ospf_routes.specs.steps.Offered.{AreOffers}
use Rattle.ospf_routes.specs.steps.Domain.{OspfDomain}
use Rattle.ospf_routes.specs.steps.Heard.{AddsRow, AreHeardBelow, AreHeardLike, IsRowAgain, IsSummaryRow}
use Rattle.ospf_routes.specs.steps.OfferLists.{HeardLists, heard_into}
use Rattle.ospf_routes.specs.steps.Siblings.{AddsSibling, AreKnownSiblings, AreSiblings}
use Rattle.ospf_routes.specs.steps.Siblings.{ShiftsInto, HasOneArea, IsAlikeSibling}
use Rattle.ospf_routes.specs.steps.Siblings.{IsEarlierSibling, IsKnownSibling, IsOfOneArea}
use Rattle.ospf_routes.specs.steps.Summarized.{IsHeard}
use Rattle.ospf_routes.specs.declared.intra_area.Destination.{Destination}
use Rattle.ospf_routes.specs.declared.siblings.Sibling.{Sibling}
use Rattle.ospf_routes.proofs.CostBounds.{lists_from}
use Rattle.ospf_routes.proofs.HeardFacts.{lists_with}
use Rattle.ospf_routes.proofs.ShiftLaws.{alike_shifted, best_shifted, shift_through, shift_turned, others_shifted}
use Rattle.ospf_routes.proofs.RangeFacts.{range_cost_active}
use Rattle.ospf_routes.proofs.ZoneRoutes.{only_area}

-- Announcements

siblings_turned : {net : Network} {x y : ℕ} {p q : Block} → AreSiblings net x y p q → AreSiblings net y x q p
siblings_turned s = record { area = s.area; one = s.other; other = s.one; shift = shift_turned s.shift }

no_component : {net : Network} {p : Block} {n : ℕ} → IsOfOneArea net p n → (b : ℕ) (range : Range) (c : ℕ) →
    IsComponent net b range p c → ⊥
no_component {net} {p} one b range c is =
    one.no_range range.dest b (record { range = range; active = record { dest = p; cost = c; component = is }; dest = refl })

no_range_summary : {net : Network} {p : Block} {n m b cost : ℕ} → IsOfOneArea net p n → SummarizesRange net m p b cost → ⊥
no_range_summary {net} {p} {n} {m} {b} {cost} one s =
    one.no_range p b (record { range = s.range; active = range_cost_active net b s.range cost s.costs; dest = s.dest })

-- a border router announces into the backbone what it has an intra-area cost for, and nothing else
into_it : {net : Network} {p : Block} {n : ℕ} → IsOfOneArea net p n → (m b cost : ℕ) → IsBorderRouter net b →
    IntraAreaCost net m p b cost →
    BackboneSummary net p b cost
into_it one m b cost border costs = BackboneSummary.of_subnet (record {
  border = border;
  area = m;
  other = λ same. one.other (sym (one.only m b cost costs) ∙ same);
  costs = costs;
  alone = no_component one b;
})

out_of_it : {net : Network} {p : Block} {n b cost : ℕ} → IsOfOneArea net p n → BackboneSummary net p b cost →
    SummarizesSubnet net 0 p b cost
out_of_it one (BackboneSummary.of_subnet s) = s
out_of_it one (BackboneSummary.of_range s) = absurd (no_range_summary one s)

subnet_over : {net : Network} {x y : ℕ} {p q : Block} → AreSiblings net x y p q → (n : ℕ) →
    ShiftsInto x y (SummarizesSubnet net n p) (SummarizesSubnet net n q)
subnet_over s n b cost is =
    let found = s.shift.there b cost (into_it s.one is.area b cost is.border is.costs) in
    let twin = out_of_it s.other found.1 in (
      found.0,
      record {
        border = twin.border;
        area = twin.area;
        other = λ same. is.other (s.one.only is.area b cost is.costs ∙ sym (s.other.only twin.area b found.0 twin.costs) ∙ same);
        costs = twin.costs;
        alone = twin.alone;
      },
      found.2,
    )

border_over : {net : Network} {x y : ℕ} {p q : Block} → AreSiblings net x y p q →
    ShiftsInto x y (BorderCost net p) (BorderCost net q)
border_over {net} {x} {y} {p} {q} s u cost is =
    let best = best_shifted (Adjacent net (Area 0)) x y (OfOthers (BackboneSummary net p) u) (OfOthers (BackboneSummary net q) u)
    (others_shifted u x y (BackboneSummary net p) (BackboneSummary net q) s.shift.there)
    (others_shifted u y x (BackboneSummary net q) (BackboneSummary net p) s.shift.back) u cost is.best in (
      best.0,
      record {
        border = is.border;
        no_intra = λ intra.
            let found = s.shift.back u intra.cost (into_it s.other intra.area u intra.cost is.border intra.costs) in
            let twin = out_of_it s.one found.1 in
            is.no_intra (record { area = twin.area; cost = found.0; costs = twin.costs });
        no_range = s.other.no_range q u;
        best = best.1;
      },
      best.2,
    )

summary_over : {net : Network} {x y : ℕ} {p q : Block} → AreSiblings net x y p q → (n b cost : ℕ) → Summary net p n b cost →
    (c : ℕ) × Summary net q n b c × (cost + x ≡ c + y)
summary_over s _ b cost (into_backbone is) = let found = s.shift.there b cost is in (found.0, into_backbone found.1, found.2)
summary_over s n b cost (into_area apart (AreaSummary.of_subnet more is)) =
    let found = subnet_over s n b cost is in (found.0, into_area apart (AreaSummary.of_subnet more found.1), found.2)
summary_over s n b cost (into_area apart (AreaSummary.of_range more is)) = absurd (no_range_summary s.one is)
summary_over s n b cost (into_area apart (AreaSummary.of_route more is)) =
    let found = border_over s b cost is in (found.0, into_area apart (AreaSummary.of_route more found.1), found.2)
summary_over s n b cost (into_area apart (AreaSummary.of_stub _ all _ _ _)) = absurd (s.one.apart all)

heard_over : {net : Network} {x y : ℕ} {p q : Block} → AreSiblings net x y p q → (n : ℕ) →
    ShiftsInto x y (IsHeard net p n) (IsHeard net q n)
heard_over s n b cost is =
    let found = summary_over s n b cost is.summary in
    (found.0, record { inside = is.inside; summary = found.1 }, found.2)

heard_again : {net : Network} {x y : ℕ} {p q : Block} {n : ℕ} {offers : List Offer} → AreSiblings net x y p q →
    AreHeardLike net p n offers →
    AreHeardLike net q n offers
heard_again {net} {x} {y} {p} {q} {n} s heard = record {
  of = heard.of;
  x = heard.x + x;
  y = heard.y + y;
  shift = shift_through heard.shift (record { there = heard_over s n; back = heard_over (siblings_turned s) n });
  offers_are = heard.offers_are;
}

-- Lists

pub again_none : (heard : HeardLists) (place : ℕ) → AddsRow (IsRowAgain heard place 0) heard heard
again_none heard place = grind (arith, common_steps, append-nil)

pub again_within : (old mid : HeardLists) (place m zone : ℕ) → AddsRow (IsRowAgain old place m) old mid →
    place * old.areas + zone < length old.lists →
    place * mid.areas + zone < length mid.lists
again_within old mid place m zone r within = grind (arith, common_steps)

pub again_more : (old mid new : HeardLists) (place m : ℕ) → AddsRow (IsRowAgain old place m) old mid →
    place * old.areas + m < length old.lists →
    new ≡ record { areas = mid.areas; lists = mid.lists ++ heard_into mid place m ∷ [] } →
    AddsRow (IsRowAgain old place (m + 1)) old new
again_more old mid new place m r within same = grind (arith, common_steps, each_more, get_or_append_left, lists_with)

-- what is announced of a sibling is announced of the prefix but for constants
pub sibling_row : (domain : OspfDomain) (dests : List Block) (old new : HeardLists) (place earlier : ℕ) →
    IsEarlierSibling domain.net dests place earlier →
    AreHeardBelow domain dests place old → AddsRow (IsRowAgain old earlier (length domain.areas)) old new →
    AddsRow (IsSummaryRow domain (prefix_at dests place) (length domain.areas)) old new
sibling_row domain dests old new place earlier s heard r = record {
  row = r.row;
  behind = r.behind;
  is = record {
    count = r.is.count;
    each = λ zone below n at_n.
        subst (AreHeardLike domain.net (prefix_at dests place) n) (sym (r.is.each zone below))
        (heard_again s.are (heard.each earlier zone s.before (subst (λ (k : ℕ). zone < k) (sym heard.areas_are) below) n at_n));
  };
}

-- What is known

pub known_later : (net : Network) (dests : List Block) (k : ℕ) (known : List Sibling) → AreKnownSiblings net dests k known →
    AreKnownSiblings net dests (k + 1) known
known_later net dests k known are = All-weaker (IsKnownSibling net dests k) (IsKnownSibling net dests (k + 1))
    (λ s is. let before : s.place < k = is.before in record { before = omega arith; is = is.is; backbone = is.backbone }) known
    are

-- one more
pub known_more : (net : Network) (dests : List Block) (k n : ℕ) (p : Block) (offers : List Offer) (old new : List Sibling) →
    AreKnownSiblings net dests k old →
    p ≡ prefix_at dests k → IsOfOneArea net p n → AreOffers (BackboneSummary net p) offers → AddsSibling k n offers old new →
    AreKnownSiblings net dests (k + 1) new
known_more net dests k n p offers old new are here one backbone adds =
    let s : Sibling = adds.sibling in
    let same : p ≡ prefix_at dests s.place = here ∙ subst (λ (j : ℕ). prefix_at dests k ≡ prefix_at dests j) (sym adds.place_is)
    refl in
    subst (AreKnownSiblings net dests (k + 1)) (sym adds.behind)
    (All-push (IsKnownSibling net dests (k + 1)) old s (known_later net dests k old are) (record {
      before = omega (arith, adds.place_is);
      is = subst (λ (q : Block). IsOfOneArea net q s.area) same (subst (IsOfOneArea net p) (sym adds.area) one);
      backbone = subst (λ (q : Block). AreOffers (BackboneSummary net q) s.backbone.items) same
          (subst (AreOffers (BackboneSummary net p)) (sym adds.backbone) backbone);
    }))

-- one that is announced alike is a sibling
pub alike_sibling : (net : Network) (dests : List Block) (k n : ℕ) (p : Block) (offers : List Offer) (known : List Sibling)
    (earlier : ℕ) →
    AreKnownSiblings net dests k known → p ≡ prefix_at dests k → IsOfOneArea net p n → AreOffers (BackboneSummary net p) offers →
    IsAlikeSibling known n offers earlier → IsEarlierSibling net dests k earlier
alike_sibling net dests k n p offers known earlier are here one backbone alike =
    let s : Sibling = alike.sibling in
    let is : IsKnownSibling net dests k s = All-contains (IsKnownSibling net dests k) known s are alike.among in
    let q : Block = prefix_at dests s.place in
    let shift = alike_shifted (alike_lists (BackboneSummary net q) (BackboneSummary net p) s.backbone.items offers
    (lists_from (BackboneSummary net q) s.backbone.items s.backbone.items is.backbone refl)
    (lists_from (BackboneSummary net p) offers offers backbone refl) alike.alike) in
    subst (IsEarlierSibling net dests k) alike.place_is (record {
      before = is.before;
      x = shift.0;
      y = shift.1;
      are = subst (AreSiblings net shift.0 shift.1 q) here
          (record { area = n; one = subst (IsOfOneArea net q) alike.area is.is; other = one; shift = shift.2 });
    })

-- a prefix that is offered in one area has intra-area costs there alone
pub one_area : (net : Network) (d : Destination) (n : ℕ) → IsDestination net d → HasOneArea d n → d.dest ≢ default_prefix →
    ((q : Block) (u : ℕ) → IsActiveRange net q u → ⊥) → IsOfOneArea net d.dest n
one_area net d n is one apart none = record {
  apart = apart;
  other = one.other;
  only = λ m u cost costs.
      only_area net d one.has.part m costs.best.at costs.best.attained.asks is one.one one.has.among costs.best.attained.offered
      ∙ one.has.area;
  no_range = none;
}
