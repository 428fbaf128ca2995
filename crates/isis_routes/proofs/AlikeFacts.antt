-- Prefixes that are connected at the same routers and of which the same is offered, up to constants, have the same entries.
use Rattle.std.proofs.lemmas.Grind.{common_steps}
use Rattle.std.proofs.Common.{◌≡◌, ◌≢◌, ℕ, ◌+◌, ◌<◌, ◌↔◌, inl, inr, List, [], ◌∷◌, ◌++◌, length, All, get_or, Option, None, Some, sym, ap, subst, ◌∙◌, arith}
use Rattle.std.specs.Option.{IfSome}
use Rattle.std.proofs.lemmas.Bool.{cases_lt}
use Rattle.std.specs.List.{Contains}
use Rattle.std.proofs.lemmas.List.{get_or_past}
use Rattle.std.proofs.lemmas.Option.{none-some, slice_get-get_or}
use Rattle.net_addr.specs.Addresses.{Block, default_prefix}
use Rattle.net_model.specs.Network.{Network, Connected, Adjacent}
use Rattle.net_model.specs.declared.zone.Zone.TheVariants.{One as ZoneOne, Two as ZoneTwo}
use Rattle.walk_core.specs.Offers.{Offers}
use Rattle.walk_core.specs.declared.offers.Offer.{Offer}
use Rattle.route_core.specs.declared.entry.Entry.{Entry}
use Rattle.route_core.specs.declared.entry.Entry.TheVariants.{Via, Discard}
use Rattle.igp_theory.specs.Ospf.{OfOthers}
use Rattle.igp_theory.specs.Isis.{OffersLevelOne, HasLevelOneRoute, LevelOneHop, LevelTwoAnnouncement, HasLevelTwoRoute, LevelTwoHop, DownAnnouncement}
use Rattle.igp_theory.specs.Isis.{HasDownRoute, DownHop, IsisEntry, level_one, level_two, down, default_route}
use Rattle.igp_theory.specs.Routes.{ForwardsTo}
use Rattle.route_tables.proofs.AlikeRoutes.{AskAlike, alike_among, alike_cost, alike_hop, alike_lists, alike_turned}
use Rattle.route_tables.specs.AlikeOffers.{AreAlikeOffers}
use Rattle.route_tables.specs.Prefixes.{prefix_at}
use Rattle.route_tables.proofs.BestRoutes.{hops_same}
use Rattle.isis_routes.specs.steps.Alike.{AreAlikeDestinations, AreEarlierAlike, IsEarlierAlike}
use Rattle.isis_routes.specs.steps.Destinations.{HasAnnouncements, isis_prefixes}
use Rattle.isis_routes.specs.declared.destinations.Destination.{Destination}
use Rattle.isis_routes.proofs.DestinationFacts.{at_place, each_pushed, pushed_count}

-- two prefixes are connected at the same routers, neither is that of all addresses, and what is offered and announced of
-- one is that of the other, up to constants
pub record AreAlikeIn (net : Network) (p q : Block) : Type 0 where
  pub connected : (u : ℕ) → Connected net u p ↔ Connected net u q
  pub one_only : p ≢ default_prefix
  pub other_only : q ≢ default_prefix
  pub one : AskAlike (OffersLevelOne net p) (OffersLevelOne net q)
  pub two : (u : ℕ) → AskAlike (OfOthers (LevelTwoAnnouncement net p) u) (OfOthers (LevelTwoAnnouncement net q) u)
  pub down : (u : ℕ) → AskAlike (OfOthers (DownAnnouncement net p) u) (OfOthers (DownAnnouncement net q) u)

pub alike_back : (net : Network) (p q : Block) → AreAlikeIn net p q → AreAlikeIn net q p
alike_back net p q alike = record {
  connected = λ u. ((alike.connected u).1, (alike.connected u).0);
  one_only = alike.other_only;
  other_only = alike.one_only;
  one = alike_turned alike.one;
  two = λ u. alike_turned (alike.two u);
  down = λ u. alike_turned (alike.down u);
}

alike_others : (one other : Offers) (u : ℕ) → AskAlike one other → AskAlike (OfOthers one u) (OfOthers other u)
alike_others one other u alike = grind (arith, common_steps, alike_among, one)

one_like : (net : Network) (p q : Block) (u : ℕ) → AreAlikeIn net p q → HasLevelOneRoute net p u → HasLevelOneRoute net q u
one_like net p q u alike has =
    let like = alike_cost (Adjacent net ZoneOne) u _ _ alike.one has.cost has.costs.best in
    record { cost = like.0; costs = record { runs = has.costs.runs; best = like.1 } }

two_like : (net : Network) (p q : Block) (u : ℕ) → AreAlikeIn net p q → HasLevelTwoRoute net p u → HasLevelTwoRoute net q u
two_like net p q u alike has =
    let like = alike_cost (Adjacent net ZoneTwo) u _ _ (alike.two u) has.cost has.costs.best in
    record { cost = like.0; costs = record { runs = has.costs.runs; best = like.1 } }

down_like : (net : Network) (p q : Block) (u : ℕ) → AreAlikeIn net p q → HasDownRoute net p u → HasDownRoute net q u
down_like net p q u alike has =
    let like = alike_cost (Adjacent net ZoneOne) u _ _ (alike.down u) has.cost has.costs.best in
    record { cost = like.0; costs = record { runs = has.costs.runs; best = like.1 } }

one_hop_like : (net : Network) (p q : Block) (u h : ℕ) → AreAlikeIn net p q → LevelOneHop net p u h → LevelOneHop net q u h
one_hop_like net p q u h alike hop = record { runs = hop.runs; best = alike_hop (Adjacent net ZoneOne) u _ _ alike.one h hop.best }

two_hop_like : (net : Network) (p q : Block) (u h : ℕ) → AreAlikeIn net p q → LevelTwoHop net p u h → LevelTwoHop net q u h
two_hop_like net p q u h alike hop = record { runs = hop.runs; best = alike_hop (Adjacent net ZoneTwo) u _ _ (alike.two u) h hop.best }

down_hop_like : (net : Network) (p q : Block) (u h : ℕ) → AreAlikeIn net p q → DownHop net p u h → DownHop net q u h
down_hop_like net p q u h alike hop = record { runs = hop.runs; best = alike_hop (Adjacent net ZoneOne) u _ _ (alike.down u) h hop.best }

forwards_like : (one other : ℕ → Type 0) (e : Entry) → ((h : ℕ) → one h ↔ other h) → ForwardsTo one e → ForwardsTo other e
forwards_like one other Discard same forwards = forwards
forwards_like one other (Via hops) same forwards = hops_same one other hops same forwards

-- their entries are the same
entry_like : (net : Network) (p q : Block) (u : ℕ) (e : Entry) → AreAlikeIn net p q → AreAlikeIn net q p → IsisEntry net u p e → IsisEntry net u q e
entry_like net p q u e alike back (level_one away is forwards) =
    level_one (λ here. away ((alike.connected u).1 here)) (one_like net p q u alike is)
    (forwards_like (LevelOneHop net p u) (LevelOneHop net q u) e (λ h. (one_hop_like net p q u h alike, one_hop_like net q p u h back)) forwards)
entry_like net p q u e alike back (level_two away no_one is forwards) =
    level_two (λ here. away ((alike.connected u).1 here)) (λ one. no_one (one_like net q p u back one)) (two_like net p q u alike is)
    (forwards_like (LevelTwoHop net p u) (LevelTwoHop net q u) e (λ h. (two_hop_like net p q u h alike, two_hop_like net q p u h back)) forwards)
entry_like net p q u e alike back (down away no_one no_two is forwards) =
    down (λ here. away ((alike.connected u).1 here)) (λ one. no_one (one_like net q p u back one)) (λ two. no_two (two_like net q p u back two))
    (down_like net p q u alike is)
    (forwards_like (DownHop net p u) (DownHop net q u) e (λ h. (down_hop_like net p q u h alike, down_hop_like net q p u h back)) forwards)
entry_like net p q u e alike back (default_route _ _ _ _ all _ _ _) = absurd (alike.one_only all)

pub alike_entries : (net : Network) (p q : Block) (u : ℕ) (e : Entry) → AreAlikeIn net p q → IsisEntry net u p e ↔ IsisEntry net u q e
alike_entries net p q u e alike =
    let back : AreAlikeIn net q p = alike_back net p q alike in
    (entry_like net p q u e alike back, entry_like net q p u e back alike)

-- Destinations that are alike

pub alike_destinations : (net : Network) (one other : Destination) → HasAnnouncements net one → HasAnnouncements net other → AreAlikeDestinations one other →
    AreAlikeIn net one.one.dest other.one.dest
alike_destinations net one other has_one has_other alike = record {
  connected = λ u. (
    λ here. (has_other.one.homes u).0 (subst (λ (l : List ℕ). Contains l u) alike.homes ((has_one.one.homes u).1 here)),
    λ here. (has_one.one.homes u).0 (subst (λ (l : List ℕ). Contains l u) (sym alike.homes) ((has_other.one.homes u).1 here)),
  );
  one_only = alike.one_part;
  other_only = alike.other_part;
  one = alike_lists (OffersLevelOne net one.one.dest) (OffersLevelOne net other.one.dest) one.one.offers.items other.one.offers.items
      has_one.one.offers has_other.one.offers alike.level_one;
  two = λ u. alike_others (LevelTwoAnnouncement net one.one.dest) (LevelTwoAnnouncement net other.one.dest) u
      (alike_lists _ _ one.two.items other.two.items has_one.two has_other.two alike.level_two);
  down = λ u. alike_others (DownAnnouncement net one.one.dest) (DownAnnouncement net other.one.dest) u
      (alike_lists _ _ one.down.items other.down.items has_one.down has_other.down alike.down);
}

-- a destination and an earlier one that is alike have the same entries
pub earlier_entries : (net : Network) (all : List Destination) (place earlier : ℕ) → All (HasAnnouncements net) all → IsEarlierAlike all place earlier →
    (u : ℕ) (e : Entry) → IsisEntry net u (prefix_at (isis_prefixes all) earlier) e ↔ IsisEntry net u (prefix_at (isis_prefixes all) place) e
earlier_entries net all place earlier every is u e =
    let one = at_place net all earlier is.one every is.one_at in
    let other = at_place net all place is.other every is.other_at in
    subst (λ (p : Block). IsisEntry net u p e ↔ IsisEntry net u (prefix_at (isis_prefixes all) place) e) (sym one.1)
    (subst (λ (q : Block). IsisEntry net u is.one.one.dest e ↔ IsisEntry net u q e) (sym other.1)
    (alike_entries net is.one.one.dest is.other.one.dest u e (alike_destinations net is.one is.other one.0 other.0 is.alike)))

-- Earlier destinations, one by one

pub named_none : (all : List Destination) (named : List (Option ℕ)) → named ≡ [] → AreEarlierAlike all named
named_none all named empty place earlier same = grind (arith, common_steps, none-some)

pub named_more : (all : List Destination) (named new : List (Option ℕ)) (n : ℕ) (next : Option ℕ) → length named ≡ n → new ≡ named ++ next ∷ [] →
    AreEarlierAlike all named → IfSome next (IsEarlierAlike all n) → AreEarlierAlike all new
named_more all named new n next long pushed before here place earlier same =
    let more : length new ≡ n + 1 = pushed_count named new n next long pushed in
    elim (cases_lt place (n + 1)) [
      | inl within ↦
          each_pushed (λ k o. (e : ℕ) → o ≡ Some e → IsEarlierAlike all k e) named new n next None long pushed (λ k _. before k)
          (λ e is. subst (λ (o : Option ℕ). IfSome o (IsEarlierAlike all n)) is here) place within earlier same
      | inr past ↦ absurd (none-some earlier (sym (get_or_past new place None (omega (arith, more, past))) ∙ same))
    ]

-- an earlier destination that is alike
pub earlier_is : (all : List Destination) (place earlier : ℕ) (one other : Destination) → earlier < place → place < length all → one ≡ get_or all earlier one →
    other ≡ get_or all place other → AreAlikeDestinations one other → IsEarlierAlike all place earlier
earlier_is all place earlier one other before within one_read other_read alike = record {
  before = before;
  one = one;
  other = other;
  one_at = slice_get-get_or all earlier one (omega arith) ∙ ap Some (sym one_read);
  other_at = slice_get-get_or all place other within ∙ ap Some (sym other_read);
  alike = alike;
}

pub alike_at : (a b x y : List Offer) → a ≡ x → b ≡ y → AreAlikeOffers a b → AreAlikeOffers x y
alike_at a b x y one other alike = subst (λ (l : List Offer). AreAlikeOffers l y) one (subst (AreAlikeOffers a) other alike)

-- what follows of each that is named
pub named_found : (P : ℕ → Type 0) (named : List (Option ℕ)) (place : ℕ) (found : Option ℕ) → ((e : ℕ) → get_or named place None ≡ Some e → P e) →
    IfSome found (λ e. get_or named place None ≡ Some e) → IfSome found P
named_found P named place found follows is = grind (arith, common_steps)
