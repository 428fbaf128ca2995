-- Lists of offers, router by router.
use Rattle.std.proofs.Common.{arith}
use Rattle.std.proofs.lemmas.Grind.{common_steps}
use Rattle.std.proofs.Common.{◌≡◌, ℕ, ◌+◌, ◌<◌, ◌≤◌, ◌↔◌, List, [], length, take, get_or, refl, sym, subst}
use Rattle.std.specs.List.{Any, Contains}
use Rattle.std.proofs.lemmas.List.{get_or_default}
use Rattle.net_addr.specs.Addresses.{Block}
use Rattle.net_model.proofs.Adjacency.{HasConfiguration-unique}
use Rattle.net_model.specs.Configuration.{Configuration}
use Rattle.net_model.specs.Network.{Network, HasConfiguration}
use Rattle.net_model.specs.declared.interface.Interface.{Interface}
use Rattle.walk_core.specs.Offers.{Offers}
use Rattle.walk_core.specs.declared.offers.Offer.{Offer}
use Rattle.route_tables.specs.Lists.{Adds, Exactly}
use Rattle.net_addr.proofs.SomeElement.{Found, any_in, any_of}
use Rattle.route_tables.proofs.ListFacts.{adds_end, adds_more, adds_nothing, adds_same, adds_start, exactly_added}
use Rattle.isis_routes.specs.steps.Offered.{AsksIn, OffersIn, HoldsOffers, IsOffer, IsOfferOf, AddsOffers}
use Rattle.isis_routes.specs.declared.level.Level.{Level}

-- The offers of a router

-- what asks the same adds the same
pub offers_same : (old new : List Offer) (w : ℕ) (one other : ℕ → Type 0) → AddsOffers old new w one → ((c : ℕ) → one c ↔ other c) → AddsOffers old new w other
offers_same old new w one other adds same =
    adds_same old new (IsOffer w one) (IsOffer w other) adds
    (λ o. (λ is. record { at = is.at; asks = (same o.asks).0 is.asks }, λ is. record { at = is.at; asks = (same o.asks).1 is.asks }))

pub no_offers : (old : List Offer) (w : ℕ) (asked : ℕ → Type 0) → ((c : ℕ) → asked c → ⊥) → AddsOffers old old w asked
no_offers old w asked none = adds_nothing old (IsOffer w asked) (λ o is. none o.asks is.asks)

-- Router by router

-- one of the routers makes the offer
abbrev pub GivenBy : Offers → List ℕ → Offer → Type 0
GivenBy offer routers o = Any (λ (w : ℕ). IsOffer w (offer w) o) routers

pub given_start : (offer : Offers) (old : List Offer) (routers : List ℕ) → Adds old old (GivenBy offer (take 0 routers))
given_start offer old routers = adds_start (λ (o : Offer) (w : ℕ). IsOffer w (offer w) o) old routers

-- one more router
pub given_more : (offer : Offers) (old mid new : List Offer) (routers : List ℕ) (i : ℕ) → i < length routers → Adds old mid (GivenBy offer (take i routers)) →
    AddsOffers mid new (get_or routers i 0) (offer (get_or routers i 0)) → Adds old new (GivenBy offer (take (i + 1) routers))
given_more offer old mid new routers i within before adds =
    adds_more (λ (o : Offer) (w : ℕ). IsOffer w (offer w) o) old mid new routers i (get_or routers i 0) within
    (get_or_default routers i 0 (get_or routers i 0) within) before adds

-- what all routers give is all, where only these offer something
pub given_end : (offer : Offers) (old new : List Offer) (routers : List ℕ) (i : ℕ) → length routers ≤ i → ((b c : ℕ) → offer b c → Contains routers b) →
    Adds old new (GivenBy offer (take i routers)) → Adds old new (IsOfferOf offer)
given_end offer old new routers i past there adds =
    adds_same old new (GivenBy offer routers) (IsOfferOf offer)
    (adds_end (λ (o : Offer) (w : ℕ). IsOffer w (offer w) o) old new routers i past adds)
    (λ o. (
      λ any. let f = any_in (λ (w : ℕ). IsOffer w (offer w) o) routers any in subst (λ (k : ℕ). offer k o.asks) (sym f.holds.at) f.holds.asks,
      λ is. any_of (λ (w : ℕ). IsOffer w (offer w) o) routers o.at (there o.at o.asks is) (record { at = refl; asks = is }),
    ))

-- a list with exactly these offers holds them
pub holds_all : (offer : Offers) (offers : List Offer) → Exactly (IsOfferOf offer) offers → HoldsOffers offer offers
holds_all offer offers are at asks = (
  λ l. subst (λ (k : ℕ). offer at k) l.asked (subst (λ (k : ℕ). offer k l.offer.asks) l.made ((are l.offer).0 l.among)),
  λ is. let o : Offer = record { at = at; asks = asks } in record { offer = o; among = (are o).1 is; made = refl; asked = refl },
)

pub holds_given : (offer : Offers) (old new : List Offer) (routers : List ℕ) (i : ℕ) → old ≡ [] → length routers ≤ i →
    ((b c : ℕ) → offer b c → Contains routers b) → Adds old new (GivenBy offer (take i routers)) → HoldsOffers offer new
holds_given offer old new routers i empty past there adds =
    holds_all offer new (exactly_added old new (IsOfferOf offer) empty (given_end offer old new routers i past there adds))

-- Interfaces

offered_by : (net : Network) (level : Level) (p : Block) (w : ℕ) (config : Configuration) (i : Interface) (cost : ℕ) → HasConfiguration net w config →
    Contains config.interfaces i → AsksIn level p i cost → OffersIn net level p w cost
offered_by net level p w config i cost router among asks = grind (arith, common_steps)

offering : (net : Network) (level : Level) (p : Block) (w : ℕ) (config : Configuration) (cost : ℕ) → HasConfiguration net w config →
    OffersIn net level p w cost → Found (λ (i : Interface). AsksIn level p i cost) config.interfaces
offering net level p w config cost router offers = grind (arith, common_steps, HasConfiguration-unique)

-- what the interfaces of a router ask is what it offers
pub router_offers : (net : Network) (level : Level) (p : Block) (w : ℕ) (config : Configuration) (given : List Interface) → HasConfiguration net w config →
    given ≡ config.interfaces → (o : Offer) →
    Any (λ (i : Interface). IsOffer w (AsksIn level p i) o) given ↔ IsOffer w (OffersIn net level p w) o
router_offers net level p w config given router are o = grind (arith, common_steps, any_in, any_of, offered_by, offering)
