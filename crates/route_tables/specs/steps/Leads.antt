-- How a router reaches each vertex, and what that tells of its entries.
use Rattle.std.specs.Prelude.{◌≡◌, ◌≢◌, ◌+◌, ◌-◌, ◌^◌, ◌<◌, ◌≤◌, ℕ, List, [], length, Option, None, Some, IfSome, MatchOption, slice_index_or}
use Rattle.walk_core.specs.Reach.{Reach, distance_of}
use Rattle.walk_core.specs.declared.offers.Offer.{Offer}
use Rattle.route_core.specs.declared.entry.Entry.{Entry}
use Rattle.route_tables.specs.Routings.{IsEntryTo}
use Rattle.route_tables.specs.declared.lane.Behind.{Behind}
use Rattle.route_tables.specs.declared.lane.Decision.{Decision}
use Rattle.route_tables.specs.declared.lane.Decision.TheVariants.{Nothing, NothingBut, One, Two, Unknown}
use Rattle.route_tables.specs.declared.leads.Lead.{Lead}
use Rattle.route_tables.specs.declared.sharing.TwoMakers.{TwoMakers}
use Rattle.route_tables.specs.declared.sharing.RouterLane.{RouterLane}
use Rattle.route_tables.specs.steps.Sharing.{HasNumber}

-- a lead to nothing
abbrev pub no_lead : Lead
no_lead = record { distance = 0; number = None }

-- a lead to what isn't reached
abbrev pub far_lead : Lead
far_lead = record { distance = 2 ^ 64 - 1; number = None }

-- the vertex is this far, and the number is that of the entry over the first hops below n towards it
pub record IsLeadTo (reach : Reach) (n : ℕ) (entries : List Entry) (at distance number : ℕ) : Type 0 where
  pub far : distance_of reach at ≡ Some distance
  pub entry : HasNumber (IsEntryTo reach at n) entries number

-- what a lead says of a vertex is so: with a number how it is reached, and that it isn't reached
pub record IsLead (reach : Reach) (n : ℕ) (entries : List Entry) (at : ℕ) (lead : Lead) : Type 0 where
  pub to : IfSome lead.number (IsLeadTo reach n entries at lead.distance)
  pub far : lead ≡ far_lead → distance_of reach at ≡ None

-- these are leads to the vertices, by their numbers
abbrev pub AreLeadsTo : Reach → ℕ → List Entry → List Lead → Type 0
AreLeadsTo reach n entries leads = (at : ℕ) → at < length leads → IsLead reach n entries at (slice_index_or leads at no_lead)

-- the leads to the vertices below `next` are there, and from it on each lead is one to what isn't reached
pub record AreLeadsBelow (reach : Reach) (n next : ℕ) (entries : List Entry) (leads : List Lead) : Type 0 where
  pub below : (at : ℕ) → at < next → at < length leads → IsLead reach n entries at (slice_index_or leads at no_lead)
  pub others : (at : ℕ) → next ≤ at → at < length leads → slice_index_or leads at no_lead ≡ far_lead

-- these are the leads of router u, which has none to itself
pub record AreLeads (reach : Reach) (u n : ℕ) (entries : List Entry) (leads : List Lead) : Type 0 where
  pub each : AreLeadsTo reach n entries leads
  pub own : slice_index_or leads u no_lead ≡ no_lead

-- these are the leads by both walks of the router in the lane, and none where they aren't known
pub record AreLaneLeads (lane : RouterLane) (entries : List Entry) (first behind : List Lead) : Type 0 where
  pub of_lane : MatchOption lane.walks (first ≡ []) (λ walks. AreLeads walks.now lane.router lane.count entries first)
  pub of_behind : MatchOption lane.walks_behind (behind ≡ []) (λ walks. AreLeads walks.now lane.router lane.count entries behind)

-- this is the lead to the vertex, and it has a number
pub record IsLeadAt (leads : List Lead) (at : ℕ) (lead : Lead) : Type 0 where
  pub within : at < length leads
  pub is : slice_index_or leads at no_lead ≡ lead
  pub number : ℕ
  pub known : lead.number ≡ Some number

-- the number is that of each lead at which it costs no more than at the other
pub record IsNumberOfBest (first : Lead) (one_asks : ℕ) (second : Lead) (other_asks : ℕ) (number : Option ℕ) : Type 0 where
  pub of_first : first.distance + one_asks ≤ second.distance + other_asks → number ≡ first.number
  pub of_second : second.distance + other_asks ≤ first.distance + one_asks → number ≡ second.number

-- the number is that of the lead to each offer that costs no more than the other
pub record IsNumberToBest (leads : List Lead) (one other : Offer) (number : Option ℕ) : Type 0 where
  pub first : Lead
  pub second : Lead
  pub first_is : IsLeadAt leads one.at first
  pub second_is : IsLeadAt leads other.at second
  pub best : IsNumberOfBest first one.asks second other.asks number

-- there is a lead with a number to each offer, and both cost the same
pub record CostTheSame (leads : List Lead) (one other : Offer) : Type 0 where
  pub first : Lead
  pub second : Lead
  pub first_is : IsLeadAt leads one.at first
  pub second_is : IsLeadAt leads other.at second
  pub same : first.distance + one.asks ≡ second.distance + other.asks

-- two offers that cost the same decide, and these vertices make them
pub record AreLevelMakers (leads : List Lead) (decision : Decision) (makers : TwoMakers) : Type 0 where
  pub one : Offer
  pub other : Offer
  pub is : decision ≡ Two one other
  pub level : CostTheSame leads one other
  pub makers_are : makers ≡ record { one = one.at; other = other.at }

-- the lead to the vertex is that to what isn't reached
pub record IsFarAt (leads : List Lead) (at : ℕ) : Type 0 where
  pub within : at < length leads
  pub is : slice_index_or leads at no_lead ≡ far_lead

-- the leads of a router tell that it makes and reaches none of the offers of the decision
abbrev pub AreMissed : List Lead → Decision → Type 0
AreMissed leads Nothing = Unit {0}
AreMissed leads (NothingBut one other) = ⊥
AreMissed leads (One at) = IsFarAt leads at
AreMissed leads (Two one other) = IsFarAt leads one.at × IsFarAt leads other.at
AreMissed leads Unknown = ⊥

-- the leads tell router u this number of its entry by what decides, None where it has none
pub data IsTold (leads : List Lead) (u : ℕ) : Decision → Option ℕ → Type 0 where
  told_nothing : IsTold leads u Nothing None
  told_nothing_but : (one other : ℕ) → u ≢ one → u ≢ other → IsTold leads u (NothingBut one other) None
  told_one : (at : ℕ) (lead : Lead) → IsLeadAt leads at lead → IsTold leads u (One at) lead.number
  told_best : (one other : Offer) (number : Option ℕ) → IsNumberToBest leads one other number → IsTold leads u (Two one other) number

-- the leads by both walks tell it by what decides behind: the first offers are missed, and the others tell it
pub record IsToldBeyond (first behind : List Lead) (u : ℕ) (decisions : Behind) (number : Option ℕ) : Type 0 where
  pub missed : AreMissed first decisions.first
  pub told : IsTold behind u decisions.second number
