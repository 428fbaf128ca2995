-- Offers that ask the same but for constants.
use Rattle.std.proofs.Common.{◌≡◌, ℕ, ◌+◌, ◌-◌, ◌≤◌, inl, inr, List, refl, subst, arith}
use Rattle.std.proofs.lemmas.Bool.{cases_lt}
use Rattle.net_addr.specs.Addresses.{Block}
use Rattle.net_model.specs.Network.{Network}
use Rattle.walk_core.specs.Walks.{Arcs}
use Rattle.walk_core.specs.Offers.{Offers, BestCost}
use Rattle.walk_core.specs.declared.offers.Offer.{Offer}
use Rattle.igp_theory.specs.Ospf.{OfOthers}
use Rattle.route_tables.specs.AlikeOffers.{AreAlikeOffers}
use Rattle.route_tables.proofs.AlikeRoutes.{AskAlike, RiseBy, alike_lists}
use Rattle.ospf_routes.specs.steps.Heard.{AreHeardLike}
use Rattle.ospf_routes.specs.steps.Offered.{AreOffers}
use Rattle.ospf_routes.specs.steps.Siblings.{AskShifted, ShiftsInto}
use Rattle.ospf_routes.specs.steps.Summarized.{IsHeard}
use Rattle.ospf_routes.proofs.CostBounds.{lists_from}

-- Shifts

pub shift_turned : {x y : ℕ} {one other : Offers} → AskShifted x y one other → AskShifted y x other one
shift_turned shift = record { there = shift.back; back = shift.there }

no_shift : (one : Offers) → AskShifted 0 0 one one
no_shift one = record { there = λ at asks is. (asks, is, refl); back = λ at asks is. (asks, is, refl) }

pub shift_through : {x y v w : ℕ} {one mid other : Offers} → AskShifted x y one mid → AskShifted v w mid other →
    AskShifted (x + v) (y + w) one other
shift_through first second = record {
  there = λ at asks is.
      let m = first.there at asks is in
      let o = second.there at m.0 m.1 in
      (o.0, o.1, omega (arith, m.2, o.2));
  back = λ at asks is.
      let m = second.back at asks is in
      let o = first.back at m.0 m.1 in
      (o.0, o.1, omega (arith, m.2, o.2));
}

-- those of others than a router
pub others_shifted : (u x y : ℕ) (one other : Offers) → ShiftsInto x y one other →
    ShiftsInto x y (OfOthers one u) (OfOthers other u)
others_shifted u x y one other there at asks o =
    let found = there at asks o.offered in (found.0, record { other = o.other; offered = found.1 }, found.2)

-- the best cost is the same but for the constants
pub best_shifted : (arc : Arcs) (x y : ℕ) (one other : Offers) → ShiftsInto x y one other → ShiftsInto y x other one →
    ShiftsInto x y (BestCost arc one) (BestCost arc other)
best_shifted arc x y one other there back u cost best =
    let costs = best.attained in
    let asked = there best.at costs.asks costs.offered in (
      costs.walk + asked.0,
      record {
        at = best.at;
        attained = record { asks = asked.0; walk = costs.walk; offered = asked.1; reached = costs.reached; costs = refl };
        least = λ at c more.
            let less = back at more.asks more.offered in
            let below : cost ≤ more.walk + less.0 = best.least at (more.walk + less.0)
            (record { asks = less.0; walk = more.walk; offered = less.1; reached = more.reached; costs = refl }) in
            omega (arith, asked.2, less.2, costs.costs, more.costs);
      },
      omega (arith, asked.2, costs.costs),
    )

-- As alike offers

rise_shifted : {more : ℕ} {one other : Offers} → RiseBy more one other → AskShifted more 0 one other
rise_shifted {more} rise = record {
  there = λ at asks is. (asks + more, rise.there at asks is, omega arith);
  back = λ at asks is. let less = rise.back at asks is in (less.0, less.1, omega (arith, less.2));
}

shifted_rise : (x y : ℕ) (one other : Offers) → y ≤ x → AskShifted x y one other → RiseBy (x - y) one other
shifted_rise x y one other below shift = record {
  there = λ at asks is.
      let found = shift.there at asks is in
      let same : found.0 ≡ asks + (x - y) = omega (arith, found.2, below) in
      subst (λ (c : ℕ). other at c) same found.1;
  back = λ at asks is.
      let found = shift.back at asks is in
      (found.0, found.1, omega (arith, found.2, below));
}

pub shifted_alike : {x y : ℕ} {one other : Offers} → AskShifted x y one other → AskAlike one other
shifted_alike {x} {y} {one} {other} shift = elim (cases_lt x y) [
  | inl less ↦ record { more = y - x; rise = inr (shifted_rise y x other one (omega arith) (shift_turned shift)) }
  | inr past ↦ record { more = x - y; rise = inl (shifted_rise x y one other (omega (arith, past)) shift) }
]

pub alike_shifted : {one other : Offers} → AskAlike one other → (x : ℕ) × (y : ℕ) × AskShifted x y one other
alike_shifted alike = elim alike.rise [
  | inl up ↦ (alike.more, 0, rise_shifted up)
  | inr down ↦ (0, alike.more, shift_turned (rise_shifted down))
]

-- What is heard

-- what is announced of a prefix itself
pub heard_itself : {net : Network} {p : Block} {n : ℕ} {offers : List Offer} → AreOffers (IsHeard net p n) offers →
    AreHeardLike net p n offers
heard_itself {net} {p} {n} are = record { of = p; x = 0; y = 0; shift = no_shift (IsHeard net p n); offers_are = are }

-- prefixes of which alike offers are so announced are announced alike
pub heard_alike : (net : Network) (p q : Block) (n : ℕ) (ones others : List Offer) → AreHeardLike net p n ones →
    AreHeardLike net q n others →
    AreAlikeOffers ones others → AskAlike (IsHeard net p n) (IsHeard net q n)
heard_alike net p q n ones others one other alike =
    let lists = alike_shifted (alike_lists (IsHeard net one.of n) (IsHeard net other.of n) ones others
    (lists_from (IsHeard net one.of n) ones ones one.offers_are refl) (lists_from (IsHeard net other.of n) others others
    other.offers_are refl) alike) in
    shifted_alike (shift_through (shift_turned one.shift) (shift_through lists.2 other.shift))
