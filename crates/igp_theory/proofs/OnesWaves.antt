-- An order as a wave list of ones: its ranks.
use Rattle.std.proofs.Common.{◌≡◌, ℕ, ◌<◌, length, List, get_or, Contains, arith, sym, ap, ◌∙◌, subst}
use Rattle.std.specs.List.{AllPairs}
use Rattle.std.proofs.lemmas.List.{get_or_default}
use Rattle.std.proofs.lemmas.List.Elements.{Contains-get_or}
use Rattle.order_core.specs.Orders.{IsOrder}
use Rattle.order_core.specs.Rankings.{IsRanking, rank_of}
use Rattle.order_core.proofs.Orders.{order_length}
use Rattle.igp_theory.specs.Waves.{AreOnes}
use Rattle.igp_theory.proofs.FlatOrders.{InWaveOrder}

-- Ranks of ones

-- a router stands in the order at its rank
record StandsAtRank (order ranks : List ℕ) (u : ℕ) : Type 0 where
  within : rank_of ranks u < length order
  at : get_or order (rank_of ranks u) 0 ≡ u

stands_at_rank : (n : ℕ) (order ranks : List ℕ) (u : ℕ) → IsOrder n order → AreOnes order ranks → u < n → StandsAtRank order ranks u
stands_at_rank n order ranks u lists ones below =
    let place = (lists.all u).1 below in
    let at : get_or order place.0 0 ≡ u = get_or_default order place.0 0 u place.1 ∙ place.2 in
    let rank : rank_of ranks u ≡ place.0 = ap (λ (v : ℕ). rank_of ranks v) (sym at) ∙ ones.places place.0 place.1 in
    record {
      within = subst (λ (k : ℕ). k < length order) (sym rank) place.1;
      at = ap (λ (k : ℕ). get_or order k 0) rank ∙ at;
    }

wave_is_place : (n : ℕ) (order ranks : List ℕ) (w : ℕ) → IsOrder n order → AreOnes order ranks → Contains ranks w → w < length order
wave_is_place n order ranks w lists ones inside =
    let many = order_length n order lists in
    let long = ones.each in
    let place = inside.1 in
    let stands = stands_at_rank n order ranks inside.0 lists ones (omega (arith, place, long, many)) in
    let within = stands.within in
    let is : rank_of ranks inside.0 ≡ w = get_or_default ranks inside.0 0 w inside.1 ∙ inside.2 in
    omega (arith, within, is)

pub ones_are_waves : (n : ℕ) (order ranks : List ℕ) → IsOrder n order → AreOnes order ranks → IsRanking n ranks
ones_are_waves n order ranks lists ones =
    let many = order_length n order lists in
    let long = ones.each in
    record {
      each = long ∙ many;
      whole = λ w r upto inside.
          let last : r < length order = wave_is_place n order ranks r lists ones inside in
          let within : w < length order = omega (arith, last, upto) in
          let router : get_or order w 0 < n = (lists.all (get_or order w 0)).0 (Contains-get_or order w 0 within) in
          subst (Contains ranks) (ones.places w within) (Contains-get_or ranks (get_or order w 0) 0 (omega (arith, router, long, many)));
    }

-- routers of one rank are one
pub rank_tells : (n : ℕ) (order ranks : List ℕ) (u v : ℕ) → IsOrder n order → AreOnes order ranks → u < n → v < n →
    rank_of ranks u ≡ rank_of ranks v → u ≡ v
rank_tells n order ranks u v lists ones u_below v_below same =
    let one = stands_at_rank n order ranks u lists ones u_below in
    let two = stands_at_rank n order ranks v lists ones v_below in
    sym one.at ∙ ap (λ (k : ℕ). get_or order k 0) same ∙ two.at

-- an order is one of its waves of ones
pub ones_in_turn : (n : ℕ) (order ranks : List ℕ) → IsOrder n order → AreOnes order ranks → AllPairs (InWaveOrder ranks) order
ones_in_turn n order ranks lists ones i j d before within =
    let first : get_or order i d ≡ get_or order i 0 = get_or_default order i d 0 (omega (arith, before, within)) in
    let second : get_or order j d ≡ get_or order j 0 = get_or_default order j d 0 within in
    let low : rank_of ranks (get_or order i d) ≡ i = ap (rank_of ranks) first ∙ ones.places i (omega (arith, before, within)) in
    let high : rank_of ranks (get_or order j d) ≡ j = ap (rank_of ranks) second ∙ ones.places j within in
    record { apart = lists.once i j d before within; wave = omega (arith, low, high, before) }
