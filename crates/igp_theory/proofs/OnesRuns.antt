-- An order as a wave list of ones: it has its ranks, and one run.
use Rattle.std.proofs.lemmas.Grind.{common_steps}
use Rattle.std.proofs.Common.{◌≡◌, ◌≢◌, ℕ, zero, suc, ◌+◌, ◌<◌, ◌⊎◌, inl, inr, ◌==◌, if◌then◌else◌, Bool, List, []}
use Rattle.std.proofs.Common.{◌∷◌, length, map, take, min, get_or, Contains, ◌*◌, false, refl, sym, ap, ◌∙◌, subst, arith}
use Rattle.std.specs.List.{AllPairs}
use Rattle.std.proofs.lemmas.Bool.Decides.{eqb_tells}
use Rattle.std.proofs.lemmas.List.{get_or-map, length-map, take_min}
use Rattle.std.proofs.lemmas.List.Elements.{Contains-get_or}
use Rattle.std.proofs.lemmas.List.FromFn.{get_or-range_with_len, length-range_with_len}
use Rattle.order_core.specs.Orders.{IsOrder}
use Rattle.order_core.specs.Rankings.{IsRanking, numbers_below}
use Rattle.order_core.proofs.Orders.{order_length}
use Rattle.igp_theory.specs.Migrations.{Migration}
use Rattle.igp_theory.specs.Changes.{Change, changed}
use Rattle.igp_theory.specs.LoopLaws.{BeginsOld}
use Rattle.igp_theory.specs.Phases.{State}
use Rattle.igp_theory.specs.States.{IsSeamless}
use Rattle.igp_theory.specs.Timetables.{Timetable, MayPrecede, IsRun, is_made, router_times, run_from, state_after}
use Rattle.igp_theory.specs.Waves.{AreSeamlessWaves, HasNoneSeamless, AreOnes}
use Rattle.igp_theory.proofs.AlikeStates.{sound_alike}
use Rattle.igp_theory.proofs.FlatOrders.{along_is_run, left_time, left_where, states_from, run_from_old, run_length}
use Rattle.igp_theory.proofs.OnesWaves.{ones_are_waves, ones_in_turn, rank_tells}
use Rattle.net_model.proofs.Members.{Contains-none, Contains-first, Contains-rest, Contains-cases}
use Rattle.igp_theory.proofs.OrderedLists.{pairs_first, pairs_rest}
use Rattle.igp_theory.proofs.Switches.{routers_have_times}

-- Ranks of ones

-- the place of a number in a list
abbrev place_in : List ℕ → ℕ → ℕ
place_in [] u = 0
place_in (v ∷ order) u = if u == v then 0 else suc (place_in order u)

place_of : (order : List ℕ) (k : ℕ) → AllPairs (λ u v. u ≢ v) order → k < length order → place_in order (get_or order k 0) ≡ k
place_of [] k distinct within = absurd (omega (arith, within))
place_of (v ∷ order) zero distinct within = elim (eqb_tells v v) [
  | inl same ↦ ap (λ (b : Bool). if b then 0 else suc (place_in order v)) same.0
  | inr apart ↦ absurd (apart.1 refl)
]
place_of (v ∷ order) (suc k) distinct within = elim (eqb_tells (get_or order k 0) v) [
  | inl same ↦ absurd (pairs_first (λ u w. u ≢ w) v order distinct (get_or order k 0) (Contains-get_or order k 0 (omega (arith, within))) (sym same.1))
  | inr apart ↦
      ap (λ (b : Bool). if b then 0 else suc (place_in order (get_or order k 0))) apart.0
      ∙ ap suc (place_of order k (pairs_rest (λ u w. u ≢ w) v order distinct) (omega (arith, within)))
]

-- an order has its ranks of ones
pub order_has_ones : (n : ℕ) (order : List ℕ) → IsOrder n order → (ranks : List ℕ) × AreOnes order ranks × IsRanking n ranks
order_has_ones n order lists =
    let ranks : List ℕ = map (place_in order) (numbers_below (length order)) in
    let ones : AreOnes order ranks = record {
      each = length-map (numbers_below (length order)) (place_in order) ∙ length-range_with_len 0 (length order);
      places = λ k within.
          let router : get_or order k 0 < length order =
          let below : get_or order k 0 < n = (lists.all (get_or order k 0)).0 (Contains-get_or order k 0 within) in
          let many = order_length n order lists in omega (arith, below, many) in
          let long = length-range_with_len 0 (length order) in
          get_or-map (place_in order) (numbers_below (length order)) (get_or order k 0) 0 0 (omega (arith, router, long))
          ∙ ap (place_in order) (get_or-range_with_len 0 (length order) (get_or order k 0) 0 router ∙ plain (get_or order k 0))
          ∙ place_of order k lists.once within;
    } in
    (ranks, ones, ones_are_waves n order ranks lists ones)
  where
    plain : (k : ℕ) → 0 + k ≡ k
    plain k = omega arith

-- One run

-- two lists of the same elements in one strict order are the same
pub same_in_turn : {X : Type 0} (R : X → X → Type 0) (xs ys : List X) → AllPairs R xs → AllPairs R ys →
    ((x y : X) → Contains xs x → Contains xs y → R x y → R y x → ⊥) → ((x : X) → Contains xs x → Contains ys x) →
    ((x : X) → Contains ys x → Contains xs x) → xs ≡ ys
same_in_turn R [] [] one two apart over back = refl
same_in_turn R [] (y ∷ ys) one two apart over back = absurd (Contains-none y (back y (Contains-first y ys)))
same_in_turn R (x ∷ xs) [] one two apart over back = absurd (Contains-none x (over x (Contains-first x xs)))
same_in_turn {X} R (x ∷ xs) (y ∷ ys) one two apart over back =
    let head : x ≡ y = first_same (Contains-cases y ys x (over x (Contains-first x xs))) (Contains-cases x xs y (back y (Contains-first y ys))) in
    let tail : xs ≡ ys = same_in_turn R xs ys (pairs_rest R x xs one) (pairs_rest R y ys two)
    (λ z w left right. apart z w (Contains-rest x xs z left) (Contains-rest x xs w right))
    (λ z inside. later_over z inside (Contains-cases y ys z (over z (Contains-rest x xs z inside))) head)
    (λ z inside. later_back z inside (Contains-cases x xs z (back z (Contains-rest y ys z inside))) head) in
    ap (λ (z : X). z ∷ xs) head ∙ ap (λ (l : List X). y ∷ l) tail
  where
    first_same : (y ≡ x) ⊎ Contains ys x → (x ≡ y) ⊎ Contains xs y → x ≡ y
    first_same (inl same) other = sym same
    first_same (inr later) (inl same) = same
    first_same (inr later) (inr after) =
        absurd (apart x y (Contains-first x xs) (Contains-rest x xs y after) (pairs_first R x xs one y after) (pairs_first R y ys two x later))

    later_over : (z : X) → Contains xs z → (y ≡ z) ⊎ Contains ys z → x ≡ y → Contains ys z
    later_over z inside (inr later) head = later
    later_over z inside (inl same) head =
        let own : R z z = subst (λ (w : X). R w z) (head ∙ same) (pairs_first R x xs one z inside) in
        absurd (apart z z (Contains-rest x xs z inside) (Contains-rest x xs z inside) own own)

    later_back : (z : X) → Contains ys z → (x ≡ z) ⊎ Contains xs z → x ≡ y → Contains xs z
    later_back z inside (inr later) head = later
    later_back z inside (inl same) head =
        let own : R z z = subst (λ (w : X). R w z) (sym head ∙ same) (pairs_first R y ys two z inside) in
        let here : Contains (x ∷ xs) z = back z (Contains-rest y ys z inside) in
        absurd (apart z z here here own own)

one_way : (time : Timetable) (c d : Change) → changed c ≡ changed d → MayPrecede time c d → MayPrecede time d c → ⊥
one_way time c d same one two = grind (arith, common_steps)

pub order_has_one_run : (n : ℕ) (start : State) (order ranks : List ℕ) (run : List Change) → IsOrder n order → AreOnes order ranks →
    IsRun n (router_times start ranks) run → run ≡ run_from start order
order_has_one_run n start order ranks run lists ones is =
    let along : IsRun n (router_times start ranks) (run_from start order) =
    along_is_run n start ranks order lists (ones_in_turn n order ranks lists ones) in
    same_in_turn (MayPrecede (router_times start ranks)) run (run_from start order) is.in_turn along.in_turn
    (λ c d left right one two.
    let up = one.wave in
    let down = two.wave in
    let time_c = left_time n start ranks order lists (ones_in_turn n order ranks lists ones) c (left_of_run c ((is.all c).0 left).1) in
    let time_d = left_time n start ranks order lists (ones_in_turn n order ranks lists ones) d (left_of_run d ((is.all d).0 right).1) in
    one_way (router_times start ranks) c d
    (rank_tells n order ranks (changed c) (changed d) lists ones ((is.all c).0 left).0 ((is.all d).0 right).0 (omega (arith, up, down, time_c, time_d)))
    one two)
    (λ c inside. (along.all c).1 ((is.all c).0 inside))
    (λ c inside. (is.all c).1 ((along.all c).0 inside))
  where
    left_of_run : (c : Change) → 0 < router_times start ranks c → is_made (start (changed c)) c ≡ false
    left_of_run c some = left_where n start ranks order lists (ones_in_turn n order ranks lists ones) c (is_made (start (changed c)) c) refl some

-- where every router begins in Old a seamless order is a seamless wave list of ones
pub order_is_seamless : (move : Migration) (order ranks : List ℕ) → BeginsOld move → IsSeamless move order → AreOnes order ranks →
    AreSeamlessWaves move ranks
order_is_seamless move order ranks begins seamless ones = record {
  waves = ones_are_waves (length move.net) order ranks seamless.lists ones;
  throughout = record {
    table = routers_have_times (length move.net) move.start ranks;
    sound = λ state is.
        let k : ℕ = min is.k (length (run_from move.start order)) in
        let run : is.run ≡ run_from move.start order =
        order_has_one_run (length move.net) move.start order ranks is.run seamless.lists ones is.is_run in
        sound_alike
        (λ u below. sym (states_from move.start order k u begins) ∙ ap (λ l. state_after move.start l u) (take_min is.k (run_from move.start order))
        ∙ ap (λ l. state_after move.start (take is.k l) u) (sym run) ∙ sym (is.after u below))
        (seamless.sound k (omega (arith, many)));
  };
}
  where
    many : length (run_from move.start order) ≡ 2 * length order
    many = ap length (run_from_old move.start order begins) ∙ run_length order

-- where no wave list is seamless, no order is: as a wave list of ones it would be one
pub none_without_waves : (move : Migration) → BeginsOld move → ((ranks : List ℕ) → ¬ AreSeamlessWaves move ranks) → HasNoneSeamless move
none_without_waves move begins none = record {
  waves = none;
  orders = λ order seamless.
      let ones = order_has_ones (length move.net) order seamless.lists in
      none ones.0 (order_is_seamless move order ones.0 begins seamless ones.1);
}
