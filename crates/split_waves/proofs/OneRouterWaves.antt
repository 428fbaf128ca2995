-- Wave lists of distinct ranks: each wave has one router, and they are the order of their flat run.
use Rattle.std.proofs.Common.{◌≡◌, ◌∙◌, ℕ, zero, suc, ◌+◌, ◌-◌, ◌<◌, ◌≤◌, inl, inr, List, ◌++◌, length, length-append, get_or, ap, refl, sym, arith}
use Rattle.std.proofs.lemmas.Bool.{cases_lt}
use Rattle.std.proofs.lemmas.List.{get_or_append_left, get_or-append_right, get_or_default}
use Rattle.std.proofs.lemmas.List.Elements.{Contains-get_or}
use Rattle.std.proofs.lemmas.List.Kept.{AllPairs-from_increasing}
use Rattle.order_core.specs.Orders.{AreDistinct}
use Rattle.order_core.specs.Rankings.{IsRanking, flat_of, rank_of, wave_count, wave_of, waves_before}
use Rattle.order_core.proofs.Orders.{order_length}
use Rattle.order_core.proofs.WaveLists.{flat_is_order, wave_ascends, wave_routers, wave_some, waves_more, waves_split}
use Rattle.igp_theory.specs.LoopLaws.{BeginsOld}
use Rattle.igp_theory.specs.Migrations.{Migration}
use Rattle.igp_theory.specs.States.{IsSeamless}
use Rattle.igp_theory.specs.Waves.{AreOnes, AreSeamlessWaves}
use Rattle.igp_theory.proofs.OnesRuns.{order_is_seamless}

module _ (n : ℕ) (ranks : List ℕ) (ranking : IsRanking n ranks) (distinct : AreDistinct ranks) where
  -- no wave has two routers
  not_two : (w : ℕ) → 1 < length (wave_of ranks w) → ⊥
  not_two w two =
      let u = get_or (wave_of ranks w) 0 0 in
      let v = get_or (wave_of ranks w) 1 0 in
      let first = (wave_routers ranks w u).0 (Contains-get_or (wave_of ranks w) 0 0 (omega (arith, two))) in
      let second = (wave_routers ranks w v).0 (Contains-get_or (wave_of ranks w) 1 0 two) in
      let lower : u < v = AllPairs-from_increasing (wave_of ranks w) (wave_ascends ranks w) 0 1 0 (omega arith) two in
      distinct u v 0 lower second.0 (first.1 ∙ sym second.1)

  single : (w : ℕ) → w < wave_count ranks → length (wave_of ranks w) ≡ 1
  single w below = elim (cases_lt 1 (length (wave_of ranks w))) [
    | inl two ↦ absurd (not_two w two)
    | inr most ↦ omega (arith, most, wave_some n ranks w ranking below)
  ]

  -- so the first waves have one router each
  long : (w : ℕ) → w ≤ wave_count ranks → length (waves_before ranks w) ≡ w
  long zero le = refl
  long (suc w) le =
      let next : w + 1 ≡ suc w = omega arith in
      let more = ap length (waves_more ranks w) ∙ length-append (waves_before ranks w) (wave_of ranks w) in
      let here = long w (omega arith) in
      let one = single w (omega arith) in
      ap (λ k. length (waves_before ranks k)) (sym next) ∙ omega (arith, more, here, one)

  -- and the router at a place of the flat run has the rank of this place
  place_is_rank : (k : ℕ) → k < length (flat_of ranks) → rank_of ranks (get_or (flat_of ranks) k 0) ≡ k
  place_is_rank k within =
      let below : k < wave_count ranks = omega (arith, within, long (wave_count ranks) (omega arith)) in
      let split = waves_split ranks (k + 1) (wave_count ranks) (omega arith) in
      let before = long k (omega arith) in
      let one = single k below in
      let front = waves_before ranks k ++ wave_of ranks k in
      let many : k < length front = omega (arith, length-append (waves_before ranks k) (wave_of ranks k), before, one) in
      let at : get_or (flat_of ranks) k 0 ≡ get_or (wave_of ranks k) 0 0 =
      ap (λ l. get_or l k 0) (split.1 ∙ ap (λ l. l ++ split.0) (waves_more ranks k)) ∙ get_or_append_left front split.0 0 k many
      ∙ get_or-append_right (waves_before ranks k) (wave_of ranks k) k k 0 before (omega arith) ∙ ap (λ j. get_or (wave_of ranks k) j 0) (none k) in
      ap (rank_of ranks) at ∙ ((wave_routers ranks k _).0 (Contains-get_or (wave_of ranks k) 0 0 (omega (arith, one)))).1
    where
      none : (j : ℕ) → j - j ≡ 0
      none j = omega arith

  pub are_ones : AreOnes (flat_of ranks) ranks
  are_ones = record { each = sym (order_length (length ranks) (flat_of ranks) (flat_is_order ranks)); places = place_is_rank }

-- where every router begins in Old, and the order of such a list is seamless, the list is
pub order_of_waves : (move : Migration) (ranks : List ℕ) → BeginsOld move → IsRanking (length move.net) ranks → AreDistinct ranks →
    IsSeamless move (flat_of ranks) → AreSeamlessWaves move ranks
order_of_waves move ranks begins ranking distinct seamless =
    order_is_seamless move (flat_of ranks) ranks begins seamless (are_ones (length move.net) ranks ranking distinct)
