-- Waves of distinct routers are those of the ranking by the number of each router's wave.
use Rattle.std.proofs.Common.{◌≡◌, ℕ, ◌<◌, ◌≤◌, List, [], length, get_or, Contains, arith, refl, sym, subst, ◌∙◌, inl, inr}
use Rattle.std.specs.List.Sorted.{IsStrictlyIncreasing}
use Rattle.std.proofs.lemmas.Bool.{cases_lt}
use Rattle.std.proofs.lemmas.List.{ext_get_or, get_or_default}
use Rattle.std.proofs.lemmas.List.Elements.{Contains-get_or}
use Rattle.igp_theory.proofs.TableLaws.{hops_unique}
use Rattle.order_core.specs.Orders.{IsOrder}
use Rattle.order_core.specs.Rankings.{IsRanking, rank_of, wave_count, wave_of}
use Rattle.order_core.proofs.WaveLists.{rank_below_count, rank_stands, wave_ascends, wave_routers}
use Rattle.step_scripts.specs.WaveFiles.{all_in, wave_at}
use Rattle.step_scripts.specs.WavesTexts.{waves_in}
use Rattle.step_scripts.proofs.TextFacts.{wave_there, waves_long}
use Rattle.step_scripts.proofs.WaveLists.{in_all, seat_of}

-- ascending lists of the same numbers are the same
same_ascending : (xs ys : List ℕ) → IsStrictlyIncreasing xs → IsStrictlyIncreasing ys →
    ((u : ℕ) → Contains xs u → Contains ys u) → ((u : ℕ) → Contains ys u → Contains xs u) → xs ≡ ys
same_ascending xs ys one other over back =
    hops_unique {hop = Contains ys} {one = xs} {other = ys} (record { ascending = one; exact = λ u. (over u, back u) })
    (record { ascending = other; exact = λ u. (λ c. c, λ c. c) })

pub record AreDistinctWaves (waves : List (List ℕ)) (ranks : List ℕ) : Type 0 where
  pub once : IsOrder (length ranks) (all_in waves)
  pub some : (k : ℕ) → k < length waves → 0 < length (wave_at waves k)
  pub ascend : (k : ℕ) → k < length waves → IsStrictlyIncreasing (wave_at waves k)
  pub seats : (k u : ℕ) → Contains (wave_at waves k) u → rank_of ranks u ≡ k

module _ (waves : List (List ℕ)) (ranks : List ℕ) (are : AreDistinctWaves waves ranks) where
  stands : (u : ℕ) → u < length ranks → Contains (wave_at waves (rank_of ranks u)) u × (rank_of ranks u < length waves)
  stands u u_in =
      let seat = seat_of waves u ((are.once.all u).1 u_in) in
      let same = are.seats seat.0 u seat.1.among in (
        subst (λ k. Contains (wave_at waves k) u) (sym same) seat.1.among,
        subst (λ k. k < length waves) (sym same) seat.1.within,
      )

  has_rank : (k : ℕ) → k < length waves → Contains ranks k
  has_rank k below =
      let u = get_or (wave_at waves k) 0 0 in
      let among = Contains-get_or (wave_at waves k) 0 0 (are.some k below) in
      let u_in : u < length ranks = (are.once.all u).0 (in_all waves k u among) in
      (u, u_in, get_or_default ranks u k 0 u_in ∙ are.seats k u among)

  pub ranking : IsRanking (length ranks) ranks
  ranking = record {
    each = refl;
    whole = λ w r le c.
        let rank : rank_of ranks c.0 ≡ r = get_or_default ranks c.0 0 r c.1 ∙ c.2 in
        has_rank w (omega (arith, le, rank, (stands c.0 c.1).1));
  }

  count : wave_count ranks ≡ length waves
  count = omega (arith, no_fewer, no_more)
    where
      no_more : wave_count ranks ≤ length waves
      no_more = elim (cases_lt (length waves) (wave_count ranks)) [
        | inl more ↦
            let c = rank_stands (length ranks) ranks (length waves) ranking more in
            let rank : rank_of ranks c.0 ≡ length waves = get_or_default ranks c.0 0 (length waves) c.1 ∙ c.2 in
            absurd (omega (arith, rank, (stands c.0 c.1).1))
        | inr le ↦ le
      ]

      no_fewer : length waves ≤ wave_count ranks
      no_fewer = elim (cases_lt (wave_count ranks) (length waves)) [
        | inl fewer ↦ absurd (omega (arith, rank_below_count ranks (wave_count ranks) (has_rank (wave_count ranks) fewer)))
        | inr le ↦ le
      ]

  wave_is : (k : ℕ) → k < length waves → wave_of ranks k ≡ wave_at waves k
  wave_is k below =
      same_ascending (wave_of ranks k) (wave_at waves k) (wave_ascends ranks k) (are.ascend k below)
      (λ u c. let its = (wave_routers ranks k u).0 c in subst (λ w. Contains (wave_at waves w) u) its.1 (stands u its.0).0)
      (λ u c. (wave_routers ranks k u).1 ((are.once.all u).0 (in_all waves k u c), are.seats k u c))

  pub waves_are : waves_in ranks ≡ waves
  waves_are = ext_get_or [] (waves_in ranks) waves (waves_long ranks ∙ count)
      (λ k within.
      let below : k < wave_count ranks = omega (arith, within, waves_long ranks) in
      wave_there ranks k below ∙ wave_is k (omega (arith, below, count)))
