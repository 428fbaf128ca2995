-- Rankings of single changes as order files name them, and as the search asks for them.
use Rattle.std.proofs.Common.{◌≡◌, ℕ, ◌+◌, ◌*◌, ◌<◌, List, length, ap, subst, arith}
use Rattle.net_model.proofs.Members.{Contains-map, Contains-in_map}
use Rattle.order_core.specs.Pairs.{Pair}
use Rattle.order_core.specs.Rankings.{IsRanking, KeepsPair, KeepsPairs, numbers_below, rank_of}
use Rattle.order_core.proofs.WaveLists.{numbers_are_below}
use Rattle.igp_theory.specs.Changes.{first, second}
use Rattle.igp_theory.specs.Migrations.{Migration}
use Rattle.igp_theory.specs.Timetables.{IsSoundThroughout, change_number, change_times}
use Rattle.plan_theory.specs.Ranked.{change_base, changes_ranked}
use Rattle.plan_theory.specs.WavesMeaning.{IsGoodRanking}
use Rattle.change_orders.specs.TwoFiles.{AreTwoWaves}

twice : (u : ℕ) → u + u ≡ 2 * u
twice u = omega arith

-- one that puts each router's first change before its second keeps the base
pub two_waves_keep : (n : ℕ) (ranks : List ℕ) → AreTwoWaves n ranks → KeepsPairs ranks (change_base n)
two_waves_keep n ranks are p among =
    let its = Contains-map {A = Pair} (λ (u : ℕ). (change_number (first u), change_number (second u))) (numbers_below n) p among in
    let u : ℕ = its.item in
    let below : u < n = (numbers_are_below n u).0 its.among in
    let one : rank_of ranks (u + u) ≡ rank_of ranks (2 * u) = ap (rank_of ranks) (twice u) in
    let other : rank_of ranks (u + u + 1) ≡ rank_of ranks (2 * u + 1) = ap (λ k. rank_of ranks (k + 1)) (twice u) in
    let rises : rank_of ranks (u + u) < rank_of ranks (u + u + 1) = omega (arith, are.in_turn u below, one, other) in
    subst (KeepsPair ranks) its.gives rises

-- and the other way round
pub kept_in_turn : (n : ℕ) (ranks : List ℕ) → IsRanking (2 * n) ranks → KeepsPairs ranks (change_base n) → AreTwoWaves n ranks
kept_in_turn n ranks ranking keeps = record {
  ranking = ranking;
  in_turn = λ u below.
      let has = Contains-in_map {A = Pair} (λ (v : ℕ). (change_number (first v), change_number (second v))) (numbers_below n) u
      ((numbers_are_below n u).1 below) in
      let rises : rank_of ranks (u + u) < rank_of ranks (u + u + 1) = keeps (change_number (first u), change_number (second u)) has in
      let one : rank_of ranks (u + u) ≡ rank_of ranks (2 * u) = ap (rank_of ranks) (twice u) in
      let other : rank_of ranks (u + u + 1) ≡ rank_of ranks (2 * u + 1) = ap (λ k. rank_of ranks (k + 1)) (twice u) in
      omega (arith, rises, one, other);
}

-- so a wave list of changes throughout which the migration is sound is a good ranking
pub sound_is_good : (move : Migration) (ranks : List ℕ) → AreTwoWaves (length move.net) ranks → IsSoundThroughout move (change_times ranks) →
    IsGoodRanking move (changes_ranked move) ranks
sound_is_good move ranks are sound =
    record { waves = are.ranking; keeps = two_waves_keep (length move.net) ranks are; throughout = sound }

pub good_in_turn : (move : Migration) (ranks : List ℕ) → IsGoodRanking move (changes_ranked move) ranks → AreTwoWaves (length move.net) ranks
good_in_turn move ranks good = kept_in_turn (length move.net) ranks good.waves good.keeps
