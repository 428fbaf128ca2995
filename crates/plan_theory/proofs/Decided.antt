-- Loops decide which rankings are good, and one is told of each that isn't.
use Rattle.std.proofs.Common.{◌≡◌, ℕ, ◌+◌, ◌<◌, List, [], map, All, arith, refl, subst, sym, ap, ◌∙◌}
use Rattle.order_core.specs.Rankings.{KeepsPairs, rank_of}
use Rattle.order_core.specs.Turns.{HasBothTags, RanksSomeOldFirst}
use Rattle.order_core.specs.declared.turn.Turn.{Turn}
use Rattle.igp_theory.specs.Loops.{loop, IsLoop}
use Rattle.igp_theory.specs.Migrations.{Migration}
use Rattle.igp_theory.specs.TimetableLaws.{SwitchesSomeOldFirst}
use Rattle.igp_theory.specs.Waves.{AreSeamlessWaves}
use Rattle.igp_theory.proofs.LoopLaws.{old_listed, new_listed}
use Rattle.igp_theory.proofs.LoopsDecide.{sound_switches_old_first}
use Rattle.igp_theory.proofs.WaveFaultLaws.{times_fault_unique, times_fault_unsound}
use Rattle.order_search.specs.Laws.{IsDecisive, PicksOne}
use Rattle.plan_theory.specs.Ranked.{Ranked, routers_ranked}
use Rattle.order_search.specs.Meanings.{Meaning}
use Rattle.plan_theory.specs.WavesMeaning.{IsGoodRanking, LoopFor, waves_meaning}
use Rattle.plan_theory.proofs.ItemNumbers.{at, both_in_map, old_number, new_number, ring_switched, turns_by_ring, wave_at}
use Rattle.plan_theory.proofs.RoutersServe.{routers_ask, routers_serve}
use Rattle.plan_theory.proofs.Serving.{Asks, Serves}

module _ (move : Migration) (r : Ranked) (serves : Serves move r) where
  -- a good ranking ranks the number of some Old turn of each loop with both tags before that of some New turn
  pub good_ranks_old_first : (a : ℕ) (turns : List Turn) (ranks : List ℕ) → LoopFor move r a turns → HasBothTags turns →
      IsGoodRanking move r ranks → RanksSomeOldFirst ranks turns
  good_ranks_old_first a turns ranks is both good =
      let ring : IsLoop move a (map (at move r serves) turns) = subst (IsLoop move a) (serves.ring_is turns) is.is_loop in
      let table = good.throughout.table in
      let first : SwitchesSomeOldFirst (wave_at move r serves a turns is.named ranks table) (map (at move r serves) turns) =
      sound_switches_old_first move (r.times ranks) a (map (at move r serves) turns) (wave_at move r serves a turns is.named ranks table) good.throughout ring
      (both_in_map (at move r serves) (λ t. refl) turns both) (ring_switched move r serves a turns is.named ranks table ring.tags) in
      let old = old_number move r serves a turns is.named first.old first.is_old in
      let new = new_number move r serves a turns is.named first.new first.is_new in
      let earlier = first.earlier in
      record {
        old = old.turn.router;
        new = new.turn.router;
        is_old = old_listed turns old.turn old.among old.tagged;
        is_new = new_listed turns new.turn new.among new.tagged;
        keeps = ranks_rise ranks _ _ _ _ old.number new.number earlier;
      }
    where
      ranks_rise : (ks : List ℕ) (i j k l : ℕ) → i ≡ k → j ≡ l → rank_of ks i + 1 < rank_of ks j + 1 → rank_of ks k < rank_of ks l
      ranks_rise ks i j k l one two less =
          let a = ap (rank_of ks) one in let b = ap (rank_of ks) two in omega (arith, a, b, less)

  module _ (m : Meaning) (asks : Asks move r m) where
    pub rankings_decided : IsDecisive m.good m.real m.base
    rankings_decided = record {
      keeps_base = λ ranks good. subst (KeepsPairs ranks) (sym asks.base) ((asks.good ranks).0 good).keeps;
      decides = λ a turns ranks real both good. good_ranks_old_first a turns ranks ((asks.real a turns).0 real) both ((asks.good ranks).0 good);
    }

    pub rankings_pick_one : PicksOne m.good m.picked
    rankings_pick_one = record {
      one = λ ranks a b s t first second.
          let is = (asks.picked ranks a s).0 first in
          let too = (asks.picked ranks b t).0 second in
          let same : loop a (r.ring s) ≡ loop b (r.ring t) = (times_fault_unique is.is_fault too.is_fault).1 in
          let address : a ≡ b = cc in
          let rings : r.ring s ≡ r.ring t = cc in (
            address,
            turns_by_ring move r serves a s t (sym (serves.ring_is s) ∙ rings ∙ serves.ring_is t) is.named
                (subst (λ (c : ℕ). All (r.names c) t) (sym address) too.named),
          );
      none = λ ranks a t told good.
          let is = (asks.picked ranks a t).0 told in
          times_fault_unsound move (r.times ranks) is.wave (loop a (r.ring t)) is.is_fault ((asks.good ranks).0 good).throughout;
    }

-- Where routers are ranked

pub waves_are_decisive : (move : Migration) → IsDecisive (AreSeamlessWaves move) (IsLoop move) []
waves_are_decisive move = rankings_decided move (routers_ranked move) (routers_serve move) (waves_meaning move) (routers_ask move)
