-- What the text of the reasons of single changes shows: a change may stand no earlier than it says.
use Rattle.std.proofs.Common.{◌≡◌, ◌≢◌, ℕ, ◌+◌, ◌*◌, ◌<◌, inl, inr, List, Contains, length, arith, ap}
use Rattle.std.proofs.lemmas.Bool.{cases_lt}
use Rattle.std.proofs.lemmas.List.{get_or_past}
use Rattle.order_core.specs.Rankings.{flat_of, rank_of}
use Rattle.igp_theory.specs.LoopLaws.{BeginsOld}
use Rattle.igp_theory.specs.Migrations.{Migration}
use Rattle.igp_theory.proofs.FlatOrders.{flat_lists}
use Rattle.change_orders.specs.TwoFiles.{AreTwoWaves}
use Rattle.explained_waves.specs.Reasons.{reranked}
use Rattle.explained_texts.proofs.ToldTexts.{each_told}
use Rattle.explained_changes.specs.ChangeReasons.{AreSoundChanges, ChangeMayBeEarlier}
use Rattle.explained_changes.specs.ChangeReasonTexts.{IsChangeLine, IsChangeReasonsText, IsRightBehind}
use Rattle.explained_changes.specs.ChangeReasonTexts.{change_comes_after, change_may_be_earlier, change_of_first_wave, right_behind}
use Rattle.explained_changes.proofs.AskedLists.{is_behind}
use Rattle.explained_changes.proofs.ChangeReasons.{forbids_earlier, reranked_other, reranked_there}

-- a change behind the first wave is one of the list
ranked_within : (ranks : List ℕ) (i rank : ℕ) → rank < rank_of ranks i → i < length ranks
ranked_within ranks i rank lower = elim (cases_lt i (length ranks)) [
  | inl within ↦ within
  | inr past ↦ let none = get_or_past ranks i 0 past in absurd (omega (arith, none, lower))
]

module _ (move : Migration) (begins : BeginsOld move) (ranks : List ℕ) (turns : AreTwoWaves (length move.net) ranks) (sound : AreSoundChanges move ranks) where
  -- by its line
  line_forbids : (i rank : ℕ) (text : List ℕ) → ¬ IsRightBehind ranks i → ¬ ChangeMayBeEarlier move ranks i → rank < rank_of ranks i →
      IsChangeLine move ranks i text → ¬ AreSoundChanges move (reranked ranks i rank)
  line_forbids i rank text apart late lower (change_of_first_wave none) there = omega (arith, none, lower)
  line_forbids i rank text apart late lower (right_behind behind) there = apart behind
  line_forbids i rank text apart late lower (change_may_be_earlier _ _ may) there = late may
  line_forbids i rank text apart late lower (change_comes_after a after its _ _ keeps _) there =
      forbids_earlier move begins ranks i sound (is_behind (length move.net) ranks i turns (ranked_within ranks i rank lower)) a rank its keeps.reason
      lower there

  -- where a change may not stand one wave earlier it may stand in no earlier wave
  pub none_earlier : (text : List ℕ) → IsChangeReasonsText move ranks text → (i rank : ℕ) → ¬ IsRightBehind ranks i →
      ¬ ChangeMayBeEarlier move ranks i → rank < rank_of ranks i → ¬ AreSoundChanges move (reranked ranks i rank)
  none_earlier text told i rank apart late lower =
      let within = ranked_within ranks i rank lower in
      let many = turns.ranking.each in
      let listed : Contains (flat_of ranks) i =
      ((flat_lists (2 * length move.net) ranks turns.ranking).all i).1 (omega (arith, within, many)) in
      let its = each_told (IsChangeLine move ranks) told i listed in
      line_forbids i rank its.0 apart late lower its.1

-- and one right behind its router's first change would no longer come after that
pub first_before : (n : ℕ) (ranks : List ℕ) → AreTwoWaves n ranks → (i rank : ℕ) → IsRightBehind ranks i → rank < rank_of ranks i →
    ¬ AreTwoWaves n (reranked ranks i rank)
first_before n ranks turns i rank behind lower other =
    let u = behind.router in
    let number = behind.number in
    let before = behind.just_before in
    let within = ranked_within ranks i rank lower in
    let many = turns.ranking.each in
    let turn = other.in_turn u (omega (arith, within, number, many)) in
    let twice : 2 * u ≡ u + u = omega arith in
    let odd : 2 * u + 1 ≡ i = omega (arith, number) in
    let apart : u + u ≢ i = λ same. omega (arith, same, number) in
    let first_stays = reranked_other ranks i rank (u + u) apart in
    let there = reranked_there ranks i rank (omega (arith, lower)) in
    let one = ap (rank_of (reranked ranks i rank)) twice in
    let two = ap (rank_of (reranked ranks i rank)) odd in
    omega (arith, turn, first_stays, there, one, two, before, lower)
