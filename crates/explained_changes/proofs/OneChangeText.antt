-- There is one text of the reasons of single changes.
use Rattle.std.proofs.Common.{◌≡◌, ◌∙◌, ℕ, List, [], map, All, ap, arith, refl, subst, sym}
use Rattle.net_model.specs.RouterNames.{names_of}
use Rattle.order_core.specs.declared.turn.Turn.{Turn}
use Rattle.igp_theory.specs.Changes.{first}
use Rattle.igp_theory.specs.LoopLaws.{BeginsOld}
use Rattle.igp_theory.specs.Loops.{loop}
use Rattle.igp_theory.specs.Migrations.{Migration}
use Rattle.igp_theory.specs.Timetables.{change_number}
use Rattle.igp_theory.proofs.WaveFaultLaws.{times_fault_unique}
use Rattle.plan_theory.specs.Ranked.{NamesSwitch, by_router, changes_ranked}
use Rattle.plan_theory.proofs.ChangesServe.{changes_serve}
use Rattle.plan_theory.proofs.ItemNumbers.{turns_by_ring}
use Rattle.plan_theory.proofs.Serving.{Serves}
use Rattle.printed_lines.specs.Texts.{line}
use Rattle.change_orders.specs.TwoTexts.{item_word}
use Rattle.explained_texts.proofs.OneText.{lowest_once}
use Rattle.explained_texts.proofs.ToldTexts.{one_told}
use Rattle.explained_changes.specs.ChangeReasonTexts.{IsChangeLine, IsChangeReasonsText, IsRightBehind, comes_words, loop_words}
use Rattle.explained_changes.specs.ChangeReasonTexts.{change_comes_after, change_may_be_earlier, change_of_first_wave, right_behind}
use Rattle.explained_changes.proofs.ChangeReasons.{forbids_one}

module _ (move : Migration) (begins : BeginsOld move) (ranks : List ℕ) where
  -- turns that name the changes of one ring are one
  one_list_of_turns : (a b : ℕ) (turns others : List Turn) → a ≡ b → map by_router turns ≡ map by_router others → All (NamesSwitch move a) turns →
      All (NamesSwitch move b) others → turns ≡ others
  one_list_of_turns a b turns others same rings named its =
      let serves : Serves move (changes_ranked move) = changes_serve move begins in
      turns_by_ring move (changes_ranked move) serves b turns others (sym (serves.ring_is turns) ∙ rings ∙ serves.ring_is others)
      (subst (λ (x : ℕ). All (NamesSwitch move x) turns) same named) its

  module _ (i : ℕ) where
    -- a change behind its router's first is told of that router
    one_behind : (one two : IsRightBehind ranks i) →
        line (item_word (names_of move.net) i) (comes_words (names_of move.net) ranks i (change_number (first one.router)) [])
        ≡ line (item_word (names_of move.net) i) (comes_words (names_of move.net) ranks i (change_number (first two.router)) [])
    one_behind one two =
        let number = one.number in
        let other = two.number in
        let same : one.router ≡ two.router = omega (arith, number, other) in
        ap (λ (u : ℕ). line (item_word (names_of move.net) i) (comes_words (names_of move.net) ranks i (change_number (first u)) [])) same

    one_line : (s t : List ℕ) → IsChangeLine move ranks i s → IsChangeLine move ranks i t → s ≡ t
    one_line s t (change_of_first_wave _) (change_of_first_wave _) = refl
    one_line s t (change_of_first_wave none) (right_behind behind) = let before = behind.just_before in absurd (omega (arith, none, before))
    one_line s t (change_of_first_wave none) (change_may_be_earlier later _ _) = absurd (omega (arith, none, later))
    one_line s t (change_of_first_wave none) (change_comes_after _ _ _ later _ _ _) = absurd (omega (arith, none, later))
    one_line s t (right_behind behind) (change_of_first_wave none) = let before = behind.just_before in absurd (omega (arith, none, before))
    one_line s t (right_behind one) (right_behind two) = one_behind one two
    one_line s t (right_behind behind) (change_may_be_earlier _ apart _) = absurd (apart behind)
    one_line s t (right_behind behind) (change_comes_after _ _ _ _ apart _ _) = absurd (apart behind)
    one_line s t (change_may_be_earlier later _ _) (change_of_first_wave none) = absurd (omega (arith, none, later))
    one_line s t (change_may_be_earlier _ apart _) (right_behind behind) = absurd (apart behind)
    one_line s t (change_may_be_earlier _ _ _) (change_may_be_earlier _ _ _) = refl
    one_line s t (change_may_be_earlier _ _ may) (change_comes_after a after turns _ _ keeps _) =
        absurd (forbids_one move begins ranks i a turns keeps.reason may)
    one_line s t (change_comes_after _ _ _ later _ _ _) (change_of_first_wave none) = absurd (omega (arith, none, later))
    one_line s t (change_comes_after _ _ _ _ apart _ _) (right_behind behind) = absurd (apart behind)
    one_line s t (change_comes_after a after turns _ _ keeps _) (change_may_be_earlier _ _ may) =
        absurd (forbids_one move begins ranks i a turns keeps.reason may)
    one_line s t (change_comes_after a after turns _ _ keeps lowest) (change_comes_after b other others _ _ again its) =
        let same : loop a (map by_router turns) ≡ loop b (map by_router others) = (times_fault_unique keeps.told again.told).1 in
        let address : a ≡ b = cc in
        let rings : map by_router turns ≡ map by_router others = cc in
        let all : turns ≡ others = one_list_of_turns a b turns others address rings keeps.reason.loops.named again.reason.loops.named in
        let numbers : after ≡ other = lowest_once ranks turns others i after other all lowest its in
        λ k. line (item_word (names_of move.net) i)
        (comes_words (names_of move.net) ranks i (numbers k) (loop_words (names_of move.net) (address k) (rings k)))

  pub one_change_reasons_text : (text other : List ℕ) → IsChangeReasonsText move ranks text → IsChangeReasonsText move ranks other → text ≡ other
  one_change_reasons_text text other is its = one_told (IsChangeLine move ranks) (λ i inside. one_line i) is its
