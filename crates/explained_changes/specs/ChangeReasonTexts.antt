-- What is told of the single changes of a safe wave list: of each that isn't in the first wave what keeps it from the wave before
-- its own, or that it may stand there.
use Rattle.std.specs.Prelude.{◌≡◌, ℕ, ◌+◌, ◌<◌, List, [], ◌∷◌, map, codes, decimal}
use Rattle.net_model.specs.RouterNames.{names_of}
use Rattle.order_core.specs.Rankings.{flat_of, rank_of}
use Rattle.order_core.specs.declared.turn.Turn.{Turn}
use Rattle.igp_theory.specs.Changes.{first, second}
use Rattle.igp_theory.specs.Loops.{loop}
use Rattle.igp_theory.specs.Migrations.{Migration}
use Rattle.igp_theory.specs.Timetables.{change_number, change_times}
use Rattle.igp_theory.specs.WaveFaults.{IsTimesFault}
use Rattle.plan_theory.specs.Ranked.{changes_ranked}
use Rattle.printed_lines.specs.Words.{dotted}
use Rattle.printed_lines.specs.Texts.{line}
use Rattle.change_orders.specs.TwoTexts.{item_word}
use Rattle.explained_waves.specs.Reasons.{one_earlier}
use Rattle.explained_texts.specs.ReasonTexts.{IsLowestBefore, may_words}
use Rattle.explained_texts.specs.RingWords.{tagged_word}
use Rattle.explained_texts.specs.ToldItems.{AreTold}
use Rattle.explained_changes.specs.ChangeReasons.{ChangeMayBeEarlier, IsChangeReason}

-- a change is the second one of a router whose first stands in the wave right before. In an order file a wave has one change of a
-- router, so that the second can't be moved there
pub record IsRightBehind (ranks : List ℕ) (i : ℕ) : Type 0 where
  pub router : ℕ
  pub number : i ≡ change_number (second router)
  pub just_before : rank_of ranks (change_number (first router)) + 1 ≡ rank_of ranks i

-- the loop of the list with change i one wave earlier, its turns told by the changes at which their routers switch: it is the
-- fault of that list, and a reason why the change isn't there
pub record KeepsChangeLater (move : Migration) (ranks : List ℕ) (i a : ℕ) (turns : List Turn) : Type 0 where
  pub told : IsTimesFault move (change_times (one_earlier ranks i)) (rank_of ranks i) (loop a ((changes_ranked move).ring turns))
  pub reason : IsChangeReason move ranks i a turns

-- the words behind the word of a change: its wave, counted from 1, the change that it comes after, and more
abbrev pub comes_words : List (List ℕ) → List ℕ → ℕ → ℕ → List (List ℕ) → List (List ℕ)
comes_words names ranks i after more =
    codes "wave" ∷ decimal (rank_of ranks i + 1) ∷ codes "after" ∷ item_word names after ∷ more

-- the address of a loop and its ring, by routers
abbrev pub loop_words : List (List ℕ) → ℕ → List Turn → List (List ℕ)
loop_words names a ring = dotted a ∷ map (tagged_word names) ring

-- what is told of change i: nothing of the first wave, else one line
pub data IsChangeLine (move : Migration) (ranks : List ℕ) (i : ℕ) : List ℕ → Type 0 where
  change_of_first_wave : rank_of ranks i ≡ 0 → IsChangeLine move ranks i []
  right_behind : (behind : IsRightBehind ranks i) →
      IsChangeLine move ranks i
      (line (item_word (names_of move.net) i) (comes_words (names_of move.net) ranks i (change_number (first behind.router)) []))
  change_may_be_earlier : 0 < rank_of ranks i → ¬ IsRightBehind ranks i → ChangeMayBeEarlier move ranks i →
      IsChangeLine move ranks i (line (item_word (names_of move.net) i) (may_words ranks i))
  change_comes_after : (a after : ℕ) (turns : List Turn) → 0 < rank_of ranks i → ¬ IsRightBehind ranks i →
      KeepsChangeLater move ranks i a turns → IsLowestBefore ranks turns i after →
      IsChangeLine move ranks i (line (item_word (names_of move.net) i)
      (comes_words (names_of move.net) ranks i after (loop_words (names_of move.net) a ((changes_ranked move).ring turns))))

-- the text of all of them, wave by wave, and in a wave by the numbers of the changes
abbrev pub IsChangeReasonsText : Migration → List ℕ → List ℕ → Type 0
IsChangeReasonsText move ranks text = AreTold (IsChangeLine move ranks) (flat_of ranks) text
