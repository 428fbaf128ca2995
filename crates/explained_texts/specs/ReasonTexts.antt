-- What is told of the routers of a safe wave list: of each that isn't in the first wave what keeps it from the wave before its
-- own, or that it may stand there.
use Rattle.std.specs.Prelude.{◌≡◌, ℕ, ◌+◌, ◌<◌, ◌≤◌, List, [], ◌∷◌, map, codes, decimal, Contains}
use Rattle.net_model.specs.RouterNames.{names_of}
use Rattle.order_core.specs.Rankings.{flat_of, rank_of}
use Rattle.order_core.specs.Turns.{old_routers}
use Rattle.order_core.specs.declared.turn.Turn.{Turn}
use Rattle.igp_theory.specs.Loops.{Fault, loop}
use Rattle.igp_theory.specs.Migrations.{Migration}
use Rattle.igp_theory.specs.Timetables.{router_times}
use Rattle.igp_theory.specs.WaveFaults.{IsTimesFault}
use Rattle.printed_lines.specs.Words.{dotted, router_word}
use Rattle.printed_lines.specs.Texts.{line}
use Rattle.explained_waves.specs.Reasons.{IsReason, MayBeEarlier, one_earlier}
use Rattle.explained_texts.specs.RingWords.{tagged_word}
use Rattle.explained_texts.specs.ToldItems.{AreTold}

-- the fault of the list with router v one wave earlier, which is a reason why it isn't there
pub record KeepsLater (move : Migration) (ranks : List ℕ) (v : ℕ) (fault : Fault) : Type 0 where
  pub told : IsTimesFault move (router_times move.start (one_earlier ranks v)) (rank_of ranks v) fault
  pub reason : IsReason move ranks v fault

-- the lowest router tagged Old of the wave before v's own: the one of those that v comes after which is told
pub record IsLowestBefore (ranks : List ℕ) (ring : List Turn) (v after : ℕ) : Type 0 where
  pub is_old : Contains (old_routers ring) after
  pub just_before : rank_of ranks after + 1 ≡ rank_of ranks v
  pub lowest : (u : ℕ) → Contains (old_routers ring) u → rank_of ranks u + 1 ≡ rank_of ranks v → after ≤ u

-- the words behind the name of a router: its wave, counted from 1, and that it may stand one wave earlier
abbrev pub may_words : List ℕ → ℕ → List (List ℕ)
may_words ranks v =
    codes "wave" ∷ decimal (rank_of ranks v + 1) ∷ codes "may" ∷ codes "be" ∷ codes "earlier" ∷ []

-- or the router that it comes after, with the address and the ring of the loop
abbrev pub after_words : List (List ℕ) → List ℕ → ℕ → ℕ → ℕ → List Turn → List (List ℕ)
after_words names ranks v after a ring =
    codes "wave" ∷ decimal (rank_of ranks v + 1) ∷ codes "after" ∷ router_word names after ∷ dotted a
    ∷ map (tagged_word names) ring

-- what is told of router v: nothing of the first wave, else one line
pub data IsReasonLine (move : Migration) (ranks : List ℕ) (v : ℕ) : List ℕ → Type 0 where
  of_first_wave : rank_of ranks v ≡ 0 → IsReasonLine move ranks v []
  may_be_earlier : 0 < rank_of ranks v → MayBeEarlier move ranks v →
      IsReasonLine move ranks v (line (router_word (names_of move.net) v) (may_words ranks v))
  comes_after : (a after : ℕ) (ring : List Turn) → 0 < rank_of ranks v → KeepsLater move ranks v (loop a ring) →
      IsLowestBefore ranks ring v after →
      IsReasonLine move ranks v (line (router_word (names_of move.net) v) (after_words (names_of move.net) ranks v after a ring))

-- the text of all of them, wave by wave, and in a wave by the numbers of the routers
abbrev pub IsReasonsText : Migration → List ℕ → List ℕ → Type 0
IsReasonsText move ranks text = AreTold (IsReasonLine move ranks) (flat_of ranks) text
