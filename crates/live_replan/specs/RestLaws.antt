-- The law of printed rests: they name each router that isn't New in one wave, and the chain has one of each wave.
use Rattle.std.specs.Prelude.{◌≡◌, ℕ, ◌<◌, ◌↔◌, List, length, slice_index_or, map, All, Contains, IsTrue}
use Rattle.std.specs.List.{AllZip}
use Rattle.order_core.specs.Orders.{AreDistinct}
use Rattle.order_core.specs.Rankings.{IsRanking, rank_of}
use Rattle.igp_theory.specs.declared.phase.Phase.{Phase}
use Rattle.igp_theory.specs.declared.phase.Phase.TheVariants.{New}
use Rattle.step_scripts.specs.WaveFiles.{all_in}
use Rattle.step_scripts.specs.WavesTexts.{AreOneOfEach, waves_in}
use Rattle.live_replan.specs.RestTexts.{has_rest, rest_chain, rest_of}

-- the routers that are New at the start stand in the first wave, and where not all are New another router stands there too
pub record LeadWithNew (start : List Phase) (ranks : List ℕ) : Type 0 where
  pub first : (u : ℕ) → u < length ranks → slice_index_or start u New ≡ New → rank_of ranks u ≡ 0
  pub beside : (u : ℕ) → u < length ranks → IsTrue (has_rest start u) → (v : ℕ) × (v < length ranks) × IsTrue (has_rest start v) × (rank_of ranks v ≡ 0)

-- what is printed of each wave has a router or more, together they are the routers with something left to do, each once, and the
-- chain has one of each
pub record AreRestWaves (start : List Phase) (ranks chain : List ℕ) : Type 0 where
  pub some : All (λ (wave : List ℕ). 0 < length wave) (map (rest_of start) (waves_in ranks))
  pub once : AreDistinct (all_in (map (rest_of start) (waves_in ranks)))
  pub all : (u : ℕ) → Contains (all_in (map (rest_of start) (waves_in ranks))) u ↔ ((u < length ranks) × IsTrue (has_rest start u))
  pub each : AllZip (λ (wave : List ℕ) (u : ℕ). Contains wave u) (map (rest_of start) (waves_in ranks)) (rest_chain start ranks chain)

-- where the chain has more than one router none of them is New
abbrev pub KeepsChain : List Phase → List ℕ → Type 0
KeepsChain start chain = 1 < length chain → All (λ u. IsTrue (has_rest start u)) chain

abbrev pub RestWavesLaw : Type 0
RestWavesLaw =
    (start : List Phase) (ranks chain : List ℕ) (u : ℕ) → IsRanking (length ranks) ranks → AreOneOfEach ranks chain → LeadWithNew start ranks →
    KeepsChain start chain → u < length ranks → IsTrue (has_rest start u) → AreRestWaves start ranks chain
