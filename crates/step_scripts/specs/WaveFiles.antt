-- Which wave list an order file names.
use Rattle.std.specs.Prelude.{◌≡◌, ℕ, List, [], ◌∷◌, ◌++◌, length, slice_index_or, Some, Contains}
use Rattle.std.specs.List.{AllZip, flat_map}
use Rattle.net_addr.specs.Lines.{line_texts}
use Rattle.net_model.specs.Lookups.{IsNamed}
use Rattle.net_model.specs.Network.{Network}
use Rattle.order_core.specs.Orders.{IsOrder}
use Rattle.order_core.specs.Rankings.{rank_of}
use Rattle.step_scripts.specs.WaveLines.{header_of, wave_on, chain_on}
use Rattle.step_scripts.specs.declared.version.Version.{Version}

-- what the waves of a list hold, one wave behind the other
abbrev pub all_in : {A : Type 0} → List (List A) → List A
all_in waves = flat_map (λ wave. wave) waves

-- wave w of a list, from 0
abbrev pub wave_at : {A : Type 0} → List (List A) → ℕ → List A
wave_at waves w = slice_index_or waves w []

-- names are one of each wave, in the order of the waves
abbrev pub AreOfEach : List (List (List ℕ)) → List (List ℕ) → Type 0
AreOfEach waves names = AllZip (λ (wave : List (List ℕ)) (name : List ℕ). Contains wave name) waves names

-- a line is a chain of these waves
pub record IsChainOf (version : Version) (waves : List (List (List ℕ))) (line : List ℕ) : Type 0 where
  pub names : List (List ℕ)
  pub chain : chain_on version line ≡ Some names
  pub each : AreOfEach waves names

-- what may stand after the lines of these waves: nothing, or a chain of them
abbrev pub MayFollowWaves : Version → List (List (List ℕ)) → List (List ℕ) → Type 0
MayFollowWaves version waves [] = Unit {0}
MayFollowWaves version waves (line ∷ []) = IsChainOf version waves line
MayFollowWaves version waves (line ∷ next ∷ more) = ⊥

-- waves, by the names of their routers, are the wave list of these ranks: each router of the network stands in one wave,
-- once, and its rank is the number of this wave
pub record AreWaves (net : Network) (waves : List (List (List ℕ))) (ranks : List ℕ) : Type 0 where
  pub routers : List (List ℕ)
  pub named : AllZip (AllZip (IsNamed net)) waves routers
  pub once : IsOrder (length net) (all_in routers)
  pub each : length ranks ≡ length net
  pub seats : (w u : ℕ) → Contains (wave_at routers w) u → rank_of ranks u ≡ w

-- a text of this version names the wave list of these ranks: its lines are the header, a line for each wave, and maybe a chain
pub record NamesWaves (net : Network) (text : List ℕ) (version : Version) (ranks : List ℕ) : Type 0 where
  pub lines : List (List ℕ)
  pub ending : List (List ℕ)
  pub whole : line_texts text ≡ header_of version ∷ (lines ++ ending)
  pub waves : List (List (List ℕ))
  pub each : AllZip (λ (line : List ℕ) (wave : List (List ℕ)). wave_on version line ≡ Some wave) lines waves
  pub ends : MayFollowWaves version waves ending
  pub are : AreWaves net waves ranks
