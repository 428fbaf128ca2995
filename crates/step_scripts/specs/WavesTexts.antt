-- The text of a wave list: a version 2 file, with a chain line or without, the names of a wave in number order.
use Rattle.std.specs.Prelude.{ℕ, ◌<◌, List, [], ◌∷◌, ◌++◌, length, slice_index_or, map, codes, Contains}
use Rattle.std.specs.List.{AllZip}
use Rattle.net_model.specs.Network.{Network}
use Rattle.net_model.specs.Refusals.{IsNetwork}
use Rattle.net_model.specs.RouterNames.{names_of}
use Rattle.order_core.specs.Rankings.{IsRanking, wave_count, wave_of, numbers_below}
use Rattle.printed_lines.specs.Words.{joined}
use Rattle.printed_lines.specs.Texts.{text_of}
use Rattle.step_scripts.specs.WaveLines.{header_of}
use Rattle.step_scripts.specs.WaveFiles.{NamesWaves}
use Rattle.step_scripts.specs.declared.version.Version.TheVariants.{Two}

-- the waves of a ranking, in their order
abbrev pub waves_in : List ℕ → List (List ℕ)
waves_in ranks = map (wave_of ranks) (numbers_below (wave_count ranks))

-- routers are one of each wave, in the order of the waves
abbrev pub AreOneOfEach : List ℕ → List ℕ → Type 0
AreOneOfEach ranks chain = AllZip (λ (wave : List ℕ) (u : ℕ). Contains wave u) (waves_in ranks) chain

-- the names of some routers, where these are the names of all
abbrev pub names_at : List (List ℕ) → List ℕ → List (List ℕ)
names_at names routers = map (λ u. slice_index_or names u []) routers

-- a line: a word and the names of some routers
abbrev pub named_line : List (List ℕ) → List ℕ → List ℕ → List ℕ
named_line names word routers = joined (word ∷ names_at names routers)

-- the lines of the waves
abbrev pub wave_lines : List (List ℕ) → List (List ℕ) → List (List ℕ)
wave_lines names waves = map (named_line names (codes "wave")) waves

-- the text of some waves alone, without a chain
abbrev pub wave_list_text : List (List ℕ) → List (List ℕ) → List ℕ
wave_list_text names waves = text_of (header_of Two ∷ wave_lines names waves)

-- the text of a wave list and a chain
abbrev pub waves_text : List (List ℕ) → List ℕ → List ℕ → List ℕ
waves_text names ranks chain = text_of (header_of Two ∷ (wave_lines names (waves_in ranks) ++ named_line names (codes "chain") chain ∷ []))

-- it names this wave list: it reads back as a version 2 file with these waves
abbrev pub WavesReadBack : Type 0
WavesReadBack =
    (net : Network) (ranks chain : List ℕ) → IsNetwork net → 0 < length net → IsRanking (length net) ranks → AreOneOfEach ranks chain →
    NamesWaves net (waves_text (names_of net) ranks chain) Two ranks

-- so does the text of the waves alone
abbrev pub WaveListsReadBack : Type 0
WaveListsReadBack =
    (net : Network) (ranks : List ℕ) → IsNetwork net → IsRanking (length net) ranks →
    NamesWaves net (wave_list_text (names_of net) (waves_in ranks)) Two ranks
