-- The faulty lines of an order file, counted from 1, and the least of them.
use Rattle.std.specs.Prelude.{◌≡◌, ℕ, ◌+◌, ◌<◌, ◌≤◌, ◌⊎◌, List, [], ◌∷◌, ◌++◌, length, slice_index_or, take, Some, None}
use Rattle.std.specs.Prelude.{slice_get, Contains}
use Rattle.net_addr.specs.Lines.{line_texts}
use Rattle.net_model.specs.Lookups.{IsNamed}
use Rattle.net_model.specs.Network.{Network}
use Rattle.step_scripts.specs.WaveLines.{header_of, wave_on, chain_on, waves_on, chains_on}
use Rattle.step_scripts.specs.WaveFiles.{all_in, AreOfEach}
use Rattle.step_scripts.specs.declared.version.Version.{Version}
use Rattle.step_scripts.specs.declared.kind.OrderKind.{OrderKind}
use Rattle.step_scripts.specs.declared.kind.OrderKind.TheVariants.{Header, NotInNetwork, Twice, Missing, Wave, Chain}
use Rattle.step_scripts.specs.declared.kind.OrderRefusal.{OrderRefusal}
use Rattle.step_scripts.specs.declared.kind.OrderRefusal.TheVariants.{Bad, OutOfMemory}

-- the first line of a text is the header of this version
abbrev pub HasHeader : Version → List ℕ → Type 0
HasHeader version text = slice_get (line_texts text) 0 ≡ Some (header_of version)

-- a line behind a header of this version: the lines between the two, and the line
pub record FileEntry : Type 0 where
  pub version : Version
  pub before : List (List ℕ)
  pub line : List ℕ

-- a line is a wave, and no line before it is a chain
pub record IsWaveBehind (e : FileEntry) (names : List (List ℕ)) : Type 0 where
  pub wave : wave_on e.version e.line ≡ Some names
  pub no_chain : chains_on e.version e.before ≡ []

-- a wave has a name of no router
pub record NamesNoRouter (net : Network) (e : FileEntry) : Type 0 where
  pub names : List (List ℕ)
  pub wave : IsWaveBehind e names
  pub name : List ℕ
  pub among : Contains names name
  pub unknown : (u : ℕ) → IsNamed net name u → ⊥

-- a wave has a name that stood before, in a wave on a line before or in front of it on its own line
pub record NamesAgain (e : FileEntry) : Type 0 where
  pub names : List (List ℕ)
  pub wave : IsWaveBehind e names
  pub place : ℕ
  pub within : place < length names
  pub stood : Contains (all_in (waves_on e.version e.before) ++ take place names) (slice_index_or names place [])

-- a line is neither a wave nor a chain, or some line before it is a chain
abbrev pub IsNoWave : FileEntry → Type 0
IsNoWave e = ((wave_on e.version e.line ≡ None) × (chain_on e.version e.line ≡ None)) ⊎ (chains_on e.version e.before ≡ [] → ⊥)

-- a line is a chain, none before it is, and its names aren't one of each wave before it, in their order
pub record IsWrongChain (e : FileEntry) : Type 0 where
  pub names : List (List ℕ)
  pub chain : chain_on e.version e.line ≡ Some names
  pub no_chain : chains_on e.version e.before ≡ []
  pub wrong : AreOfEach (waves_on e.version e.before) names → ⊥

-- a line behind the header is faulty with this kind, by itself and the lines before it
abbrev pub IsFaultBehind : Network → FileEntry → OrderKind → Type 0
IsFaultBehind net e Header = ⊥
IsFaultBehind net e NotInNetwork = NamesNoRouter net e
IsFaultBehind net e Twice = NamesAgain e
IsFaultBehind net e Missing = ⊥
IsFaultBehind net e Wave = IsNoWave e
IsFaultBehind net e Chain = IsWrongChain e

-- the line of this number, behind a header, is faulty with this kind
pub record HasFaultyEntry (net : Network) (text : List ℕ) (number : ℕ) (kind : OrderKind) : Type 0 where
  pub at : FileEntry
  pub after : List (List ℕ)
  pub lines : line_texts text ≡ header_of at.version ∷ (at.before ++ at.line ∷ after)
  pub number_is : number ≡ length at.before + 2
  pub fault : IsFaultBehind net at kind

-- a text ends before the line of this number, and some router stands in no wave
pub record EndsEarly (net : Network) (text : List ℕ) (number : ℕ) : Type 0 where
  pub version : Version
  pub entries : List (List ℕ)
  pub lines : line_texts text ≡ header_of version ∷ entries
  pub number_is : number ≡ length entries + 2
  pub router : ℕ
  pub name : List ℕ
  pub named : IsNamed net name router
  pub absent : Contains (all_in (waves_on version entries)) name → ⊥

-- the line of this number is faulty with this kind
abbrev pub IsFaultyLine : Network → List ℕ → ℕ → OrderKind → Type 0
IsFaultyLine net text number Header = (number ≡ 1) × ((version : Version) → HasHeader version text → ⊥)
IsFaultyLine net text number Missing = EndsEarly net text number
IsFaultyLine net text number kind = HasFaultyEntry net text number kind

-- the place of a kind among the kinds
abbrev pub order_kind_rank : OrderKind → ℕ
order_kind_rank Header = 1
order_kind_rank NotInNetwork = 2
order_kind_rank Twice = 3
order_kind_rank Missing = 4
order_kind_rank Wave = 5
order_kind_rank Chain = 6

-- the least faulty line of a text, and the lowest kind on it
pub record IsLeastFaultyLine (net : Network) (text : List ℕ) (number : ℕ) (kind : OrderKind) : Type 0 where
  pub faulty : IsFaultyLine net text number kind
  pub least : (other : ℕ) (its : OrderKind) → IsFaultyLine net text other its → number ≤ other
  pub lowest : (its : OrderKind) → IsFaultyLine net text number its → order_kind_rank kind ≤ order_kind_rank its

-- when each refusal comes; want of memory may come at any time
abbrev pub RefusesWaves : Network → List ℕ → OrderRefusal → Type 0
RefusesWaves net text (Bad number kind) = IsLeastFaultyLine net text number kind
RefusesWaves net text OutOfMemory = Unit {0}
