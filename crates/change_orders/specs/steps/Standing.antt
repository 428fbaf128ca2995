-- What is known of the lines that were read.
use Rattle.std.specs.Prelude.{◌≡◌, ℕ, ◌+◌, ◌*◌, ◌<◌, ◌≤◌, Bool, true, false, List, [], ◌∷◌, ◌++◌, length, slice_index_or, slice_get, Option, Some, None, MatchOption, Contains}
use Rattle.net_addr.specs.Lines.{line_texts}
use Rattle.net_model.specs.Network.{Network}
use Rattle.step_scripts.specs.WaveLines.{waves_on, chains_on}
use Rattle.step_scripts.specs.WaveFiles.{wave_at}
use Rattle.step_scripts.specs.declared.version.Version.TheVariants.{Two}
use Rattle.change_orders.specs.ChangeWords.{NamesItem}
use Rattle.change_orders.specs.TwoFaults.{TwoEntry, two_entry, IsTwoFaultBehind, IsWaveOf, stood_on, two_header, two_kind_rank}
use Rattle.change_orders.specs.declared.kind.TwoKind.{TwoKind}
use Rattle.change_orders.specs.declared.seating.ReadSoFar.{ReadSoFar}

-- the wave of each item so far, how many waves there are, and whether the chain has come
pub record TwoStanding : Type 0 where
  pub ranks : List (Option ℕ)
  pub waves : ℕ
  pub chained : Bool

-- a word stands in the wave of this number alone
pub record IsInOneWave (waves : List (List (List ℕ))) (word : List ℕ) (w : ℕ) : Type 0 where
  pub within : w < length waves
  pub among : Contains (wave_at waves w) word
  pub only : (v : ℕ) → Contains (wave_at waves v) word → v ≡ w

-- none of these lines is faulty
abbrev pub AreFaultless : Network → List (List ℕ) → Type 0
AreFaultless net lines =
    (e : TwoEntry) (after : List (List ℕ)) (kind : TwoKind) → lines ≡ e.before ++ e.line ∷ after → IsTwoFaultBehind net e kind → ⊥

-- that is where these lines, of which none is faulty, lead
pub record HaveLedTo (net : Network) (lines : List (List ℕ)) (s : TwoStanding) : Type 0 where
  pub each : length s.ranks ≡ 2 * length net
  pub count : length (waves_on Two lines) ≡ s.waves
  pub places : (word : List ℕ) (item : ℕ) → NamesItem net word item →
      MatchOption (slice_index_or s.ranks item None) (Contains (stood_on lines) word → ⊥) (IsInOneWave (waves_on Two lines) word)
  pub known : (word : List ℕ) → Contains (stood_on lines) word → (item : ℕ) × NamesItem net word item
  pub used : (w : ℕ) → w < s.waves → Contains s.ranks (Some w)
  pub in_turn : (u w : ℕ) → u < length net → slice_index_or s.ranks (2 * u + 1) None ≡ Some w →
      (v : ℕ) × (slice_index_or s.ranks (2 * u) None ≡ Some v) × (v < w)
  pub chained : s.chained ≡ true → chains_on Two lines ≡ [] → ⊥
  pub unchained : s.chained ≡ false → chains_on Two lines ≡ []
  pub faultless : AreFaultless net lines

-- a line is faulty with this kind, and with no lower one
pub record IsLowestTwoFault (net : Network) (e : TwoEntry) (kind : TwoKind) : Type 0 where
  pub fault : IsTwoFaultBehind net e kind
  pub lowest : (its : TwoKind) → IsTwoFaultBehind net e its → two_kind_rank kind ≤ two_kind_rank its

-- some lines begin with the header
abbrev pub BeginsTwo : List (List ℕ) → Type 0
BeginsTwo lines = slice_get lines 0 ≡ Some two_header

-- lines were read up to this number, none of them faulty, and these are left
pub record IsReadTo (net : Network) (text : List ℕ) (left : List (List ℕ)) (number : ℕ) (s : TwoStanding) : Type 0 where
  pub lines : List (List ℕ)
  pub whole : line_texts text ≡ two_header ∷ (lines ++ left)
  pub number_is : number ≡ length lines + 2
  pub few : s.waves ≤ length lines
  pub led : HaveLedTo net lines s

-- where reading stands before and after a further line
pub record Taking : Type 0 where
  pub before : TwoStanding
  pub after : TwoStanding

-- a further line behind these lines: where it is faulty its lowest kind is told, else it leads on
abbrev pub LeadsOn : Network → List (List ℕ) → List ℕ → TwoStanding → Option TwoKind → Type 0
LeadsOn net lines line after fault =
    MatchOption fault (HaveLedTo net (lines ++ line ∷ []) after) (IsLowestTwoFault net (two_entry lines line))

-- that is so whatever lines have led so far
abbrev pub TakesTwoLine : Network → List ℕ → Taking → Option TwoKind → Type 0
TakesTwoLine net line t fault = (lines : List (List ℕ)) → HaveLedTo net lines t.before → LeadsOn net lines line t.after fault

-- and where no chain stands before, whatever line is a wave of these words
abbrev pub TakesWave : Network → List (List ℕ) → Taking → Option TwoKind → Type 0
TakesWave net words t fault =
    (lines : List (List ℕ)) (line : List ℕ) → IsWaveOf line words → t.before.chained ≡ false → HaveLedTo net lines t.before →
    LeadsOn net lines line t.after fault

-- a word names an item that has this wave
pub record StandsIn (net : Network) (ranks : List (Option ℕ)) (word : List ℕ) (wave : ℕ) : Type 0 where
  pub item : ℕ
  pub names : NamesItem net word item
  pub rank : slice_index_or ranks item None ≡ Some wave

-- where the reader stands
abbrev pub standing : ReadSoFar → TwoStanding
standing read = record { ranks = read.ranks.items; waves = read.waves; chained = read.chained }

abbrev pub taking : ReadSoFar → ReadSoFar → Taking
taking before after = record { before = standing before; after = standing after }
