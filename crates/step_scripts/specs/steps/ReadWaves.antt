-- How far the lines of an order file have been read: the entries are the lines behind the header, the seats the routers of the waves.
use Rattle.std.specs.Prelude.{◌≡◌, ℕ, ◌+◌, ◌<◌, ◌≤◌, List, [], ◌∷◌, ◌++◌, length, slice_index_or, take, map, All, Contains}
use Rattle.std.specs.Prelude.{◌⊎◌, Option, Some, None, MatchOption}
use Rattle.std.specs.List.{AllZip}
use Rattle.net_addr.specs.Lines.{line_texts}
use Rattle.net_addr.specs.Spans.{bytes_of, LiesIn}
use Rattle.net_addr.specs.declared.line.Line.{Line}
use Rattle.net_model.specs.Lookups.{IsNamed}
use Rattle.net_model.specs.Network.{Network}
use Rattle.order_core.specs.Orders.{AreDistinct}
use Rattle.order_core.specs.Rankings.{rank_of}
use Rattle.step_scripts.specs.WaveLines.{header_of, wave_on}
use Rattle.step_scripts.specs.WaveFiles.{all_in, wave_at, MayFollowWaves}
use Rattle.step_scripts.specs.declared.version.Version.{Version}
use Rattle.step_scripts.specs.declared.kind.OrderKind.{OrderKind}
use Rattle.step_scripts.specs.declared.kind.OrderKind.TheVariants.{Header, NotInNetwork, Twice, Missing, Wave, Chain}
use Rattle.step_scripts.specs.FaultyLines.{FileEntry}

abbrev pub file_entry : Version → List (List ℕ) → List ℕ → FileEntry
file_entry version before line = record { version = version; before = before; line = line }

-- the bytes of some lines
abbrev pub bytes_of_lines : List ℕ → List Line → List (List ℕ)
bytes_of_lines text lines = map (λ line. bytes_of text line.span) lines

-- a text's lines are the header of this version and these
pub record AreFileEntries (version : Version) (text : List ℕ) (entries : List Line) : Type 0 where
  pub lines : line_texts text ≡ header_of version ∷ bytes_of_lines text entries
  pub numbers : (k : ℕ) (d : Line) → k < length entries → (slice_index_or entries k d).number ≡ k + 2
  pub inside : All (λ line. LiesIn text line.span) entries

-- these entries are waves of distinct routers, and these are their seats
pub record AreWavesRead (net : Network) (version : Version) (entries : List (List ℕ)) (seats : List (List ℕ)) : Type 0 where
  pub waves : List (List (List ℕ))
  pub each : AllZip (λ (line : List ℕ) (wave : List (List ℕ)). wave_on version line ≡ Some wave) entries waves
  pub named : AllZip (AllZip (IsNamed net)) waves seats
  pub once : AreDistinct (all_in seats)

-- these entries are waves of distinct routers, and maybe a chain of them
pub record AreEntriesRead (net : Network) (version : Version) (entries : List (List ℕ)) (seats : List (List ℕ)) : Type 0 where
  pub lines : List (List ℕ)
  pub ending : List (List ℕ)
  pub parts : entries ≡ lines ++ ending
  pub read : AreWavesRead net version lines seats
  pub ends : MayFollowWaves version read.waves ending

-- the first entries are waves with these seats, and the next one is none
pub record AreFirstWaves (net : Network) (version : Version) (entries : List (List ℕ)) (seats : List (List ℕ)) : Type 0 where
  pub few : length seats ≤ length entries
  pub read : AreWavesRead net version (take (length seats) entries) seats
  pub next : (d : List ℕ) → length seats < length entries → wave_on version (slice_index_or entries (length seats) d) ≡ None

-- a name is that of no router
pub record HasUnknown (net : Network) (names : List (List ℕ)) : Type 0 where
  pub name : List ℕ
  pub among : Contains names name
  pub unknown : (u : ℕ) → IsNamed net name u → ⊥

-- a router stood before, in a seat or in front of it among these
pub record HasRepeat (seats : List (List ℕ)) (routers : List ℕ) : Type 0 where
  pub place : ℕ
  pub within : place < length routers
  pub stood : Contains (all_in seats ++ take place routers) (slice_index_or routers place 0)

-- the routers of these names, one of which stood before
pub record NamesRepeat (net : Network) (names : List (List ℕ)) (seats : List (List ℕ)) : Type 0 where
  pub routers : List ℕ
  pub named : AllZip (IsNamed net) names routers
  pub repeat : HasRepeat seats routers

-- why names aren't a further wave
abbrev pub IsUnfit : Network → List (List ℕ) → List (List ℕ) → OrderKind → Type 0
IsUnfit net names seats Header = ⊥
IsUnfit net names seats NotInNetwork = HasUnknown net names
IsUnfit net names seats Twice = NamesRepeat net names seats
IsUnfit net names seats Missing = ⊥
IsUnfit net names seats Wave = ⊥
IsUnfit net names seats Chain = ⊥

-- the routers of these names are new, and their wave is added
pub record TakesSeats (net : Network) (names : List (List ℕ)) (old new : List (List ℕ)) : Type 0 where
  pub routers : List ℕ
  pub named : AllZip (IsNamed net) names routers
  pub once : AreDistinct (all_in old ++ routers)
  pub added : new ≡ old ++ routers ∷ []

-- a router is in this wave
pub record IsIn (seats : List (List ℕ)) (u w : ℕ) : Type 0 where
  pub within : w < length seats
  pub among : Contains (wave_at seats w) u

-- of each router a wave that it is in, where there is one
abbrev pub KnowPlaces : List (List ℕ) → List (Option ℕ) → Type 0
KnowPlaces seats places =
    (u : ℕ) → u < length places → MatchOption (slice_index_or places u None) (Contains (all_in seats) u → ⊥) (IsIn seats u)

-- what is known of routers before and after something is noted
pub record Noted : Type 0 where
  pub before : List (Option ℕ)
  pub after : List (Option ℕ)

-- router u, which is among these, is noted in wave w, or it isn't among these, and nothing is noted of it
abbrev pub IsNoted : List ℕ → ℕ → Noted → ℕ → Type 0
IsNoted routers w noted u =
    (Contains routers u × (slice_index_or noted.after u None ≡ Some w)) ⊎
    ((Contains routers u → ⊥) × (slice_index_or noted.after u None ≡ slice_index_or noted.before u None))

-- each router is so
pub record AreNoted (routers : List ℕ) (w : ℕ) (noted : Noted) : Type 0 where
  pub count : length noted.after ≡ length noted.before
  pub each : (u : ℕ) → u < length noted.after → IsNoted routers w noted u

-- a router below the count is in no wave
pub record HasUnseated (count : ℕ) (seats : List (List ℕ)) : Type 0 where
  pub router : ℕ
  pub below : router < count
  pub absent : Contains (all_in seats) router → ⊥

-- the rank of each router is that of its wave
pub record AreRanksOf (count : ℕ) (seats : List (List ℕ)) (ranks : List ℕ) : Type 0 where
  pub each : length ranks ≡ count
  pub is_in : (u : ℕ) → u < count → IsIn seats u (rank_of ranks u)

-- a router of this name is in the wave
pub record NamesOneOf (net : Network) (wave : List ℕ) (name : List ℕ) : Type 0 where
  pub router : ℕ
  pub named : IsNamed net name router
  pub among : Contains wave router
