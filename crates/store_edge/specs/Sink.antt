-- What a write does, and what the sinks in memory are.
use Rattle.std.specs.Prelude.{◌≡◌, ℕ, ◌+◌, ◌<◌, List, ◌++◌, length, Bool, Contains, Option, Some, None, ◌⊎◌, nat_le}
use Rattle.std.specs.Prelude.{if◌then◌else◌}
use Rattle.store_edge.specs.Faults.{next_count}

-- these bytes came last, where the bytes written are still told afterwards
abbrev pub AddsBytes : Option (List ℕ) → Option (List ℕ) → List ℕ → Type 0
AddsBytes before None bytes = Unit {0}
AddsBytes None (Some after) bytes = ⊥
AddsBytes (Some before) (Some after) bytes = after ≡ before ++ bytes

-- a cut write: a front of the piece came last
pub record AddsFront (before after : Option (List ℕ)) (piece : List ℕ) : Type 0 where
  pub front : List ℕ
  pub rest : List ℕ
  pub cut : front ++ rest ≡ piece
  pub adds : AddsBytes before after front

-- a sink over a writer: the writer, whether its bytes are told, and the faults
pub record RealSinkState (W : Type 0) : Type 0 where
  pub writer : W
  pub tells : Bool
  pub faults : ℕ

-- the bytes that it tells: those of the writer, by what is known of these
abbrev pub told_of : {W : Type 0} → (W → Option (List ℕ)) → RealSinkState W → Option (List ℕ)
told_of contents sink = if sink.tells then contents sink.writer else None

-- a sink in memory: the bytes written, how many it takes in all, the numbers of the writes that fail, how many
-- writes there were, and the faults
pub record MemorySinkState : Type 0 where
  pub bytes : List ℕ
  pub room : ℕ
  pub failing : List ℕ
  pub writes : ℕ
  pub faults : ℕ

-- the next write of this piece fails: its number is one that fails, counted from 1, or the piece passes the room
abbrev pub WriteFails : MemorySinkState → List ℕ → Type 0
WriteFails state piece = Contains state.failing (next_count state.writes) ⊎ (state.room < length state.bytes + length piece)

-- a sink in memory that never fails: the bytes written, told as long as they fit into its room
pub record SureSinkState : Type 0 where
  pub told : Option (List ℕ)
  pub room : ℕ

-- what it tells after a write
abbrev pub told_after : SureSinkState → List ℕ → Option (List ℕ)
told_after state piece = fits state.told
  where
    fits : Option (List ℕ) → Option (List ℕ)
    fits None = None
    fits (Some bytes) = if nat_le (length bytes + length piece) state.room then Some (bytes ++ piece) else None
