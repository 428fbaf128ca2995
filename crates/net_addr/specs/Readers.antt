-- What readers of words answer.
use Rattle.std.specs.Prelude.{Option, Some, None}

-- a reader answers what the word stands for, and None exactly where it stands for nothing
abbrev pub Reads : {T : Type 0} → Option T → (T → Type 0) → Type 0
Reads {T} None StandsFor = (x : T) → ¬ (StandsFor x)
Reads (Some x) StandsFor = StandsFor x
