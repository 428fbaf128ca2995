-- The faulty lines of a text, found by their faults in order.
use Rattle.std.specs.Prelude.{◌≡◌, ℕ, ◌+◌, ◌*◌, ◌≤◌, Bool, true, not, List, [], Option, Some, None, nat_eq, All, Contains, MatchOption}
use Rattle.std.specs.List.Sorted.{IsNonDecreasingBy}
use Rattle.ios_lines.specs.FaultOrder.{rank}
use Rattle.ios_lines.specs.declared.fault.Fault.{Fault}
use Rattle.ios_reader.specs.FaultyLines.{AreLeastOnLines}

-- the place of a fault among all that there may be: by its line, then by its kind, of which there are fewer than 16
abbrev pub order_of : Fault → ℕ
order_of f = f.line * 16 + rank f.kind

-- faults by their lines, and on each line by their kinds
abbrev pub AreFaultsInOrder : List Fault → Type 0
AreFaultsInOrder faults = IsNonDecreasingBy order_of faults

-- the fault is on another line than the one before it
abbrev pub is_further : Option Fault → Fault → Bool
is_further None fault = true
is_further (Some before) fault = not (nat_eq before.line fault.line)

-- of some faults the faulty lines are told, and this is the last of them
pub record AreToldUpTo (faults : List Fault) (before : Option Fault) (told : List Fault) : Type 0 where
  pub told_are : AreLeastOnLines faults told
  pub last : MatchOption before (faults ≡ []) (λ (last : Fault). Contains faults last × All (λ (f : Fault). order_of f ≤ order_of last) faults)
