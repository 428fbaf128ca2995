-- Faulty lines, and their order.
use Rattle.std.specs.Prelude.{ℕ, Bool, ◌&&◌, ◌||◌, List, [], ◌∷◌, Option, Some, None, nat_eq, nat_lt, if◌then◌else◌}
use Rattle.ios_lines.specs.declared.kind.ReadKind.{ReadKind}
use Rattle.ios_lines.specs.declared.kind.ReadKind.TheVariants.{NoHostname, NoEnd, SecondProcess, Unsupported, LoopbackMask, BadNet, NoBandwidth, BadAddress}
use Rattle.ios_lines.specs.declared.kind.ReadKind.TheVariants.{BadMask, BadCost, BadArea, BadLevel, BadMetric, BadDistance, DistanceClash}
use Rattle.ios_lines.specs.declared.fault.Fault.{Fault}

-- a line is faulty with a kind
abbrev pub fault_at : ℕ → ReadKind → Fault
fault_at line kind = record { line = line; kind = kind }

-- a line is faulty with this kind, where it has one
abbrev pub faults_at : ℕ → Option ReadKind → List Fault
faults_at line None = []
faults_at line (Some kind) = fault_at line kind ∷ []

-- a line is faulty with this kind, where the test holds
abbrev pub faults_if : Bool → ℕ → ReadKind → List Fault
faults_if faulty line kind = if faulty then fault_at line kind ∷ [] else []

-- the place of a kind in the order of kinds
abbrev pub rank : ReadKind → ℕ
rank NoHostname = 1
rank NoEnd = 2
rank BadAddress = 3
rank BadMask = 4
rank BadCost = 5
rank BadArea = 6
rank SecondProcess = 7
rank Unsupported = 8
rank LoopbackMask = 9
rank BadNet = 10
rank BadLevel = 11
rank BadMetric = 12
rank BadDistance = 13
rank DistanceClash = 14
rank NoBandwidth = 15

-- the first fault comes on a lesser line than the second, or on the same line with a lesser kind
abbrev pub is_before : Fault → Fault → Bool
is_before f g = nat_lt f.line g.line || (nat_eq f.line g.line && nat_lt (rank f.kind) (rank g.kind))

-- the lesser of two faults, where there is one
abbrev pub lesser_fault : Option Fault → Option Fault → Option Fault
lesser_fault None g = g
lesser_fault (Some f) None = Some f
lesser_fault (Some f) (Some g) = if is_before g f then Some g else Some f

-- the least of some faults
abbrev pub least_fault : List Fault → Option Fault
least_fault [] = None
least_fault (f ∷ fs) = lesser_fault (Some f) (least_fault fs)
