use Rattle.std.proofs.Common.{take, length, ◌+◌, ◌-◌, ◌≤◌, ◌≡◌}
use Rattle.std.specs.Vec.{vec_len, vec_capacity}
use Rattle.walk_core.specs.steps.Adding.{AddsNumbers, SomeLeadsTo}
use Rattle.walk_core.proofs.AddingLaws.{IsBelow}
use Rattle.walk_core.proofs.union.add_below.Given as goal

-- what was added so far, and the room for the rest
abbrev pub invariant-loop-number : goal.invariant-loop-number
invariant-loop-number l = AddsNumbers (SomeLeadsTo (IsBelow l.count) (take l.number-index l.list)) l.initial.numbers.items l.numbers.items
    × ((vec_len l.numbers + (length l.list - l.number-index) ≤ vec_capacity l.numbers) × (vec_capacity l.numbers ≡ vec_capacity l.initial.numbers))
