use Rattle.std.proofs.Common.{◌≡◌, ◌≤◌, ◌-◌, max, take, vec_len}
use Rattle.precedence_set.proofs.precedences.widen.Given as goal

abbrev pub invariant-loop-room : goal.invariant-loop-room
invariant-loop-room l = record {
  bound : vec_len l.room ≤ 1000000;
  sized : vec_len l.room ≤ max (vec_len l.fn.room) l.wanted;
  no_less : vec_len l.fn.room ≤ vec_len l.room;
  kept : take (vec_len l.fn.room) l.room.items ≡ l.fn.room.items;
}

abbrev pub decreases-loop-room : goal.decreases-loop-room
decreases-loop-room l = l.wanted - vec_len l.room
