use Rattle.std.proofs.Common.{◌≡◌}
use Rattle.shown_tables.specs.steps.Places.{placed_below}
use Rattle.shown_tables.proofs.places.in_table_order.Given as goal

abbrev pub invariant-loop-place : goal.invariant-loop-place
invariant-loop-place l = l.all.items ≡ placed_below l.igp l.prefixes l.place
