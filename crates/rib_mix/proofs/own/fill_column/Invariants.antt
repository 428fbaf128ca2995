use Rattle.std.proofs.Common.{◌≡◌, ◌≤◌, ℕ, get_or, length}
use Rattle.rib_mix.specs.Cells.{no_cell}
use Rattle.rib_mix.specs.steps.OwnCells.{AreEntryCells}
use Rattle.rib_mix.proofs.OwnLaws.{AreKindsBefore}
use Rattle.rib_mix.proofs.own.fill_column.Given as goal

abbrev pub invariant-loop-router : goal.invariant-loop-router
invariant-loop-router l = record {
  count : length l.column ≡ length l.all;
  cells : AreEntryCells l.all l.spots l.fn.column l.router l.column;
  rest : (u : ℕ) → l.router ≤ u → get_or l.column u no_cell ≡ get_or l.fn.column u no_cell;
  kinds : AreKindsBefore l.all l.spots l.router l.kinds;
}
