use Rattle.std.proofs.Common.{◌≡◌, length}
use Rattle.rib_mix.specs.steps.OwnCells.{AreKindRows}
use Rattle.rib_mix.proofs.mixed.columns_of.Given as goal

abbrev pub invariant-loop-sort : goal.invariant-loop-sort
invariant-loop-sort l = record {
  count : length l.columns ≡ length l.net;
  each : AreKindRows (record { spots = l.shared.spots.now; homes = l.shared.homes.now }) l.all.items
      l.shared.sorts.now l.sort l.columns;
}
