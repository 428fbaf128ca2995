use Rattle.std.proofs.Common.{◌≡◌, ℕ, Some, length, slice_get}
use Rattle.rib_mix.specs.declared.own.OfRouter.{OfRouter}
use Rattle.rib_mix.specs.steps.OwnCells.{AreEachOwn}
use Rattle.rib_mix.proofs.own.all_own.Given as goal

abbrev pub invariant-loop-router : goal.invariant-loop-router
invariant-loop-router l = record {
  count : length l.all.items ≡ l.router;
  each : AreEachOwn l.net l.tables l.all.items;
  flags : (u : ℕ) (own : OfRouter) → slice_get l.all.items u ≡ Some own → slice_get l.begins u ≡ Some own.begins;
}
