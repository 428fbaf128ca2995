use Rattle.std.proofs.Common.{◌≡◌, ℕ, List, length, slice_get, Some}
use Rattle.net_addr.specs.Addresses.{Block}
use Rattle.rib_mix.specs.Rows.{AreSubnets}
use Rattle.rib_mix.proofs.mixed.all_subnets.Given as goal

abbrev pub invariant-loop-router : goal.invariant-loop-router
invariant-loop-router l = record {
  count : length l.all.items ≡ l.router;
  each : (u : ℕ) (ps : List Block) → slice_get l.all.items u ≡ Some ps → AreSubnets l.net u ps;
}
