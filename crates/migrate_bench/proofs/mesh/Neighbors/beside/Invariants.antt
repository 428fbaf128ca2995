use Rattle.std.proofs.Common.{◌<◌, ◌≤◌, ℕ, vec_len, length, get_or}
use Rattle.migrate_bench.proofs.mesh.Neighbors.beside.Given as goal

abbrev pub invariant-loop-v : goal.invariant-loop-v
invariant-loop-v l = record {
  short : vec_len l.all ≤ l.v;
  within : (k : ℕ) → k < length l.all.items → get_or l.all.items k 0 < l.count;
}
