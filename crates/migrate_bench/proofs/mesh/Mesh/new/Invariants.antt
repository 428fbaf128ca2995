use Rattle.std.proofs.Common.{◌≡◌, ◌<◌, ℕ, [], get_or, vec_len}
use Rattle.migrate_bench.specs.Rows.{ListsRouters}
use Rattle.migrate_bench.proofs.mesh.Mesh.new.Given as goal

abbrev pub invariant-loop-u : goal.invariant-loop-u
invariant-loop-u l = record {
  whole : vec_len l.rows ≡ l.u;
  row : (v : ℕ) → v < l.u → ListsRouters l.count (get_or l.rows.items v []);
}
