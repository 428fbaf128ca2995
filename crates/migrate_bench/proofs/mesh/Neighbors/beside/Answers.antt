use Rattle.std.proofs.Common.{◌≡◌, ◌+◌, [], ◌∷◌, ◌++◌, ℕ, ap, ◌∙◌, arith, Vec, Global, vec_len}
use Rattle.migrate_bench.proofs.RowLaws.{within_grows}
use Rattle.migrate_bench.proofs.mesh.Neighbors.beside.Goals as goal
use Rattle.migrate_bench.proofs.mesh.Neighbors.beside.Goals.{then-joins+in_ok-push, else-joins}

pub loop-v-preserved : goal.loop-v-preserved
loop-v-preserved c =
    let before = c.loop-v.invariant in
    let row = c.loop-v.all.items in
    let v = c.loop-v.v in
    let items = λ (all : Vec ℕ Global). all.items in
    let len = λ (all : Vec ℕ Global). vec_len all in
    elim c.if-joins.branch [
      | then-joins+in_ok-push w ↦
          let e : c.if-joins.all.items ≡ row ++ v ∷ [] = ap items w.all-is ∙ w.in_ok-push.ensures.items in
          let longer : vec_len c.if-joins.all ≡ vec_len c.loop-v.all + 1 =
          ap len w.all-is ∙ w.in_ok-push.ensures.len
          in
          record {
            short = let short = before.short in omega (arith, longer, short);
            within = rw e (within_grows row v c.args.count c.loop-v-test.true before.within);
          }
      | else-joins w ↦
          let e : c.if-joins.all.items ≡ row = ap items w.all-is in
          let same : vec_len c.if-joins.all ≡ vec_len c.loop-v.all = ap len w.all-is in
          record {
            short = let short = before.short in omega (arith, same, short);
            within = rw e before.within;
          }
    ]
