use Rattle.std.proofs.Common.{◌≡◌, length, arith}
use Rattle.std.proofs.lemmas.Grind.{common_steps}
use Rattle.migrate_bench.proofs.RowLaws.{rows_more}
use Rattle.migrate_bench.proofs.mesh.Mesh.new.Goals as goal

pub loop-u-preserved : goal.loop-u-preserved
loop-u-preserved c =
    let before = c.loop-u.invariant in
    let rows = c.loop-u.rows.items in
    let row = c.in_ok-beside.field-0 in
    let u = c.loop-u.u in
    let long : length rows ≡ u = grind (arith, common_steps) in
    record {
      whole = let longer = c.in_ok-push.ensures.len in let whole = before.whole in omega (arith, longer, whole);
      row = rw c.in_ok-push.ensures.items (rows_more c.args.count rows row u long before.row c.in_ok-beside.ensures);
    }
