use Rattle.std.proofs.lemmas.Grind.{common_steps}
use Rattle.std.proofs.Common.{◌≡◌, ◌∙◌, ℕ, List, ap, arith}
use Rattle.net_addr.specs.Addresses.{Block}
use Rattle.route_core.specs.Rows.{IsTable, KeptTable, kept_in, listed}
use Rattle.route_core.specs.declared.entry.Entry.{Entry}
use Rattle.route_core.specs.declared.table.TableParts.{TableParts}
use Rattle.rib_mix.specs.Sites.{table_of}
use Rattle.rib_mix.specs.steps.Sites.{IsTableOver}
use Rattle.rib_mix.specs.declared.both_tables.BothTables.{BothTables}
use Rattle.prefix_atoms.proofs.Pushed.{count_more, each_more}
use Rattle.rib_mix.proofs.both_tables.tables_of.Goals as goal

-- what the parts of a table say
over_from : (parts : TableParts) (kept : KeptTable) (prefixes : List Block) → kept_in parts ≡ kept → IsTable kept → kept.prefixes ≡ prefixes
    → IsTableOver prefixes parts
over_from parts kept prefixes is table shared = grind (arith, common_steps)

pub loop-router-preserved : goal.loop-router-preserved
loop-router-preserved g c =
    let both : BothTables = record { old = c.parts-old.result; new = c.parts-new.result } in
    let olds : ℕ → List (Block × Entry) = g.O.RouteSource.table c.args.old.now in
    let news : ℕ → List (Block × Entry) = g.N.RouteSource.table c.args.new.now in
    record {
      count = count_more c.loop-router.tables.items c.push.new.self.items both c.loop-router.router c.loop-router.invariant.count c.in_ok-push.ensures.items;
      olds = each_more (λ (u : ℕ) (one : BothTables). table_of one.old ≡ olds u) c.loop-router.tables.items c.push.new.self.items both c.loop-router.router
          c.loop-router.invariant.count c.loop-router.invariant.olds c.in_ok-push.ensures.items
          (ap listed c.parts-old.ensures.parts ∙ c.table.ensures.entries);
      news = each_more (λ (u : ℕ) (one : BothTables). table_of one.new ≡ news u) c.loop-router.tables.items c.push.new.self.items both c.loop-router.router
          c.loop-router.invariant.count c.loop-router.invariant.news c.in_ok-push.ensures.items
          (ap listed c.parts-new.ensures.parts ∙ c.table-in-loop-router.ensures.entries);
      old_parts = each_more (λ (u : ℕ) (one : BothTables). IsTableOver (g.O.RouteSource.prefixes c.args.old.now) one.old) c.loop-router.tables.items
          c.push.new.self.items both c.loop-router.router c.loop-router.invariant.count c.loop-router.invariant.old_parts c.in_ok-push.ensures.items
          (over_from c.parts-old.result _ _ c.parts-old.ensures.parts c.parts-old.ensures.table c.table.ensures.prefixes);
      new_parts = each_more (λ (u : ℕ) (one : BothTables). IsTableOver (g.N.RouteSource.prefixes c.args.new.now) one.new) c.loop-router.tables.items
          c.push.new.self.items both c.loop-router.router c.loop-router.invariant.count c.loop-router.invariant.new_parts c.in_ok-push.ensures.items
          (over_from c.parts-new.result _ _ c.parts-new.ensures.parts c.parts-new.ensures.table c.table-in-loop-router.ensures.prefixes);
    }

pub returns-clause-parts : goal.returns-clause-parts
returns-clause-parts g c = record {
  old_prefixes = g.O.RouteSource.prefixes c.args.old.now;
  new_prefixes = g.N.RouteSource.prefixes c.args.new.now;
  count = omega (arith, c.loop-router.invariant.count, c.loop-router-test.false, c.loop-router.auto.router-end, c.routers-routers.ensures.count);
  olds = c.loop-router.invariant.old_parts;
  news = c.loop-router.invariant.new_parts;
}
