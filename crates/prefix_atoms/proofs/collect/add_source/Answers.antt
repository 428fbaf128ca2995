use Rattle.std.proofs.Common.{◌≡◌, ◌∙◌, ℕ, List, ap, arith, subst}
use Rattle.net_addr.specs.Addresses.{Block}
use Rattle.route_core.specs.Rows.{KeptTable, kept_in, listed, row_prefixes, rows_in}
use Rattle.route_core.specs.Tables.{table_prefixes}
use Rattle.route_core.proofs.RowLaws.{prefixes_of_rows}
use Rattle.prefix_atoms.specs.steps.Lists.{source_prefixes, AreUnseen, GainsPrefixes}
use Rattle.prefix_atoms.proofs.Gained.{gains_nothing, source_gains}
use Rattle.prefix_atoms.proofs.Unseen.{unseen_first}
use Rattle.prefix_atoms.proofs.collect.add_source.Goals as goal

pub loop-router-init : goal.loop-router-init
loop-router-init g c = record { gains = gains_nothing _; unseen = λ some. unseen_first _ _ _ (c.in_ok-unseen.ensures some) }

pub loop-router-preserved : goal.loop-router-preserved
loop-router-preserved g c =
    let kept : KeptTable = kept_in c.parts-table.result in
    let shared : c.parts-table.result.prefixes.now ≡ g.S.RouteSource.prefixes c.args.source.now =
    ap (λ (k : KeptTable). k.prefixes) c.parts-table.ensures.parts ∙ c.table.ensures.prefixes in
    let own : row_prefixes kept.prefixes (rows_in kept) ≡ table_prefixes (listed c.table.result.now) =
    prefixes_of_rows kept.prefixes kept.entries (rows_in kept) ∙ ap (λ (k : KeptTable). table_prefixes (listed k)) c.parts-table.ensures.parts in
    record {
      gains = source_gains (g.S.RouteSource.table c.args.source.now) c.loop-router.router (listed c.table.result.now) _ _ _ c.table.ensures.entries
          c.loop-router.invariant.gains
          (subst (GainsPrefixes c.loop-router.prefixes.items c.add_table.new.prefixes.items) own c.in_ok-unseen-2.ensures.gains);
      unseen = λ _. subst (λ (ps : List Block). AreUnseen ps c.in_ok-unseen-2.unseen.items c.add_table.new.prefixes.items) shared
          c.in_ok-unseen-2.ensures.unseen;
    }

pub returns : goal.returns
returns g c =
    let all : c.loop-router.router ≡ g.S.RouteSource.routers c.args.source.now =
    omega (arith, c.loop-router-test.false, c.loop-router.auto.router-end, c.routers-router-end.ensures.count) in
    subst (λ (n : ℕ). GainsPrefixes c.args.prefixes.now.items c.loop-router.prefixes.items (source_prefixes (g.S.RouteSource.table c.args.source.now) n)) all
    c.loop-router.invariant.gains
