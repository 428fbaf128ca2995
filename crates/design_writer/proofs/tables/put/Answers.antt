use Rattle.std.proofs.Common.{ap, ◌∙◌}
use Rattle.toml.specs.View.{members_view, table_view, view}
use Rattle.design_writer.specs.CostTables.{put_member}
use Rattle.design_writer.proofs.MemberPuts.{insert_puts}
use Rattle.design_writer.proofs.tables.put.Goals as goal

pub returns : goal.returns
returns c =
    ap members_view c.in_ok-insert.ensures.entries ∙ insert_puts c.in_ok-key.key c.args.value c.args.table.now.entries
    ∙ ap (λ k. put_member k (view c.args.value) (table_view c.args.table.now)) c.in_ok-key.ensures.ok
