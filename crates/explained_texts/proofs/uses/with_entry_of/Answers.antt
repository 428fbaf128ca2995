use Rattle.std.proofs.Common.{◌≡◌, ◌++◌, IfOk, length, subst}
use Rattle.net_model.specs.RouterNames.{names_of}
use Rattle.printed_lines.specs.Words.{spaced}
use Rattle.route_core.specs.Rows.{listed}
use Rattle.route_core.specs.declared.entry.Entry.{Entry}
use Rattle.explained_texts.specs.UseWords.{action_words}
use Rattle.explained_texts.proofs.LineParts.{entry_hops, entry_read}
use Rattle.explained_texts.proofs.uses.with_entry_of.Goals as goal

pub with_entry-requires : goal.with_entry-requires
with_entry-requires g c =
    entry_hops (g.S.RouteSource.routers c.args.source.now) (length c.args.net.now) c.args.router c.args.place
    (g.S.RouteSource.table c.args.source.now) (g.S.RouteSource.linked c.args.source.now) (listed c.table.result.now)
    c.routers-routers.ensures.lawful c.requires.routers c.requires.router c.table.ensures.entries c.entry.ensures.0 c.entry.result.now
    c.entry.ensures.1

pub returns : goal.returns
returns g c =
    subst (λ (e : Entry). IfOk c.with_entry.result (λ longer. longer ≡ c.args.line ++ spaced (action_words (names_of c.args.net.now) e)))
    (entry_read (listed c.table.result.now) (g.S.RouteSource.table c.args.source.now c.args.router) c.args.place c.entry.ensures.0
    c.entry.result.now c.table.ensures.entries c.entry.ensures.1) c.with_entry.ensures
