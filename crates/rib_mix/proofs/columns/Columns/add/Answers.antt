use Rattle.rib_mix.proofs.ColumnLaws.{column_gained, more_columns}
use Rattle.rib_mix.proofs.columns.Columns.add.Goals as goal

pub invariant_of-self-2 : goal.invariant_of-self-2
invariant_of-self-2 c =
    more_columns c.self.inside.routers c.self.inside.all.items c.push.new.self.items c.args.cells.items c.args.self.now
    c.self.invariant c.self.view_is c.requires c.in_ok-push.ensures.items

pub returns : goal.returns
returns c =
    column_gained c.self.inside.routers c.self.inside.all.items c.push.new.self.items c.args.cells.items c.args.self.now
    c.self.view_is c.in_ok-push.ensures.items
