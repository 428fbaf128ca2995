use Rattle.std.proofs.Common.{IsUtf8, subst, sym}
use Rattle.net_model.specs.declared.interface.Interface.{Interface}
use Rattle.design_writer.proofs.tables.interfaces_table.Goals as goal

pub add_interface-requires : goal.add_interface-requires
add_interface-requires c =
    subst (λ (i : Interface). IsUtf8 i.name) (sym c.interface-item.is)
    (c.requires c.loop-interface.interface-index c.interface-item.result c.loop-interface-test.true)
