use Rattle.std.proofs.Common.{All, IsUtf8, subst, sym}
use Rattle.net_model.specs.Configuration.{Configuration}
use Rattle.net_model.specs.declared.interface.Interface.{Interface}
use Rattle.design_writer.proofs.tables.add_router.Goals as goal

pub interfaces_table-requires : goal.interfaces_table-requires
interfaces_table-requires c =
    subst (All (λ (i : Interface). IsUtf8 i.name)) (sym c.as_slice.ensures)
    (subst (λ (config : Configuration). All (λ (i : Interface). IsUtf8 i.name) config.interfaces) (sym c.config.view_is) c.requires.interfaces)
