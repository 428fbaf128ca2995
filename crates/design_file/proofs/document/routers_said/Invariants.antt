use Rattle.std.proofs.Common.{◌≡◌, ◌++◌, All}
use Rattle.toml.specs.View.{members_view}
use Rattle.design_file.specs.Designs.{InterfacesAscend, routers_said}
use Rattle.design_file.specs.declared.design.DesignRouter.{DesignRouter}
use Rattle.design_file.proofs.document.routers_said.Given as goal

abbrev pub invariant-routers : goal.invariant-routers
invariant-routers l =
    (goal.iterator-routers).can_next l.name-iterator ×
    (goal.iterator-routers).is_finite l.name-iterator ×
    (l.all.items ++ routers_said (members_view l.name-iterator) ≡ routers_said (members_view l.table.entries)) ×
    All (λ (r : DesignRouter). InterfacesAscend r.interfaces) l.all.items
