use Rattle.std.proofs.Common.{◌≡◌, [], Some, arith, subst, sym, refl}
use Rattle.std.proofs.lemmas.Grind.{common_steps}
use Rattle.toml.specs.View.{members_view}
use Rattle.design_file.specs.Designs.{InterfacesAscend, interface_said, interfaces_said}
use Rattle.design_file.specs.Documents.{entries_of}
use Rattle.design_file.specs.declared.design.DesignInterface.{DesignInterface}
use Rattle.design_file.proofs.NameOrder.{each_ascends}
use Rattle.design_file.proofs.document.interfaces_said.Goals as goal

pub returns-clause-ascending : goal.returns-clause-ascending
returns-clause-ascending c =
    let entries = c.args.table.now.entries in
    let (can, finite, same) = c.interfaces.invariant in
    let none : c.interfaces.name-iterator ≡ [] = grind (arith, common_steps) in
    let said : c.from_vec.result ≡ interfaces_said (members_view entries) = grind (arith, common_steps) in
    subst InterfacesAscend (sym said)
    (each_ascends (λ (i : DesignInterface). i.name) (λ name value. interface_said name (entries_of (Some value))) (λ key value. refl) entries
    c.iter-name-items.ensures.ordered)
