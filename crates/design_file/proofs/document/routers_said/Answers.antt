use Rattle.std.proofs.Common.{◌≡◌, [], ◌∷◌, Some, arith, subst, sym, refl}
use Rattle.std.proofs.lemmas.Grind.{common_steps}
use Rattle.std.proofs.lemmas.List.Elements.{All-push}
use Rattle.toml.proofs.Views.{Entry}
use Rattle.toml.specs.View.{members_view}
use Rattle.design_file.specs.Designs.{InterfacesAscend, RoutersAscend, router_said, routers_said}
use Rattle.design_file.specs.Documents.{entries_of}
use Rattle.design_file.specs.declared.design.DesignRouter.{DesignRouter}
use Rattle.design_file.proofs.NameOrder.{each_ascends, each_step}
use Rattle.design_file.proofs.document.routers_said.Goals as goal

pub returns-clause-in_order : goal.returns-clause-in_order
returns-clause-in_order c =
    let entries = c.args.table.now.entries in
    let (can, finite, same, ascend) = c.routers.invariant in
    let none : c.routers.name-iterator ≡ [] = grind (arith, common_steps) in
    let said : c.from_vec.result ≡ routers_said (members_view entries) = grind (arith, common_steps) in
    record {
      ascending = subst RoutersAscend (sym said)
          (each_ascends (λ (r : DesignRouter). r.name) (λ name value. router_said name (entries_of (Some value))) (λ key value. refl) entries
          c.iter-name-items.ensures.ordered);
      interfaces = rw c.from_vec.ensures ascend;
    }

pub routers-preserved : goal.routers-preserved
routers-preserved c =
    let (can, finite, same, ascend) = c.routers.invariant in
    let e : Entry = (c.in-Some.name.now, c.in-Some.value.now) in
    let iter : c.routers.name-iterator ≡ e ∷ c.next.new.self = grind (arith, common_steps) in
    let one = c.in_ok-router_said.field-0 in
    let step = each_step (λ name value. router_said name (entries_of (Some value))) c.routers.all.items _ c.routers.name-iterator c.next.new.self e
    one iter (rw c.as_str.ensures.value at c.in_ok-router_said.ensures.said) same in (
      tt,
      tt,
      rw c.in_ok-push.ensures.items step,
      rw c.in_ok-push.ensures.items (All-push (λ (r : DesignRouter). InterfacesAscend r.interfaces) c.routers.all.items one ascend
          c.in_ok-router_said.ensures.ascending),
    )
