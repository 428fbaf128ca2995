use Rattle.std.proofs.Common.{ℕ, Option, Result, ap, sym, ◌∙◌}
use Rattle.ios_lines.specs.declared.kind.ReadKind.{ReadKind}
use Rattle.ios_reader.specs.Routers.{Router}
use Rattle.ios_reader.specs.InterfacesAsRead.{cost_given, default_cost}
use Rattle.ios_reader.proofs.interface_read.ospf_cost.Goals as goal

pub returns-in-None : goal.returns-in-None
returns-in-None c =
    c.default_cost.ensures
    ∙ ap (λ (r : Router). default_cost r.reference c.args.name.now c.args.facts.now.bandwidth) c.router.view_is
    ∙ ap (λ (own : Option (Result ℕ ReadKind)). cost_given own (default_cost c.args.router.now.reference c.args.name.now c.args.facts.now.bandwidth))
    (sym c.in-None.is)
