use Rattle.std.proofs.Common.{◌≡◌, ◌↔◌, Option, Some, refl, subst, sym}
use Rattle.std.proofs.lemmas.Bool.{false≢true}
use Rattle.std.proofs.lemmas.Option.{none-some}
use Rattle.ospf_routes.proofs.IntraFacts.{part_for, some_part}
use Rattle.ospf_routes.proofs.SummaryFacts.{subnet_alone, subnet_costs, subnet_summary_some}
use Rattle.ospf_routes.specs.steps.Summarized.{IsAreaSubnet}
use Rattle.ospf_routes.specs.declared.area_route.AreaRoute.{AreaRoute}
use Rattle.ospf_routes.proofs.area_boundary.subnet_summary.Goals as goal

pub part_cost-requires-clause-part : goal.part_cost-requires-clause-part
part_cost-requires-clause-part c =
    some_part (part_for c.args.domain.now c.args.destination.now c.args.part.now c.requires.destination c.requires.part)

pub returns-in_err-asks : goal.returns-in_err-asks
returns-in_err-asks c =
    let net = c.args.domain.now.net in
    let d = c.args.destination.now in
    let part = part_for c.args.domain.now d c.args.part.now c.requires.destination c.requires.part in
    subst (λ (found : Option AreaRoute). (r : AreaRoute) → (found ≡ Some r) ↔ ((r.at ≡ c.args.b) × IsAreaSubnet net d.dest c.args.part.now.area r))
    (sym c.from_residual.ensures)
    (λ r. (λ no. absurd (none-some r no), λ is. absurd (none-some r.asks ((c.in_err-asks.ensures d.dest part r.asks).1 (subnet_costs is.0 is.1)))))

pub returns-then-is_component : goal.returns-then-is_component
returns-then-is_component c r = (λ no. absurd (none-some r no), λ is. absurd (subnet_alone is.0 is.1 (c.if-is_component.ensures.0 refl)))

pub returns : goal.returns
returns c =
    let net = c.args.domain.now.net in
    let d = c.args.destination.now in
    let part = part_for c.args.domain.now d c.args.part.now c.requires.destination c.requires.part in
    subnet_summary_some net d.dest c.args.part.now.area c.args.b c.in_ok-asks.asks c.requires.border
    ((c.in_ok-asks.ensures d.dest part c.in_ok-asks.asks).0 refl) (λ is. false≢true (c.if-is_component.ensures.1 is))
