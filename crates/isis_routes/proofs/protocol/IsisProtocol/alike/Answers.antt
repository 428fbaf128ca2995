use Rattle.std.proofs.Common.{◌≡◌, ◌<◌, ℕ, List, get_or, Option, None, Some, subst}
use Rattle.std.specs.Option.{IfSome}
use Rattle.igp_theory.specs.Isis.{IsisEntry}
use Rattle.route_tables.specs.Entries.{AreAlikeFor}
use Rattle.route_tables.specs.Prefixes.{prefix_at}
use Rattle.isis_routes.specs.steps.Destinations.{isis_prefixes}
use Rattle.isis_routes.specs.steps.Isis.{IsisNetwork}
use Rattle.isis_routes.specs.steps.Lanes.{IsOfIsisLane}
use Rattle.isis_routes.proofs.AlikeFacts.{earlier_entries, named_found}
use Rattle.isis_routes.proofs.protocol.IsisProtocol.alike.Goals as goal

pub returns-clause-earlier : goal.returns-clause-earlier
returns-clause-earlier c =
    let k = c.args.place in
    named_found (λ (e : ℕ). e < k) c.as_slice.result.now k c.named_at.result
    (λ e same. (c.self.invariant.alike k e (subst (λ (l : List (Option ℕ)). get_or l k None ≡ Some e) c.as_slice.ensures.value same)).before)
    c.named_at.ensures

pub returns-clause-alike : goal.returns-clause-alike
returns-clause-alike c =
    let k = c.args.place in
    let net = c.self.inside.domain.net in
    let all = c.self.inside.destinations.items in
    subst (λ (isis : IsisNetwork). IfSome c.named_at.result (λ e. AreAlikeFor (IsOfIsisLane isis.domain.net c.args._lane) (IsisEntry isis.domain.net)
    (prefix_at (isis_prefixes isis.destinations) e) (prefix_at (isis_prefixes isis.destinations) k))) c.self.view_is
    (named_found (λ (e : ℕ). AreAlikeFor (IsOfIsisLane net c.args._lane) (IsisEntry net) (prefix_at (isis_prefixes all) e) (prefix_at (isis_prefixes all) k))
    c.as_slice.result.now k c.named_at.result
    (λ e same u x lane. earlier_entries net all k e c.self.invariant.known.announced
    (c.self.invariant.alike k e (subst (λ (l : List (Option ℕ)). get_or l k None ≡ Some e) c.as_slice.ensures.value same)) u x)
    c.named_at.ensures)
