use Rattle.std.proofs.Common.{ℕ, List}
use Rattle.std.specs.List.{Any}
use Rattle.std.proofs.lemmas.Result.{IfOk-weaker}
use Rattle.route_tables.proofs.ListFacts.{exactly_same}
use Rattle.route_tables.specs.Lists.{Exactly}
use Rattle.isis_routes.specs.steps.Homes.{IsHomeOf}
use Rattle.isis_routes.specs.declared.homes.Home.{Home}
use Rattle.isis_routes.proofs.HomeFacts.{begins_with}
use Rattle.isis_routes.proofs.homes.routers_at.Goals as goal

pub returns : goal.returns
returns c =
    let p = c.args.dest in
    let run = c.homes_from-run.result.now in
    let among : List Home → ℕ → Type 0 = λ homes u. Any (λ (h : Home). IsHomeOf p h u) homes in
    IfOk-weaker c.routers_among.result (λ routers. Exactly (among run) routers.items)
    (λ routers. Exactly (among c.args.homes.now) routers.items)
    (λ routers exact. exactly_same routers.items (among run) (among c.args.homes.now) exact
    (λ u. begins_with p c.args.homes.now run c.base.result u c.base.ensures.value c.homes_from-run.ensures))
    c.routers_among.ensures
