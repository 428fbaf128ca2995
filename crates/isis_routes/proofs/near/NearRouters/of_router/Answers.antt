use Rattle.std.proofs.Common.{ℕ, get_or, sym, subst}
use Rattle.std.specs.List.{Any}
use Rattle.net_addr.proofs.SomeElement.{any_in, any_of}
use Rattle.route_tables.proofs.ListFacts.{adds_at, adds_end, adds_same, exactly_added}
use Rattle.isis_routes.specs.steps.Near.{IsNear, IsNearOfBoth}
use Rattle.isis_routes.specs.steps.Routing.{RunsBothLevels}
use Rattle.isis_routes.proofs.Announced.{listed_runs, runs_within}
use Rattle.isis_routes.proofs.near.NearRouters.of_router.Goals as goal

pub near_router-requires : goal.near_router-requires
near_router-requires c =
    let net = c.args.domain.now.net in
    let given = c.both-router-items.result.now in
    let i = c.loop-router.router-index in
    runs_within net (get_or given i 0) (listed_runs net given i (λ u. (c.both-router-items.ensures u).0) c.loop-router-test.true)

pub loop-router-preserved : goal.loop-router-preserved
loop-router-preserved c =
    adds_at (λ (u b : ℕ). IsNear c.args.domain.now.net c.args.to b u) c.new-routers.result.items c.loop-router.routers.items
    c.push_option.new.all.items c.both-router-items.result.now c.loop-router.router-index 0 c.near_router.result c.loop-router-test.true
    c.loop-router.invariant c.in_ok-push_option.ensures.ok c.near_router.ensures

pub returns : goal.returns
returns c =
    let net = c.args.domain.now.net in
    let h = c.args.to in
    let given = c.both-router-items.result.now in
    let Gives : ℕ → ℕ → Type 0 = λ u b. IsNear net h b u in
    let first = c.new-routers.result.items in
    let all = c.loop-router.routers.items in
    exactly_added first all (IsNearOfBoth net h) c.new-routers.ensures.items
    (adds_same first all (λ (u : ℕ). Any (Gives u) given) (IsNearOfBoth net h)
    (adds_end Gives first all given c.loop-router.router-index c.loop-router-test.false c.loop-router.invariant)
    (λ u. (
      λ any.
          let f = any_in (Gives u) given any in
          record {
            both = subst (RunsBothLevels net) (sym f.holds.this) ((c.both-router-items.ensures f.item).0 f.among);
            near = subst (λ (b : ℕ). IsNear net h b u) (sym f.holds.this) f.holds;
          },
      λ is. any_of (Gives u) given u ((c.both-router-items.ensures u).1 is.both) is.near,
    )))
