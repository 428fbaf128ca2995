use Rattle.std.proofs.Common.{ℕ, ◌<◌, length, ap, subst, arith, below_more}
use Rattle.std.proofs.lemmas.Bool.{OnTrue_at}
use Rattle.net_model.specs.Network.{Network}
use Rattle.igp_theory.specs.Forwarding.{MustForward}
use Rattle.loop_finder.specs.Mixes.{mix_of, sample_of}
use Rattle.loop_finder.specs.steps.ClassSteps.{Moves, SourceState, state_over}
use Rattle.loop_finder.proofs.ClassFacts.{all_moves}
use Rattle.loop_finder.proofs.class_steps.ClassSteps.first_stuck.Goals as goal

pub loop-router-preserved : goal.loop-router-preserved
loop-router-preserved g c =
    below_more (λ (v : ℕ). Moves (state_over g.O.RouteSource.table g.N.RouteSource.table c.args.self.now) v) c.loop-router.router c.loop-router.invariant
    c.if-is_stuck.ensures.moves

pub returns : goal.returns
returns g c u =
    let net = ap (λ (n : Network). length n) c.net.ensures in
    let own = ap (λ (x : SourceState g.row.O.Denot g.row.N.Denot). length x.mixture.net) c.self.view_is in
    let below : MustForward c.args.self.now.mixture.net (sample_of c.args.self.now.mixture.classes c.args.self.now.atom) u → u <
    c.loop-router.router = λ must.
    let router : u < length c.args.self.now.mixture.net = must.router in
    omega (arith, router, c.loop-router-test.false, c.routers-router-end.ensures.count, net, own) in
    (λ must. (c.loop-router.invariant u (below must)).0 must, λ must. (c.loop-router.invariant u (below must)).1 must)

pub returns-then-self : goal.returns-then-self
returns-then-self g c u =
    subst (λ (x : SourceState g.row.O.Denot g.row.N.Denot). Moves (state_over g.O.RouteSource.table g.N.RouteSource.table x) u) c.self.view_is
    (all_moves (record {
      mixture = mix_of g.O.RouteSource.table g.N.RouteSource.table c.self.inside.mixed.now;
      first = c.self.inside.first.now;
      last = c.self.inside.last.now;
      forwards = c.self.inside.forwards.now;
      atom = c.self.inside.atom;
    }) (OnTrue_at c.if-self.true c.self.invariant.moving) u)
