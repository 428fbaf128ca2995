use Rattle.std.proofs.Common.{◌≡◌, ◌<◌, ℕ, List, length, get_or, arith, ap, sym, ◌∙◌, subst}
use Rattle.std.proofs.Math.ListN.{length-set}
use Rattle.igp_theory.specs.Loops.{IsTag}
use Rattle.igp_theory.specs.Migrations.{Migration, started}
use Rattle.order_core.specs.Turns.{routers_of}
use Rattle.order_core.specs.declared.turn.Tag.TheVariants as tag
use Rattle.order_core.specs.declared.turn.Turn.{Turn}
use Rattle.rib_mix.specs.Mixture.{migration_of}
use Rattle.igp_theory.specs.Phases.{State, state_in}
use Rattle.prefix_atoms.specs.Classes.{Classes, IsInClass}
use Rattle.loop_finder.specs.steps.Rings.{next_in}
use Rattle.loop_finder.specs.steps.Starts.{StepsFrom}
use Rattle.loop_finder.proofs.Started.{around_places, router_below, same_routers, step_at, tag_from, tags_more}
use Rattle.loop_finder.proofs.retag.tag_from_start.Goals as goal

pub bounds-start-router : goal.bounds-start-router
bounds-start-router g c =
    let below = router_below (migration_of g.O.RouteSource.table g.N.RouteSource.table c.args.mixed.now) (state_in c.args.start.now) c.args.address
    c.loop-place.place (routers_of c.args.ring.now.items) c.loop-place.ring.items c.index.result.now c.loop-place.invariant.routers c.requires.steps
    (omega (arith, c.loop-place-test.true, c.loop-place.invariant.many)) in
    omega (arith, below, c.requires.start, ap (λ (t : Turn). t.router) c.index.ensures)

pub start_tag-tag-requires-clause-router : goal.start_tag-tag-requires-clause-router
start_tag-tag-requires-clause-router g c =
    let below = router_below (migration_of g.O.RouteSource.table g.N.RouteSource.table c.args.mixed.now) (state_in c.args.start.now) c.args.address
    c.loop-place.place (routers_of c.args.ring.now.items) c.loop-place.ring.items c.index.result.now c.loop-place.invariant.routers c.requires.steps
    (omega (arith, c.loop-place-test.true, c.loop-place.invariant.many)) in
    omega (arith, below, ap (λ (t : Turn). t.router) c.index.ensures)

pub loop-place-preserved : goal.loop-place-preserved
loop-place-preserved g c =
    let move : Migration = migration_of g.O.RouteSource.table g.N.RouteSource.table c.args.mixed.now in
    let start : State = state_in c.args.start.now in
    let within : c.loop-place.place < length c.loop-place.ring.items = omega (arith, c.loop-place-test.true, c.loop-place.invariant.many) in
    let turn : Turn = record { router = c.index.result.now.router; tag = c.start_tag-tag.result } in
    let next : c.turn_after-next.result ≡ next_in (routers_of c.args.ring.now.items) c.loop-place.place =
    subst (λ (us : List ℕ). c.turn_after-next.result ≡ next_in us c.loop-place.place) c.loop-place.invariant.routers c.turn_after-next.ensures in
    let step : StepsFrom move start c.args.address c.index.result.now.router c.turn_after-next.result =
    subst (λ (n : ℕ). StepsFrom move start c.args.address c.index.result.now.router n) (sym c.turn_after-next.ensures)
    (subst (λ (t : Turn). StepsFrom move start c.args.address t.router (next_in (routers_of c.loop-place.ring.items) c.loop-place.place))
    (sym c.index.ensures) (step_at move start c.args.address c.loop-place.place (routers_of c.args.ring.now.items) c.loop-place.ring.items
    c.index.result.now c.loop-place.invariant.routers c.requires.steps within)) in
    record {
      routers = same_routers c.loop-place.ring.items c.loop-place.place turn c.index.result.now within (ap (λ (t : Turn). t.router) c.index.ensures)
          ∙ c.loop-place.invariant.routers;
      tags = tags_more (started start move) c.args.address c.loop-place.place (routers_of c.args.ring.now.items) c.loop-place.ring.items turn within
          (subst (λ (n : ℕ). IsTag (started start move) c.args.address turn n) next (tag_from move start c.args.address c.turn_after-next.result turn
          (c.start_tag-tag.ensures c.args.address (subst (λ (l : Classes). IsInClass l c.of-atom.result c.args.address) c.atoms.ensures.atoms
          c.of-atom.ensures) step))) c.loop-place.invariant.tags;
      capacity = c.loop-place.invariant.capacity;
      many = length-set c.loop-place.ring.items c.loop-place.place turn ∙ c.loop-place.invariant.many;
    }

pub returns-clause-tags : goal.returns-clause-tags
returns-clause-tags g c =
    around_places (λ (turn : Turn) (next : ℕ). IsTag (started (state_in c.args.start.now)
    (migration_of g.O.RouteSource.table g.N.RouteSource.table c.args.mixed.now))
    c.args.address turn next) (record { router = 0; tag = tag.Old }) c.loop-place.ring.items (λ k within.
    subst (λ (us : List ℕ). IsTag (started (state_in c.args.start.now)
    (migration_of g.O.RouteSource.table g.N.RouteSource.table c.args.mixed.now)) c.args.address
    (get_or c.loop-place.ring.items k (record { router = 0; tag = tag.Old })) (next_in us k)) (sym c.loop-place.invariant.routers)
    (c.loop-place.invariant.tags (record { router = 0; tag = tag.Old }) k (omega (arith, within, c.loop-place-test.false, c.loop-place.invariant.many))))
