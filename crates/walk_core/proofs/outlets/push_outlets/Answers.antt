use Rattle.std.proofs.Common.{◌≡◌, ◌++◌, ◌∷◌, [], ◌+◌, ◌<◌, ℕ, List, MatchOption, length, length-set, get_or, set, refl, sym, ap, subst, ◌∙◌, arith}
use Rattle.std.proofs.lemmas.List.{get_or_default}
use Rattle.walk_core.specs.steps.Flooding.{segment_at}
use Rattle.walk_core.specs.steps.SegmentWalks.{IsFarEnd, IsLan}
use Rattle.walk_core.specs.declared.outlets.Outlet.{Outlet}
use Rattle.walk_core.specs.declared.segment.Port.{Port}
use Rattle.walk_core.proofs.FloodLaws.{vertex_below}
use Rattle.walk_core.proofs.OutletLaws.{AreOutletsOnto, outlets_step}
use Rattle.walk_core.proofs.outlets.push_outlets.Goals as goal

pub index_mut-requires : goal.index_mut-requires
index_mut-requires c =
    let below = vertex_below c.args.segments.now c.args.place c.loop-port.port-index (length c.args.all.now.items) c.ports_at-ports.result.now
    c.requires.place c.ports_at-ports.ensures c.loop-port-test.true c.requires.segments in
    omega (arith, below, c.loop-port.invariant.long, c.loop-port.all.ok.0)

pub loop-port-preserved : goal.loop-port-preserved
loop-port-preserved c =
    let none : Port = record { vertex = 0; cost = 0 } in
    let segments : List (List Port) = c.args.segments.now in
    let given : List Port = c.ports_at-ports.result.now in
    let segment : List Port = segment_at segments c.args.place in
    let ports : given ≡ segment = c.ports_at-ports.ensures in
    let i : ℕ = c.loop-port.port-index in
    let port : Port = get_or given i none in
    let within : i < length segment = omega (arith, c.loop-port-test.true, ap length ports) in
    let at : (q : Port) → get_or segment i q ≡ port =
    λ q. ap (λ (l : List Port). get_or l i q) (sym ports) ∙ get_or_default given i q none c.loop-port-test.true in
    let all : List (List Outlet) = c.loop-port.all.items in
    let below : port.vertex < length all =
    omega (
      arith,
      vertex_below segments c.args.place i (length c.args.all.now.items) given c.requires.place ports c.loop-port-test.true c.requires.segments,
      c.loop-port.invariant.long,
    ) in
    let outlet : Outlet = record { place = c.args.place; cost = port.cost; to = c.far_end.result } in
    let pushed : c.push.new.self ≡ get_or all port.vertex [] ++ outlet ∷ [] =
    c.in_ok-push.ensures
    ∙ ap (λ (l : List Outlet). l ++ outlet ∷ []) (c.index_mut.ensures.value ∙ get_or_default all port.vertex c.index_mut.result.now [] below) in
    let onto : AreOutletsOnto segments c.args.place (i + 1) (set all port.vertex (get_or all port.vertex [] ++ outlet ∷ [])) =
    outlets_step segments c.args.place i all outlet port c.loop-port.invariant.onto at below (record {
      port = port;
      within = c.requires.place;
      among = (i, within, at port);
      vertex = refl;
      costs = refl;
      leads = subst (λ (l : List Port). MatchOption outlet.to (IsLan l) (IsFarEnd l port.vertex)) ports c.far_end.ensures;
    }) refl refl in
    record {
      long = length-set all port.vertex c.push.new.self ∙ c.loop-port.invariant.long;
      onto = subst (λ (l : List Outlet). AreOutletsOnto segments c.args.place (i + 1) (set all port.vertex l)) (sym pushed) onto;
    }
