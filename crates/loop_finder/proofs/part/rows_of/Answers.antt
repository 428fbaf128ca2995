use Rattle.std.proofs.Common.{◌≡◌, ℕ, length, arith, ap, subst}
use Rattle.net_model.specs.Network.{Network}
use Rattle.loop_finder.specs.steps.PartRows.{AreFirstRows}
use Rattle.loop_finder.proofs.PartRows.{AreFirstRows-more}
use Rattle.loop_finder.specs.Mixes.{mix_of, class_in}
use Rattle.loop_finder.proofs.part.rows_of.Goals as goal

pub loop-router-preserved : goal.loop-router-preserved
loop-router-preserved g c =
    AreFirstRows-more (class_in (mix_of g.O.RouteSource.table g.N.RouteSource.table c.args.mixed.now) c.args.class.now.atom)
    c.args.marks.now c.loop-router.router
    c.loop-router.rows c.push.new.self c.row_of-row.result c.in_ok-push.ensures c.loop-router.invariant c.row_of-row.ensures

pub returns : goal.returns
returns g c =
    let net = ap (λ (n : Network). length n) c.net.ensures in
    let all : c.loop-router.router ≡ length c.args.marks.now =
    omega (arith, c.requires.marks, c.loop-router-test.false, c.loop-router.auto.router-end, c.routers-router-end.ensures.count, net) in
    subst (λ (n : ℕ). AreFirstRows (class_in (mix_of g.O.RouteSource.table g.N.RouteSource.table c.args.mixed.now) c.args.class.now.atom) c.args.marks.now n
    c.loop-router.rows) all c.loop-router.invariant
