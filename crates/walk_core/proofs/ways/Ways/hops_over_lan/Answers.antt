use Rattle.std.proofs.Common.{arith}
use Rattle.std.proofs.lemmas.Grind.{common_steps}
use Rattle.std.proofs.Common.{[], ℕ, List, MatchOption, Option, sym, subst}
use Rattle.std.proofs.lemmas.List.Elements.{Contains-push}
use Rattle.std.proofs.lemmas.Result.{IfOk-weaker}
use Rattle.walk_core.specs.Reach.{Reach}
use Rattle.walk_core.specs.Segments.{SendsAcross}
use Rattle.walk_core.specs.steps.FirstHops.{ListFirstHops}
use Rattle.walk_core.specs.steps.Flooding.{segment_at}
use Rattle.walk_core.specs.steps.SegmentWalks.{IsFarEnd, IsLan, Mesh}
use Rattle.walk_core.specs.declared.outlets.Outlet.{Outlet}
use Rattle.walk_core.specs.declared.segment.Port.{Port}
use Rattle.walk_core.proofs.LanLaws.{IsOnLan, hops_on_lan}
use Rattle.walk_core.proofs.ReachLaws.{ascending_without}
use Rattle.walk_core.proofs.ways.Ways.hops_over_lan.Goals as goal

pub walks-walks-requires : goal.walks-walks-requires
walks-walks-requires c = (c.requires.outlets.each c.args.outlet (Contains-push [] c.args.outlet)).within

pub returns-clause-exact : goal.returns-clause-exact
returns-clause-exact c =
    let mesh : Mesh = c.args.self.now in
    let root : ℕ = c.args.root in
    let outlet : Outlet = c.args.outlet in
    let ports : List Port = segment_at mesh.segments outlet.place in
    let reach : Reach = c.walks-walks.result.now in
    let lan : IsLan ports = subst (λ (o : Option ℕ). MatchOption o (IsLan ports) (IsFarEnd ports root)) c.requires.lan
    (c.requires.outlets.each outlet (Contains-push [] outlet)).leads in
    let on : IsOnLan mesh root outlet reach =
    record { mesh_is = c.requires.mesh; root_is = c.requires.root; outlets_are = c.requires.outlets; walks = c.walks-walks.ensures lan } in
    IfOk-weaker c.hops_without.result _ _
    (λ (lists : List (List ℕ)) same. subst (ListFirstHops (SendsAcross mesh.segments) root) (sym same) (hops_on_lan mesh root outlet reach on))
    c.hops_without.ensures.lists

pub returns-clause-ascending : goal.returns-clause-ascending
returns-clause-ascending c = grind (arith, common_steps, IfOk-weaker, ascending_without)
