use Rattle.std.proofs.Common.{subst}
use Rattle.net_model.specs.Network.{Connected}
use Rattle.loop_finder.specs.Mixes.{sample_of, mix_of, class_in}
use Rattle.loop_finder.proofs.ClassVerdicts.{one_target}
use Rattle.loop_finder.proofs.OnFalse.{never_at_false}
use Rattle.loop_finder.proofs.PartRows.{row_made, row_none}
use Rattle.loop_finder.proofs.part.row_of.Goals as goal

pub returns-then-originates : goal.returns-then-originates
returns-then-originates g c =
    row_none (class_in (mix_of g.O.RouteSource.table g.N.RouteSource.table c.args.mixed.now) c.args.class.now.atom) c.args.marks.now c.args.router _
    c.empty-then-originates.ensures
    (λ here must. must.away (subst (Connected c.args.mixed.now.net c.args.router)
    (one_target c.args.mixed.now.net (sample_of c.args.mixed.now.classes c.args.class.now.atom) c.args.class.now.target must.target c.requires.target.network
    c.requires.target.target must.is_target) (c.originates.ensures.0 c.if-originates.true)))

pub returns : goal.returns
returns g c = row_made (class_in (mix_of g.O.RouteSource.table g.N.RouteSource.table c.args.mixed.now) c.args.class.now.atom) c.args.marks.now c.args.router
    _ _ _ _ _ _ c.next_hops.ensures.least (record {
      router = c.requires.router;
      target = c.args.class.now.target;
      is_target = c.requires.target.target;
      away = never_at_false c.originates.result c.if-originates.false c.originates.ensures;
    }) c.next_hops.ensures.hops c.next_hops-2.ensures.hops c.next_hops-3.ensures.hops c.kept.ensures c.kept-2.ensures c.kept-3.ensures
