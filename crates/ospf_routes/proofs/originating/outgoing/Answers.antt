use Rattle.std.proofs.Common.{refl, subst, sym}
use Rattle.ospf_routes.specs.steps.Summarized.{Announces}
use Rattle.ospf_routes.proofs.originating.outgoing.Goals as goal

pub returns-then-announces : goal.returns-then-announces
returns-then-announces c o = (
  λ e.
      let is = (c.outside_offer.ensures o).0 e in
      record { outside = is; announces = subst (Announces c.args.domain.now.net c.args.area.now.number) (sym is.at) (c.if-announces.ensures.0 refl) },
  λ is. (c.outside_offer.ensures o).1 is.outside,
)
