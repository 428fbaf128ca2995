use Rattle.std.proofs.Common.{List, Contains, subst}
use Rattle.std.proofs.lemmas.Result.{on_ok_weaker}
use Rattle.ospf_routes.proofs.IntraFacts.{part_added}
use Rattle.ospf_routes.specs.declared.intra_area.AreaOffers.{AreaOffers}
use Rattle.ospf_routes.proofs.intra_area.add_part.Goals as goal

pub returns-in-Some : goal.returns-in-Some
returns-in-Some c = record {
  each = λ all. all;
  kept = λ m has. has;
  added = λ _. record {
    part = c.in-Some.field-0.now;
    among = subst (λ (l : List AreaOffers). Contains l c.in-Some.field-0.now) c.as_slice.ensures.value c.in-Some.ensures.among;
    area = c.in-Some.ensures.area;
  };
}

pub returns-in-Some-place_of : goal.returns-in-Some-place_of
returns-in-Some-place_of c =
    on_ok_weaker c.push_part.result
    (λ adds. part_added c.args.domain.now.areas c.args.routes.now c.args.area c.in-Some-place_of.zone c.args.parts.now.items
    c.push_part.new.parts.items c.in-Some-place_of.ensures.some adds)
    c.push_part.ensures
