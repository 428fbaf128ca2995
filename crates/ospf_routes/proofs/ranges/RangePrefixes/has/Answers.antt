use Rattle.std.proofs.Common.{◌≡◌, ◌∙◌, List, arith, sym, subst}
use Rattle.std.specs.List.{Contains}
use Rattle.net_addr.specs.Addresses.{Block}
use Rattle.route_tables.proofs.ListFacts.{iff_then}
use Rattle.ospf_routes.proofs.ranges.RangePrefixes.has.Goals as goal

pub returns : goal.returns
returns c =
    let all : c.as_slice.result.now ≡ c.args.self.now = c.as_slice.ensures.value ∙ c.self.view_is in
    iff_then c.is_in.ensures (
      λ has. subst (λ (l : List Block). Contains l c.args.dest) all (c.between.ensures.among c.args.dest has),
      λ has. c.between.ensures.every c.args.dest (subst (λ (l : List Block). Contains l c.args.dest) (sym all) has)
          (omega (arith, c.base.ensures.value)) (omega (arith, c.base-2.ensures.value)),
    )
