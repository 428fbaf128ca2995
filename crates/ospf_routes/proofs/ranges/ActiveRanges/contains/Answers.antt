use Rattle.std.proofs.Common.{◌≡◌}
use Rattle.route_tables.proofs.ListFacts.{iff_then}
use Rattle.ospf_routes.proofs.RangeFacts.{any_around}
use Rattle.ospf_routes.specs.declared.ranges.ActiveRange.{ActiveRange}
use Rattle.ospf_routes.proofs.ranges.ActiveRanges.contains.Goals as goal

pub returns : goal.returns
returns c =
    iff_then c.is_among.ensures
    (any_around (λ (a : ActiveRange). a.range.dest ≡ c.args.dest) c.args.self.now c.around.result.now c.args.dest (λ a is. is) c.around.ensures)
