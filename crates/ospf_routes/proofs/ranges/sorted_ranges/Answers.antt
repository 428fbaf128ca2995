use Rattle.std.proofs.Common.{◌↔◌, List, subst}
use Rattle.std.specs.List.{Contains}
use Rattle.net_model.specs.declared.area.Range.{Range}
use Rattle.ospf_routes.proofs.ranges.sorted_ranges.Goals as goal

pub returns-clause-kept : goal.returns-clause-kept
returns-clause-kept c r =
    subst (λ (l : List Range). Contains c.sort_by_base.new.all.items r ↔ Contains l r) c.in_ok-sorted.ensures.items (c.sort_by_base.ensures.kept r)
