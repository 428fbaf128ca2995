use Rattle.std.proofs.Common.{◌≡◌, List, IsPermutation, subst, ◌∙◌}
use Rattle.std.specs.List.{filter_map}
use Rattle.std.proofs.lemmas.List.Filters.{dedup_is}
use Rattle.net_addr.specs.Addresses.{Block}
use Rattle.network_survey.specs.Ports.{Port}
use Rattle.failed_links.specs.steps.LinkEnds.{shared_by_end}
use Rattle.failed_links.proofs.LinkFacts.{ListsLinks-sorted}
use Rattle.failed_links.proofs.shared.links.Goals as goal

pub returns : goal.returns
returns c =
    let ports = c.in_ok-ports.ports.items in
    let sorted = c.sort_unstable.new.self.items in
    let is = dedup_is _ _ _ c.dedup.ensures.filtered in
    let listed = subst (λ (l : List Port). c.in_ok-links.links.items ≡ filter_map (shared_by_end l) l) c.as_slice.ensures.value c.in_ok-links.ensures in
    let moved : IsPermutation (filter_map (shared_by_end ports) ports) sorted =
    subst (λ (l : List Block). IsPermutation l sorted) listed c.sort_unstable.ensures.permutation in
    ListsLinks-sorted c.args.net.now ports c.in_ok-ports.ensures sorted c.dedup.new.self.items moved c.sort_unstable.ensures.sorted is
