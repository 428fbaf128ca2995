use Rattle.std.proofs.Common.{ℕ, List, IsPermutation, subst}
use Rattle.std.proofs.lemmas.List.Filters.{dedup_is}
use Rattle.drawn_network.specs.LinkEnds.{areas_along}
use Rattle.drawn_network.proofs.AreaFacts.{areas_sorted}
use Rattle.drawn_network.proofs.areas.link_areas.Goals as goal

pub returns : goal.returns
returns c =
    let sorted = c.sort_unstable.new.self.items in
    let moved : IsPermutation (areas_along c.args.links.now) sorted =
    subst (λ (l : List ℕ). IsPermutation l sorted) c.in_ok-areas.ensures c.sort_unstable.ensures.permutation in
    areas_sorted c.args.links.now sorted c.dedup.new.self.items moved c.sort_unstable.ensures.sorted
    (dedup_is _ _ _ c.dedup.ensures.filtered)
