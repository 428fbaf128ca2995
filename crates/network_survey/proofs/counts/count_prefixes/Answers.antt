use Rattle.std.proofs.Common.{rules, ◌≡◌, List, length, map, IsPermutation, subst}
use Rattle.std.proofs.lemmas.List.Filters.{dedup_is}
use Rattle.net_addr.specs.Addresses.{Block}
use Rattle.network_survey.specs.Listings.{CountsAll}
use Rattle.network_survey.specs.Ports.{Port}
use Rattle.network_survey.specs.steps.Subnets.{IsSubnetOf}
use Rattle.network_survey.proofs.CountFacts.{CountsAll-sorted}
use Rattle.network_survey.proofs.counts.count_prefixes.Goals as goal

pub returns : goal.returns
returns c =
    let is = dedup_is _ _ _ c.dedup.ensures.filtered in
    let moved : IsPermutation (map (λ (x : Port). x.subnet) c.args.ports.now) c.sort_unstable.new.self.items =
    subst (λ (l : List Block). IsPermutation l c.sort_unstable.new.self.items) c.in_ok-subnets.ensures c.sort_unstable.ensures.permutation in
    let made = CountsAll-sorted c.args.ports.now c.sort_unstable.new.self.items c.dedup.new.self.items moved c.sort_unstable.ensures.sorted is in
    let count : length c.dedup.new.self.items ≡ c.len.result = search rules in
    subst (CountsAll (IsSubnetOf c.args.ports.now)) count made
