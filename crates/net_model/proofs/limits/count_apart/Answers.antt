use Rattle.std.proofs.Common.{rules, ◌≡◌, length, IsPermutation, subst}
use Rattle.std.proofs.lemmas.List.Filters.{dedup_is}
use Rattle.net_model.specs.DestLists.{all_dests}
use Rattle.net_model.specs.Limits.{CountsDests}
use Rattle.net_model.proofs.Dests.{CountsDests-sorted}
use Rattle.net_model.proofs.limits.count_apart.Goals as goal

pub returns : goal.returns
returns c = λ configs all.
    let is = dedup_is _ _ _ c.dedup.ensures.filtered in
    let sorted = c.sort_unstable.new.self.items in
    let moved : IsPermutation (all_dests configs) sorted = rw (← all) c.sort_unstable.ensures.permutation in
    let made = CountsDests-sorted configs sorted c.dedup.new.self.items moved c.sort_unstable.ensures.sorted is in
    let count : length c.dedup.new.self.items ≡ c.len.result = search rules in
    subst (CountsDests configs) count made
