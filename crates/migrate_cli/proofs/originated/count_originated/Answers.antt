use Rattle.std.proofs.Common.{rules, ◌≡◌, length, IsPermutation, subst}
use Rattle.std.proofs.lemmas.List.Filters.{dedup_is}
use Rattle.prefix_atoms.specs.Originated.{all_originated}
use Rattle.migrate_cli.specs.OriginatedPrefixes.{CountsOriginated}
use Rattle.migrate_cli.proofs.OriginatedFacts.{counts_sorted}
use Rattle.migrate_cli.proofs.originated.count_originated.Goals as goal

pub returns : goal.returns
returns c =
    let is = dedup_is _ _ _ c.dedup.ensures.filtered in
    let moved : IsPermutation (all_originated c.args.net.now) c.sort_unstable.new.self.items =
    rw (← c.in_ok-prefixes.ensures) c.sort_unstable.ensures.permutation in
    let made = counts_sorted c.args.net.now c.sort_unstable.new.self.items c.dedup.new.self.items moved c.sort_unstable.ensures.sorted is in
    let count : length c.dedup.new.self.items ≡ c.len.result = search rules in
    subst (CountsOriginated c.args.net.now) count made
