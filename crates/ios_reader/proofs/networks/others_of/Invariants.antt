use Rattle.std.proofs.Common.{◌≡◌, not, filter, take}
use Rattle.ios_reader.specs.steps.Networks.{is_block}
use Rattle.ios_reader.proofs.networks.others_of.Given as goal

abbrev pub invariant-loop-line : goal.invariant-loop-line
invariant-loop-line l = l.others.items ≡ filter (λ line. not (is_block line.network.wildcard)) (take l.line-index l.all)
