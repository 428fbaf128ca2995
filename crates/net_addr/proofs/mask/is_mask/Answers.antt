use Rattle.std.proofs.Common.{◌≡◌, ◌+◌, ◌-◌, ◌^◌, arith}
use Rattle.std.proofs.lemmas.Bool.Decides.{nat_tests}
use Rattle.net_addr.proofs.MaskFacts.{IsMask-sum, IsMask-from_sum}
use Rattle.net_addr.proofs.mask.is_mask.Goals as goal

pub returns : goal.returns
returns c = (
  λ h.
      let sum : c.args.address + 2 ^ (32 - c.args.len) ≡ 2 ^ 32 = grind (arith, nat_tests) in
      IsMask-from_sum c.args.address c.args.len c.requires.some c.requires.most sum,
  λ mask.
      let sum : c.args.address + 2 ^ (32 - c.args.len) ≡ 2 ^ 32 = IsMask-sum c.args.address c.args.len mask in
      grind (arith, nat_tests),
)
