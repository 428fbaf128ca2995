use Rattle.net_addr.proofs.MaskFacts.{Reads-mask}
use Rattle.net_addr.proofs.mask.read_mask.Goals as goal

pub returns-in_err-read_addr : goal.returns-in_err-read_addr
returns-in_err-read_addr c = rw c.from_residual.ensures (λ len stands. c.in_err-read_addr.ensures stands.address stands.written)

pub returns : goal.returns
returns c = Reads-mask c.args.word.now c.in_ok-read_addr.field-0 c.mask_len.result c.in_ok-read_addr.ensures c.mask_len.ensures
