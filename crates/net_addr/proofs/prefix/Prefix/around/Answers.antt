use Rattle.std.proofs.Common.{arith}
use Rattle.net_addr.proofs.Blocks.{IsBlock-around}
use Rattle.net_addr.proofs.prefix.Prefix.around.Goals as goal

pub invariant_of-result : goal.invariant_of-result
invariant_of-result c = IsBlock-around c.from.result c.block_size-size.result c.args.len (omega arith) (omega arith) c.block_size-size.ensures

pub returns-clause-block : goal.returns-clause-block
returns-clause-block c = IsBlock-around c.from.result c.block_size-size.result c.args.len (omega arith) (omega arith) c.block_size-size.ensures
