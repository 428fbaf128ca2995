use Rattle.std.proofs.Common.{length}
use Rattle.step_scripts.proofs.TextFacts.{chain_routers}
use Rattle.step_scripts.proofs.waves_writing.waves_text.Goals as goal

pub named_line-requires : goal.named_line-requires
named_line-requires c = chain_routers c.args.waves.now c.args.chain.now (length c.args.net.now) c.requires.ranks c.requires.chain
