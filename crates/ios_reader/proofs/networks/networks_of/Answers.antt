use Rattle.std.proofs.Common.{sym, subst}
use Rattle.ios_reader.specs.steps.Networks.{Ascend}
use Rattle.ios_reader.proofs.NetworkFacts.{placed_ascend}
use Rattle.ios_reader.proofs.networks.networks_of.Goals as goal

pub new-requires : goal.new-requires
new-requires c = subst (Ascend 0) (sym c.in_ok-placed.ensures) (placed_ascend 0 c.args.lines.now)
