use Rattle.std.proofs.Common.{◌<◌, length, sym, subst}
use Rattle.net_model.specs.Network.{Network}
use Rattle.ospf_pair.proofs.MetConditions.{within_new}
use Rattle.ospf_pair.proofs.scripts.with_first.Goals as goal

pub config-requires-2 : goal.config-requires-2
config-requires-2 c =
    subst (λ (net : Network). c.args.router < length net) (sym c.new_net.ensures.network)
    (within_new c.args.script.now.pair.now c.args.router c.new_net.ensures.pair.0.0.0.0 c.requires.router)
