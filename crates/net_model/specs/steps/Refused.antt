-- Refusals that one check may give.
use Rattle.net_model.specs.Network.{Network}
use Rattle.net_model.specs.declared.refusal.NetRefusal.{NetRefusal}
use Rattle.net_model.specs.declared.refusal.NetRefusal.TheVariants.{OutOfMemory}
use Rattle.net_model.specs.Refusals.{RefusesNetwork}

-- the refusal of a network, or want of memory
abbrev pub MayRefuse : NetRefusal → Network → Type 0
MayRefuse OutOfMemory net = Unit {0}
MayRefuse refusal net = RefusesNetwork refusal net
