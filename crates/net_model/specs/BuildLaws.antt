-- The laws of making a network.
use Rattle.std.specs.Prelude.{◌≡◌, ◌≢◌, List}
use Rattle.net_model.specs.Configuration.{Configuration}
use Rattle.net_model.specs.Network.{Network}
use Rattle.net_model.specs.Refusals.{IsNetworkOf, MakeNetwork, Refuses}
use Rattle.net_model.specs.declared.refusal.NetRefusal.{NetRefusal}
use Rattle.net_model.specs.declared.refusal.NetRefusal.TheVariants.{OutOfMemory}

-- configurations have one network in byte order of names
abbrev pub OneNetworkLaw : Type 0
OneNetworkLaw =
    (configs : List Configuration) (one other : Network) →
    IsNetworkOf configs one → IsNetworkOf configs other → one ≡ other

-- where configurations make a network, only want of memory may refuse them
abbrev pub NetworkOrRefusalLaw : Type 0
NetworkOrRefusalLaw =
    (configs : List Configuration) (net : Network) (refusal : NetRefusal) →
    MakeNetwork configs net → Refuses refusal configs → refusal ≡ OutOfMemory

-- besides want of memory one refusal at most stands
abbrev pub OneRefusalLaw : Type 0
OneRefusalLaw =
    (configs : List Configuration) (one other : NetRefusal) →
    one ≢ OutOfMemory → other ≢ OutOfMemory →
    Refuses one configs → Refuses other configs → one ≡ other
