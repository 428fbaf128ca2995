-- What refuses the sorted configurations refuses the given ones.
use Rattle.std.proofs.Common.{ℕ, List, IsPermutation}
use Rattle.std.proofs.lemmas.List.Sorted.{IsPermutation-sym}
use Rattle.net_model.specs.Configuration.{Configuration}
use Rattle.net_model.specs.Limits.{IsWithinLimits}
use Rattle.net_model.specs.Network.{Network}
use Rattle.net_model.specs.Refusals.{IsLeastDouble, IsNetworkOf, Refuses, RefusesName}
use Rattle.net_model.specs.steps.Refused.{MayRefuse}
use Rattle.net_model.specs.declared.refusal.NetRefusal.{NetRefusal}
use Rattle.net_model.specs.declared.refusal.NetRefusal.TheVariants.{Limit, TwoNames, OutOfMemory}
use Rattle.net_model.proofs.Names.{TwoHaveName-permutation}

pub IsLeastDouble-permutation : (xs ys : List Configuration) (name : List ℕ) → IsPermutation xs ys → IsLeastDouble ys name → IsLeastDouble xs name
IsLeastDouble-permutation xs ys name moves h = record {
  double = TwoHaveName-permutation ys xs name (IsPermutation-sym xs ys moves) h.double;
  least = λ other t below. h.least other (TwoHaveName-permutation xs ys other moves t) below;
}

pub Refuses-by_name : (configs net : List Configuration) (refusal : NetRefusal) → IsWithinLimits configs → IsPermutation configs net →
    RefusesName refusal net → Refuses refusal configs
Refuses-by_name configs net (TwoNames name) limits moves h = (limits, IsLeastDouble-permutation configs net name moves h)
Refuses-by_name configs net OutOfMemory limits moves h = tt
Refuses-by_name configs net _ limits moves h = absurd h

pub Refuses-by_network : (configs : List Configuration) (net : Network) (refusal : NetRefusal) → IsWithinLimits configs → IsNetworkOf configs net →
    MayRefuse refusal net → Refuses refusal configs
Refuses-by_network configs net (Limit _ _) limits network h = absurd h
Refuses-by_network configs net (TwoNames _) limits network h = absurd h
Refuses-by_network configs net OutOfMemory limits network h = tt
Refuses-by_network configs net _ limits network h = record { limits = limits; net = net; network = network; holds = h }
