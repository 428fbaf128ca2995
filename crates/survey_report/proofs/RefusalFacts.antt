-- Refusals that stand are none of want of memory.
use Rattle.std.proofs.Common.{◌≢◌, List, get_or, All, subst}
use Rattle.net_model.specs.Configuration.{Configuration}
use Rattle.net_model.specs.declared.refusal.NetRefusal.{NetRefusal}
use Rattle.net_model.specs.declared.refusal.NetRefusal.TheVariants.{OutOfMemory}
use Rattle.network_survey.specs.AllRefusals.{ListsRefusals, StandsFor}
use Rattle.network_survey.proofs.ListingFacts.{Contains-at}

pub none_of_memory : (configs : List Configuration) (found : List NetRefusal) → ListsRefusals configs found →
    All (λ (refusal : NetRefusal). refusal ≢ OutOfMemory) found
none_of_memory configs found lists k d below same =
    subst (λ (r : NetRefusal). StandsFor r configs) same ((lists.exact (get_or found k d)).0 (Contains-at found k d below))
