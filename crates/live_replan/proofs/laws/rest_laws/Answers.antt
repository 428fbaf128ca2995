use Rattle.live_replan.proofs.RestFacts.{rest_waves}
use Rattle.live_replan.proofs.laws.rest_laws.Goals as goal

pub returns : goal.returns
returns c = λ start ranks chain u ranking one_of lead keeps below left. rest_waves start ranks ranking lead u below left chain one_of keeps
