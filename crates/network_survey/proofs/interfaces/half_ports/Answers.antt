use Rattle.std.proofs.lemmas.Result.{IfOk-weaker}
use Rattle.network_survey.proofs.SharingFacts.{ListsUpPorts-half}
use Rattle.network_survey.proofs.interfaces.half_ports.Goals as goal

pub returns : goal.returns
returns c = IfOk-weaker c.odd_ports.result _ _ (λ found s net lists. ListsUpPorts-half net c.args.ports.now lists found.items s) c.odd_ports.ensures
