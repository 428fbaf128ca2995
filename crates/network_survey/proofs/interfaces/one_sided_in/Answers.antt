use Rattle.std.proofs.lemmas.Result.{IfOk-weaker}
use Rattle.network_survey.proofs.SharingFacts.{ListsUpPorts-one_sided}
use Rattle.network_survey.proofs.interfaces.one_sided_in.Goals as goal

pub returns : goal.returns
returns c = IfOk-weaker c.odd_ports.result _ _ (λ found s net lists. ListsUpPorts-one_sided net c.args.ports.now lists c.args.zone found.items s) c.odd_ports.ensures
