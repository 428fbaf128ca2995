use Rattle.std.proofs.lemmas.Result.{IfOk-weaker}
use Rattle.network_survey.proofs.SharingFacts.{ListsUpPorts-one_sided_in_area}
use Rattle.network_survey.proofs.interfaces.one_sided_in_area.Goals as goal

pub returns : goal.returns
returns c = IfOk-weaker c.odd_ports.result _ _ (λ found s net lists. ListsUpPorts-one_sided_in_area net c.args.ports.now lists found.items s) c.odd_ports.ensures
