use Rattle.std.proofs.lemmas.Result.{IfOk-weaker}
use Rattle.network_survey.proofs.UnlikeFacts.{ListsPairs-uneven_in_area}
use Rattle.network_survey.proofs.pairs.uneven_in_area.Goals as goal

pub returns : goal.returns
returns c = IfOk-weaker c.unlike_pairs.result _ _ (λ found s net lists. ListsPairs-uneven_in_area net c.args.ports.now lists found.items s) c.unlike_pairs.ensures
