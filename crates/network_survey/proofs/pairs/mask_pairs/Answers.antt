use Rattle.std.proofs.lemmas.Result.{IfOk-weaker}
use Rattle.network_survey.proofs.UnlikeFacts.{ListsPairs-masks}
use Rattle.network_survey.proofs.pairs.mask_pairs.Goals as goal

pub returns : goal.returns
returns c = IfOk-weaker c.unlike_pairs.result _ _ (λ found s net lists. ListsPairs-masks net c.args.ports.now lists found.items s) c.unlike_pairs.ensures
