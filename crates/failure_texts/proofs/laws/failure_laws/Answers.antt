use Rattle.failure_texts.proofs.CountFacts.{CountsAddUp-all}
use Rattle.failure_texts.proofs.laws.failure_laws.Goals as goal

pub returns : goal.returns
returns c = CountsAddUp-all
