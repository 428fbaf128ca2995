use Rattle.order_search.proofs.OneAnswer.{one_answer}
use Rattle.order_search.proofs.laws.answers_are_one.Goals as goal

pub returns : goal.returns
returns g c = λ oracle budget found other picks is too. one_answer _ budget picks found other is too
