use Rattle.change_orders.proofs.TwoFileLaws.{list_or_refusal, one_list, one_refusal}
use Rattle.change_orders.proofs.TwoTextFacts.{two_read_back}
use Rattle.change_orders.proofs.laws.two_laws.Goals as goal

pub returns-clause-one_list : goal.returns-clause-one_list
returns-clause-one_list c = one_list

pub returns-clause-list_or_refusal : goal.returns-clause-list_or_refusal
returns-clause-list_or_refusal c = list_or_refusal

pub returns-clause-one_refusal : goal.returns-clause-one_refusal
returns-clause-one_refusal c = one_refusal

pub returns-clause-read_back : goal.returns-clause-read_back
returns-clause-read_back c = two_read_back
