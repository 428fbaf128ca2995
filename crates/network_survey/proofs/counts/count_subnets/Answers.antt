use Rattle.network_survey.proofs.CountFacts.{CountsAll-subnets}
use Rattle.network_survey.proofs.counts.count_subnets.Goals as goal

pub returns : goal.returns
returns c net lists = CountsAll-subnets net c.args.ports.now lists c.in_ok-count.count c.in_ok-count.ensures
