use Rattle.std.proofs.Common.{List, subst}
use Rattle.network_survey.specs.Listings.{CountsAll}
use Rattle.network_survey.specs.Ports.{Port}
use Rattle.network_survey.specs.steps.Subnets.{IsSubnetOf}
use Rattle.network_survey.proofs.CountFacts.{CountsAll-links}
use Rattle.network_survey.proofs.counts.count_links.Goals as goal

pub returns : goal.returns
returns c net lists =
    CountsAll-links net c.args.ports.now lists c.in_ok-shared.shared.items c.in_ok-count.count c.in_ok-shared.ensures
    (subst (λ (l : List Port). CountsAll (IsSubnetOf l) c.in_ok-count.count) c.as_slice.ensures.value c.in_ok-count.ensures)
