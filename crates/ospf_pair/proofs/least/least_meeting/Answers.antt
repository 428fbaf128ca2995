use Rattle.std.proofs.Common.{sym, ap, ◌∙◌}
use Rattle.net_model.specs.Configuration.{Configuration}
use Rattle.ospf_pair.specs.NetworkPairs.{network_pair}
use Rattle.ospf_pair.proofs.MetConditions.{IsLeastName-from_lowest, NoRouterMeets-from}
use Rattle.ospf_pair.proofs.least.least_meeting.Goals as goal

pub returns-in_ok-copied-in-Some : goal.returns-in_ok-copied-in-Some
returns-in_ok-copied-in-Some g c =
    let name = c.in_ok-copied-in-Some.ensures ∙ c.as_slice.ensures ∙ ap (λ (x : Configuration). x.name) c.behind-old.view_is in
    IsLeastName-from_lowest g.C.PairCondition.condition (network_pair c.args.old.now c.args.new.now) c.requires
    c.first_meeting.ensures.network.ascending c.in-Some.router c.in_ok-copied-in-Some.field-0
    (record { config = c.config.result.now; router = c.config.ensures.router; name_is = sym name }) c.in-Some.ensures.found

pub returns-in-None : goal.returns-in-None
returns-in-None g c =
    NoRouterMeets-from g.C.PairCondition.condition (network_pair c.args.old.now c.args.new.now) c.requires
    c.first_meeting.ensures.network.ascending c.in-None.ensures.found
