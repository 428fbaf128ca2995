use Rattle.std.proofs.Common.{◌≡◌, List, IfOk, subst}
use Rattle.std.proofs.lemmas.Result.{IfOk-weaker}
use Rattle.net_model.specs.Configuration.{Configuration}
use Rattle.net_model.specs.Network.{Network}
use Rattle.net_model.specs.Refusals.{MakeNetwork}
use Rattle.failed_links.specs.ShutDown.{StandsWithout, shut_down}
use Rattle.failed_links.proofs.DownFacts.{same_network, stands}
use Rattle.failed_links.proofs.down.without.Goals as goal

pub returns-clause-ok : goal.returns-clause-ok
returns-clause-ok c =
    let net = c.args.net.now in
    let shut = shut_down c.args.link net in
    let made = subst (λ (l : List Configuration). IfOk c.build.result (MakeNetwork l)) c.in_ok-configs.ensures.configs c.build.ensures.ok in
    IfOk-weaker c.build.result (MakeNetwork shut) (λ (failed : Network). failed ≡ shut)
    (λ failed h. same_network c.args.link net failed c.shut_down.ensures.network.ascending h) made

pub returns-clause-stands : goal.returns-clause-stands
returns-clause-stands c =
    let net = c.args.net.now in
    let shut = shut_down c.args.link net in
    let made = subst (λ (l : List Configuration). IfOk c.build.result (MakeNetwork l)) c.in_ok-configs.ensures.configs c.build.ensures.ok in
    IfOk-weaker c.build.result (MakeNetwork shut) (λ (_ : Network). StandsWithout net c.args.link)
    (λ failed h. stands c.args.link net failed c.shut_down.ensures.network.ascending h) made
