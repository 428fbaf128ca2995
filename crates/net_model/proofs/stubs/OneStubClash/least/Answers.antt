use Rattle.net_model.proofs.RouterFacts.{HasConfiguration-at}
use Rattle.net_model.proofs.StubClashes.{DifferOnStub-best}
use Rattle.net_model.proofs.stubs.OneStubClash.least.Goals as goal

pub returns : goal.returns
returns c =
    let net = c.args.configs.now in
    DifferOnStub-best net c.args.one c.args.two c.index-configs-one.result c.index-configs-two.result
    (HasConfiguration-at net c.args.one c.index-configs-one.result c.requires.one c.index-configs-one.is)
    (HasConfiguration-at net c.args.two c.index-configs-two.result c.requires.two c.index-configs-two.is)
    c.least_area.result c.least_area.ensures
