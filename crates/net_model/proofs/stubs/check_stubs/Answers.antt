use Rattle.std.proofs.Common.{refl}
use Rattle.std.proofs.lemmas.Bool.{OnTrue_at}
use Rattle.std.proofs.lemmas.Option.{MatchOption-at_none, MatchOption-at_some}
use Rattle.net_model.proofs.ClaimFacts.{StubsAgree-claimed}
use Rattle.net_model.proofs.StubClashes.{DifferOnStub-mutual, StubsAgree-none}
use Rattle.net_model.proofs.stubs.check_stubs.Goals as goal

pub returns-then-lack_stubs-clause-ok : goal.returns-then-lack_stubs-clause-ok
returns-then-lack_stubs-clause-ok c = StubsAgree-none c.args.configs.now (OnTrue_at c.if-lack_stubs.true c.lack_stubs.ensures)

pub returns-then-branch-clause-ok : goal.returns-then-branch-clause-ok
returns-then-branch-clause-ok c = StubsAgree-claimed c.args.configs.now (OnTrue_at c.if-branch.true c.in_ok-claims_agree.ensures)

pub returns-in-Some-clause-err : goal.returns-in-Some-clause-err
returns-in-Some-clause-err c =
    (refl, MatchOption-at_some _ _ c.in-Some.pair c.in-Some.is (c.in_ok-pair.ensures (DifferOnStub-mutual c.args.configs.now)))

pub returns-in-None-clause-ok : goal.returns-in-None-clause-ok
returns-in-None-clause-ok c =
    MatchOption-at_none _ _ c.in-None.is (c.in_ok-pair.ensures (DifferOnStub-mutual c.args.configs.now))
