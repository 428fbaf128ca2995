use Rattle.std.proofs.Common.{arith}
use Rattle.std.proofs.lemmas.Grind.{common_steps}
use Rattle.std.proofs.lemmas.Option.{MatchOption-at_none, MatchOption-at_some}
use Rattle.net_model.proofs.SystemClashes.{HaveOneSystem-mutual}
use Rattle.net_model.proofs.systems.check_systems.Goals as goal

pub returns-in-Some-clause-err : goal.returns-in-Some-clause-err
returns-in-Some-clause-err c = grind (arith, common_steps, HaveOneSystem-mutual, MatchOption-at_some)

pub returns-in-None-clause-ok : goal.returns-in-None-clause-ok
returns-in-None-clause-ok c =
    MatchOption-at_none _ _ c.in-None.is (c.in_ok-pair.ensures (HaveOneSystem-mutual c.args.configs.now))
