use Rattle.std.proofs.lemmas.Option.{slice_get_within}
use Rattle.migrate_cli.specs.Reading.{named_text}
use Rattle.migrate_cli.specs.steps.StandingNetworks.IsStandingOutcome.{decides}
use Rattle.migrate_cli.proofs.FailureFacts.{standing_off}
use Rattle.migrate_cli.proofs.failures.judge_standing.Goals as goal

pub refuse_start-requires : goal.refuse_start-requires
refuse_start-requires g c = let off = c.in-Some.ensures.holds in slice_get_within c.args.net c.in-Some.router off.config off.router

pub returns-in-Some : goal.returns-in-Some
returns-in-Some g c =
    standing_off (named_text c.args.order.0.now c.args.order.1.now) c.args.net c.in-Some.router c.refuse_start.result c.in-Some.ensures
    c.refuse_start.ensures

pub returns : goal.returns
returns g c = decides c.in_ok-decision.decision c.in_default.ensures c.in_ok-decision.ensures
