use Rattle.std.proofs.Common.{arith}
use Rattle.std.proofs.lemmas.Grind.{common_steps}
use Rattle.std.proofs.Common.{Result, IfErr, IfOk, [], ◌∷◌, subst}
use Rattle.std.proofs.lemmas.Option.{slice_get_within}
use Rattle.net_model.specs.Network.{Network}
use Rattle.migration_report.specs.declared.outcome.Outcome.{Outcome}
use Rattle.migrate_cli.specs.Configurations.{GiveNetwork}
use Rattle.migrate_cli.specs.ObserveDecision.{RefusesTexts}
use Rattle.migrate_cli.specs.ObserveDecision.IsNightOutcome.{refused_before, refused_now, night_decided}
use Rattle.migrate_cli.specs.steps.NightFiles.{before_texts_in, current_texts_in, night_texts_in}
use Rattle.migrate_cli.proofs.NightReading.{off_outcome}
use Rattle.migrate_cli.proofs.observing.judge_night.Goals as goal

pub returns-in-Err : goal.returns-in-Err
returns-in-Err c =
    refused_before c.in-Err.outcome
    (subst (λ (r : Result Network Outcome). IfErr r (RefusesTexts (before_texts_in c.args.files.now))) c.in-Err.is c.in_ok-before.ensures.refused)

pub refuse_start-requires : goal.refuse_start-requires
refuse_start-requires c = grind (arith, common_steps, slice_get_within)

pub returns-in-Some : goal.returns-in-Some
returns-in-Some c =
    off_outcome (night_texts_in c.args.files.now) c.in-Ok.before c.in-Some.router c.refuse_start.result
    (subst (λ (r : Result Network Outcome). IfOk r (GiveNetwork (c.args.files.now.before.now ∷ []))) c.in-Ok.is c.in_ok-before.ensures.given)
    c.in-Some.ensures c.refuse_start.ensures

pub returns-in-Err-2 : goal.returns-in-Err-2
returns-in-Err-2 c =
    refused_now c.in-Ok.before c.in-Err-2.outcome
    (subst (λ (r : Result Network Outcome). IfOk r (GiveNetwork (c.args.files.now.before.now ∷ []))) c.in-Ok.is c.in_ok-before.ensures.given)
    c.in_default.ensures
    (subst (λ (r : Result Network Outcome). IfErr r (RefusesTexts (current_texts_in c.args.files.now))) c.in-Err-2.is c.in_ok-now.ensures.refused)

pub returns : goal.returns
returns c =
    night_decided c.in-Ok.before c.in-Ok-2.now c.in_ok-decision.decision
    (subst (λ (r : Result Network Outcome). IfOk r (GiveNetwork (c.args.files.now.before.now ∷ []))) c.in-Ok.is c.in_ok-before.ensures.given)
    c.in_default.ensures
    (subst (λ (r : Result Network Outcome). IfOk r (GiveNetwork c.args.files.now.texts.now)) c.in-Ok-2.is c.in_ok-now.ensures.given)
    c.in_ok-decision.ensures
