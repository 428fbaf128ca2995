use Rattle.std.proofs.Common.{◌<◌, length, subst, sym}
use Rattle.net_model.specs.Refusals.{IsNetwork}
use Rattle.plan_theory.specs.Plans.{IsNightPlanned}
use Rattle.plan_theory.specs.declared.items.Items.TheVariants.{Changes}
use Rattle.migrate_cli.specs.TwoPassDecision.IsTwoPassOver.{plans_changes}
use Rattle.migrate_cli.specs.steps.Tables.{NetworkMove, move_of}
use Rattle.migrate_cli.proofs.twopass.judge_two_pass.Goals as goal

pub plan_changes-requires-clause-some : goal.plan_changes-requires-clause-some
plan_changes-requires-clause-some c = subst (λ (of : NetworkMove). 0 < length of.net) (sym c.to_isis.ensures) c.requires.some

pub returns : goal.returns
returns c =
    let planned = c.in_ok-planned.planned in
    plans_changes planned c.requires.some
    (subst (λ (of : NetworkMove). IsNetwork of.net) c.to_isis.ensures c.in_ok-planned.ensures.network)
    (subst (λ (of : NetworkMove). IsNightPlanned Changes (move_of of) c.args.budget planned) c.to_isis.ensures c.in_ok-planned.ensures.planned)
