use Rattle.std.proofs.Common.{subst}
use Rattle.igp_theory.specs.Migrations.{ospf_to_isis}
use Rattle.plan_theory.specs.Plans.{IsPlanned}
use Rattle.migrate_words.specs.declared.command.TheConstants.{USUAL_BUDGET}
use Rattle.migrate_cli.specs.SampleDecision.IsSampleDecision.{as_planned}
use Rattle.migrate_cli.proofs.sample.sum_up.Goals as goal

pub sum_up_found-requires-clause-planned : goal.sum_up_found-requires-clause-planned
sum_up_found-requires-clause-planned c = subst (IsPlanned (ospf_to_isis c.args.net.now) USUAL_BUDGET) c.in-Searched.is c.requires.planned

pub returns-in-UnsoundOld : goal.returns-in-UnsoundOld
returns-in-UnsoundOld c =
    as_planned _ (λ e. Prim.cc e) c.requires.some c.requires.network
    (subst (IsPlanned (ospf_to_isis c.args.net.now) USUAL_BUDGET) c.in-UnsoundOld.is c.requires.planned)

pub returns-in-UnsoundNew : goal.returns-in-UnsoundNew
returns-in-UnsoundNew c =
    as_planned _ (λ e. Prim.cc e) c.requires.some c.requires.network
    (subst (IsPlanned (ospf_to_isis c.args.net.now) USUAL_BUDGET) c.in-UnsoundNew.is c.requires.planned)
