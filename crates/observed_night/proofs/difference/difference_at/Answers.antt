use Rattle.observed_night.specs.declared.difference.Difference.{Difference}
use Rattle.observed_night.proofs.SightFacts.{alone_before, alone_now, by_both}
use Rattle.observed_night.proofs.difference.difference_at.Goals as goal

pub returns-in-Some-Some : goal.returns-in-Some-Some
returns-in-Some-Some c =
    by_both c.args.before.now c.args.now.now c.args.router (λ (it : Difference). it.name.now) (λ (it : Difference). it.part) c.in-Some-Some.one.now
    c.in-Some-Some.its.now c.in-Some-Some.ensures c.in-Some-Some.ensures' c.difference_of.result c.difference_of.ensures

pub returns-in-Some-None : goal.returns-in-Some-None
returns-in-Some-None c =
    alone_before c.args.before.now c.args.now.now c.args.router c.in-Some-None.one.now c.stands_alone.result.name.now c.stands_alone.result.part
    c.in-Some-None.ensures c.stands_alone.ensures.name c.stands_alone.ensures.part c.in-Some-None.ensures'

pub returns-in-None-Some : goal.returns-in-None-Some
returns-in-None-Some c =
    alone_now c.args.before.now c.args.now.now c.args.router c.in-None-Some.its.now c.stands_alone-in-None-Some.result.name.now
    c.stands_alone-in-None-Some.result.part c.in-None-Some.ensures' c.stands_alone-in-None-Some.ensures.name
    c.stands_alone-in-None-Some.ensures.part c.in-None-Some.ensures
