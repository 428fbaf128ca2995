use Rattle.std.proofs.Common.{List, ℕ, subst, sym}
use Rattle.order_core.specs.Rankings.{IsRanking}
use Rattle.observed_night.specs.ObservedTexts.{IsObserved, differs}
use Rattle.observed_night.specs.declared.night.Observed.TheVariants.{Differs}
use Rattle.observed_night.proofs.night.observe.Goals as goal

pub returns-in-Some-clause-observed : goal.returns-in-Some-clause-observed
returns-in-Some-clause-observed c =
    subst (λ (text : List ℕ). IsObserved c.args.before.now c.args.now.now c.args.waves.now (Differs text)) (sym c.in_ok-text.ensures)
    (differs c.in-Some.difference.name.now c.in-Some.difference.part c.in-Some.ensures.difference)

pub observe_night-requires-clause-night : goal.observe_night-requires-clause-night
observe_night-requires-clause-night c = c.in_default.ensures.difference

pub observe_night-requires-clause-ranks : goal.observe_night-requires-clause-ranks
observe_night-requires-clause-ranks c = c.ranks-ranks.ensures.ranks

pub returns-in-Some-clause-ranking : goal.returns-in-Some-clause-ranking
returns-in-Some-clause-ranking c =
    subst (λ (n : ℕ). IsRanking n c.args.waves.now) c.requires c.ranks-ranks.ensures.ranking

pub returns-clause-ranking : goal.returns-clause-ranking
returns-clause-ranking c = subst (λ (n : ℕ). IsRanking n c.args.waves.now) c.requires c.ranks-ranks.ensures.ranking
