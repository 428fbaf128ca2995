use Rattle.std.proofs.Common.{set, ap, sym, ◌∙◌, subst}
use Rattle.std.proofs.lemmas.List.{get_or_default, set-get_or}
use Rattle.loop_finder.specs.declared.times.ChangeWaves.{ChangeWaves}
use Rattle.loop_finder.specs.steps.Times.{AreMovedFrom}
use Rattle.loop_finder.proofs.CalmLaws.{AreCalm-with_waves}
use Rattle.loop_finder.proofs.WavePhases.{waves_same}
use Rattle.loop_finder.proofs.calm.Calm.take_waves.Goals as goal

pub returns-then-eq-clause-times : goal.returns-then-eq-clause-times
returns-then-eq-clause-times c = sym (ap (λ (waves : ChangeWaves). set c.args.self.now.times.items c.args.router waves)
    (sym (waves_same c.index.result.now c.args.waves c.if-eq.ensures) ∙ c.index.ensures)
    ∙ set-get_or c.args.self.now.times.items c.args.router c.index.result.now)

pub returns-clause-calm : goal.returns-clause-calm
returns-clause-calm c parts placed calm =
    AreCalm-with_waves parts c.args.self.now.times.items c.args.self.now.before.items c.lower.new.before.items c.args.places.now c.args.router
    c.least_moved-most.result c.args.waves c.requires.router
    (subst (λ (was : ChangeWaves). AreMovedFrom c.least_moved-most.result was c.args.waves) (c.index.ensures
    ∙ get_or_default c.args.self.now.times.items c.args.router c.index.result.now (record { first = 1; second = 1 }) c.requires.router)
    c.least_moved-most.ensures) placed (rw c.as_slice-places.ensures at c.lower.ensures) calm
