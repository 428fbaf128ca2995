use Rattle.std.proofs.Common.{◌≡◌, ◌⊎◌, ◌↔◌, ◌+◌, ◌<◌, [], Contains, ℕ, ap, sym, ◌∙◌, arith, subst}
use Rattle.loop_finder.specs.Calm.{WaveStep}
use Rattle.loop_finder.specs.Parts.{part_hops}
use Rattle.loop_finder.specs.Times.{waves_of, times_in, phase_before}
use Rattle.loop_finder.specs.steps.Calm.{WaveState}
use Rattle.loop_finder.specs.declared.times.ChangeWaves.{ChangeWaves}
use Rattle.loop_finder.proofs.OnFalse.{never_at_false}
use Rattle.loop_finder.proofs.WavePhases.{begins_and_ends, begins_alone, read_waves}
use Rattle.loop_finder.proofs.calm.WaveStepsStepGraph.hops.Goals as goal

pub returns-then-not-changes_in : goal.returns-then-not-changes_in
returns-then-not-changes_in c h =
    let s = c.self.inside in
    let within : c.args.router < s.routers = subst (λ (x : WaveState). c.args.router < x.routers) (sym c.self.view_is) c.requires in
    let read = read_waves s.times.now c.args.router (omega (arith, within, c.self.invariant.each)) in
    subst (λ (x : WaveState). (Contains c.hops_in-begins.result.now h ⊎ Contains {X = ℕ} [] h)
    ↔ WaveStep x.part (times_in x.times) x.wave c.args.router h) c.self.view_is
    (begins_alone s.part.now (waves_of s.times.now c.args.router) s.wave c.args.router h c.hops_in-begins.result.now
    (c.hops_in-begins.ensures ∙ ap (part_hops s.part.now c.args.router) (c.begins.ensures
    ∙ ap (λ (waves : ChangeWaves). phase_before waves s.wave) read))
    (subst (λ (waves : ChangeWaves). ¬ ((waves.first ≡ s.wave) ⊎ (waves.second ≡ s.wave))) read
    (never_at_false c.changes_in.result c.if-not-changes_in.true c.changes_in.ensures)))

pub returns : goal.returns
returns c h =
    let s = c.self.inside in
    let within : c.args.router < s.routers = subst (λ (x : WaveState). c.args.router < x.routers) (sym c.self.view_is) c.requires in
    let read = read_waves s.times.now c.args.router (omega (arith, within, c.self.invariant.each)) in
    subst (λ (x : WaveState). (Contains c.hops_in-begins.result.now h ⊎ Contains c.hops_in.result.now h)
    ↔ WaveStep x.part (times_in x.times) x.wave c.args.router h) c.self.view_is
    (begins_and_ends s.part.now (waves_of s.times.now c.args.router) s.wave c.args.router h c.hops_in-begins.result.now c.hops_in.result.now
    (c.hops_in-begins.ensures ∙ ap (part_hops s.part.now c.args.router) (c.begins.ensures
    ∙ ap (λ (waves : ChangeWaves). phase_before waves s.wave) read))
    (c.hops_in.ensures ∙ ap (part_hops s.part.now c.args.router) (c.ends.ensures
    ∙ ap (λ (waves : ChangeWaves). phase_before waves (s.wave + 1)) read)))
