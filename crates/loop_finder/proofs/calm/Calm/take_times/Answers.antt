use Rattle.std.proofs.Common.{◌<◌, ℕ, List, [], length, set, arith, ap, sym, ◌∙◌, subst}
use Rattle.std.proofs.Math.ListN.{length-set}
use Rattle.std.proofs.lemmas.List.{ext_get_or, get_or_default}
use Rattle.loop_finder.specs.Watches.{ArePlacesOf}
use Rattle.loop_finder.specs.declared.times.ChangeWaves.{ChangeWaves}
use Rattle.loop_finder.proofs.CalmLaws.{taken_more}
use Rattle.loop_finder.proofs.WavePhases.{read_waves}
use Rattle.loop_finder.proofs.calm.Calm.take_times.Goals as goal

pub take_waves-requires-clause-places : goal.take_waves-requires-clause-places
take_waves-requires-clause-places c =
    let within : c.loop-router.router < length c.args.pieces.now.watch.items = omega (arith, c.requires.watch.many, c.loop-router-test.true) in
    let at = c.index.ensures ∙ get_or_default c.args.pieces.now.watch.items c.loop-router.router c.index.result.now [] within in
    rw at (λ k d inside. let below = (c.requires.watch.each c.loop-router.router c.loop-router-test.true).below k d inside in
    omega (arith, below, c.loop-router.invariant.calm.many))

pub loop-router-preserved : goal.loop-router-preserved
loop-router-preserved c =
    let within : c.loop-router.router < length c.args.pieces.now.watch.items = omega (arith, c.requires.watch.many, c.loop-router-test.true) in
    let at = c.index.ensures ∙ get_or_default c.args.pieces.now.watch.items c.loop-router.router c.index.result.now [] within in
    record {
      many = ap (λ (xs : List ChangeWaves). length xs) c.take_waves.ensures.times
          ∙ length-set c.loop-router.self.times.items c.loop-router.router _ ∙ c.loop-router.invariant.many;
      taken = taken_more c.args.times.now c.loop-router.self.times.items c.take_waves.new.self.times.items c.loop-router.router
          (omega (arith, c.loop-router-test.true, c.loop-router.invariant.many))
          (c.take_waves.ensures.times ∙ ap (λ (waves : ChangeWaves). set c.loop-router.self.times.items c.loop-router.router waves)
          (read_waves c.args.times.now c.loop-router.router c.loop-router-test.true)) c.loop-router.invariant.taken;
      calm = c.take_waves.ensures.calm c.args.pieces.now.all.items
          (subst (λ (xs : List ℕ). ArePlacesOf c.args.pieces.now.all.items c.loop-router.router xs) (sym at)
          (c.requires.watch.each c.loop-router.router c.loop-router-test.true)) c.loop-router.invariant.calm;
    }

pub returns-clause-times : goal.returns-clause-times
returns-clause-times c = ext_get_or (record { first = 1; second = 1 }) c.loop-router.self.times.items c.args.times.now c.loop-router.invariant.many
    (λ u within. c.loop-router.invariant.taken u (omega (arith, within, c.loop-router.invariant.many, c.loop-router-test.false)))
