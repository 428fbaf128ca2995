use Rattle.std.proofs.lemmas.Grind.{common_steps}
use Rattle.std.proofs.Common.{◌≡◌, ℕ, ◌+◌, List, ◌++◌, length, sym, ap, ◌∙◌, arith}
use Rattle.order_core.specs.Rankings.{wave_of, waves_before}
use Rattle.order_core.proofs.WaveLists.{waves_more, waves_length}
use Rattle.order_core.proofs.WaveSteps.{starts_more}
use Rattle.order_core.proofs.waves.Waves.from_ranks.Goals as goal

-- one wave more is written
flat_more : (ranks flat new : List ℕ) (w : ℕ) → flat ≡ waves_before ranks w → new ≡ flat ++ wave_of ranks w → new ≡ waves_before ranks (w + 1)
flat_more ranks flat new w was is = is ∙ ap (λ (xs : List ℕ). xs ++ wave_of ranks w) was ∙ sym (waves_more ranks w)

pub overflow_cast-len : goal.overflow_cast-len
overflow_cast-len c =
    let flat = flat_more c.args.ranks.now c.loop-wave.flat.items c.push_wave.new.flat.items c.loop-wave.wave c.loop-wave.invariant.flat
    c.in_ok-push_wave.ensures in
    omega (arith, c.len.ensures, c.push_wave.new.flat.ok.0, ap length flat, waves_length c.args.ranks.now (c.loop-wave.wave + 1), c.requires.few)

pub loop-wave-preserved : goal.loop-wave-preserved
loop-wave-preserved c = grind (arith, common_steps, flat_more, starts_more)
