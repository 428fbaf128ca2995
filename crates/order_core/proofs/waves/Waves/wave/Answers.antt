use Rattle.std.proofs.lemmas.Grind.{common_steps}
use Rattle.std.proofs.Common.{◌≡◌, ℕ, ◌+◌, ◌<◌, List, length, get_or, ap, ◌∙◌, sym, arith, subst}
use Rattle.order_core.specs.HeldWaves.{starts_of}
use Rattle.order_core.specs.Rankings.{wave_count, waves_before}
use Rattle.order_core.proofs.WaveSteps.{starts_length, starts_at, IsWavePart, wave_part}
use Rattle.order_core.proofs.waves.Waves.wave.Goals as goal

pub index-requires : goal.index-requires
index-requires c = grind (arith, common_steps, starts_length)

pub index-requires-2 : goal.index-requires-2
index-requires-2 c = grind (arith, common_steps, starts_length)

-- a place that is read from the starts is where a wave begins
start_is : (ranks starts : List ℕ) (w now : ℕ) → starts ≡ starts_of ranks (wave_count ranks + 1) → w < wave_count ranks + 1 →
    now ≡ get_or starts w now →
    now ≡ length (waves_before ranks w)
start_is ranks starts w now are below is = is ∙ ap (λ (xs : List ℕ). get_or xs w now) are ∙ starts_at ranks (wave_count ranks + 1) w now below

part_is : (ranks starts : List ℕ) (w start end : ℕ) → starts ≡ starts_of ranks (wave_count ranks + 1) → w < wave_count ranks →
    start ≡ get_or starts w start →
    end ≡ get_or starts (w + 1) end → IsWavePart ranks w start end
part_is ranks starts w start end are below begins ends =
    let first = start_is ranks starts w start are (omega arith) begins in
    let last = start_is ranks starts (w + 1) end are (omega arith) ends in
    subst (λ (n : ℕ). IsWavePart ranks w start n) (sym last)
    (subst (λ (n : ℕ). IsWavePart ranks w n (length (waves_before ranks (w + 1)))) (sym first) (wave_part ranks w below))

pub slice_bounds-result-count : goal.slice_bounds-result-count
slice_bounds-result-count c =
    let ranks : List ℕ = c.self.inside.ranks.items in
    let below : c.args.wave < wave_count ranks = subst (λ (r : List ℕ). c.args.wave < wave_count r) (sym c.self.view_is) c.requires in
    (part_is ranks c.self.inside.starts.items c.args.wave c.index.result.now c.index-2.result.now c.self.invariant.starts below c.index.ensures
    c.index-2.ensures).rises

pub slice_bounds-result-start : goal.slice_bounds-result-start
slice_bounds-result-start c =
    let ranks : List ℕ = c.self.inside.ranks.items in
    let below : c.args.wave < wave_count ranks = subst (λ (r : List ℕ). c.args.wave < wave_count r) (sym c.self.view_is) c.requires in
    let part = part_is ranks c.self.inside.starts.items c.args.wave c.index.result.now c.index-2.result.now c.self.invariant.starts below
    c.index.ensures c.index-2.ensures in
    omega (arith, part.rises, part.within, ap length c.self.invariant.flat, ap length c.deref.ensures.value)

pub slice_bounds-result-end : goal.slice_bounds-result-end
slice_bounds-result-end c =
    let ranks : List ℕ = c.self.inside.ranks.items in
    let below : c.args.wave < wave_count ranks = subst (λ (r : List ℕ). c.args.wave < wave_count r) (sym c.self.view_is) c.requires in
    let part = part_is ranks c.self.inside.starts.items c.args.wave c.index.result.now c.index-2.result.now c.self.invariant.starts below
    c.index.ensures c.index-2.ensures in
    omega (arith, part.rises, part.within, ap length c.self.invariant.flat, ap length c.deref.ensures.value)

pub returns : goal.returns
returns c = grind (arith, common_steps, part_is)
