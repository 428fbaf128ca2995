use Rattle.std.proofs.Common.{◌≡◌, ◌+◌, ◌∙◌, ◌<◌, length, All, ap, subst, sym, arith, length-append}
use Rattle.std.specs.Int.{div_ceil}
use Rattle.std.proofs.lemmas.List.Kept.{AllPairs-from_increasing}
use Rattle.std.proofs.lemmas.Result.{IfOk-weaker}
use Rattle.order_core.specs.Orders.{AreDistinct}
use Rattle.order_core.specs.Rankings.{IsRanking, wave_count, wave_of, waves_before}
use Rattle.order_core.proofs.WaveLists.{wave_ascends, waves_length, waves_more}
use Rattle.step_scripts.specs.WavesTexts.{waves_in}
use Rattle.step_scripts.proofs.TextFacts.{wave_below}
use Rattle.split_waves.specs.steps.Seats.{AreRankedByCuts, AreSplit, seating}
use Rattle.split_waves.proofs.CutWaves.{split_more, split_ranking, split_waves_are}
use Rattle.split_waves.proofs.split.split_waves.Goals as goal

pub seat_cuts-count-requires-clause-once : goal.seat_cuts-count-requires-clause-once
seat_cuts-count-requires-clause-once c =
    let ranks = c.args.waves.now in
    subst AreDistinct (sym c.wave.ensures) (λ i j d before within same.
    let apart = AllPairs-from_increasing (wave_of ranks c.loop-wave.wave) (wave_ascends ranks c.loop-wave.wave) i j d before within in
    omega (arith, apart, same))

pub seat_cuts-count-requires-clause-known : goal.seat_cuts-count-requires-clause-known
seat_cuts-count-requires-clause-known c =
    let many = length c.loop-wave.ranks.items in
    subst (All (λ u. u < many)) (sym c.wave.ensures) (wave_below c.args.waves.now c.loop-wave.wave many (sym c.loop-wave.invariant.each))

pub seat_cuts-count-requires-clause-few : goal.seat_cuts-count-requires-clause-few
seat_cuts-count-requires-clause-few c =
    let ranks = c.args.waves.now in
    let w = c.loop-wave.wave in
    let more = ap length (waves_more ranks w) ∙ length-append (waves_before ranks w) (wave_of ranks w) in
    omega (arith, c.loop-wave.invariant.few, ap length c.wave.ensures, more, waves_length ranks (w + 1), c.ranks.ensures.few)

pub loop-wave-preserved : goal.loop-wave-preserved
loop-wave-preserved c =
    let ranks = c.args.waves.now in
    let w = c.loop-wave.wave in
    let after = c.seat_cuts-count.new.ranks.items in
    let count : c.seat_cuts-count.result ≡ c.loop-wave.count + div_ceil (length (wave_of ranks w)) c.args.most =
    c.seat_cuts-count.ensures.count ∙ ap (λ l. c.loop-wave.count + div_ceil (length l) c.args.most) c.wave.ensures in
    subst (λ n. AreSplit c.args.most ranks (w + 1) n after) (sym count)
    (split_more c.args.most ranks c.requires w c.loop-wave.count c.loop-wave.ranks.items after c.loop-wave.invariant
    (subst (λ l. AreRankedByCuts c.args.most c.loop-wave.count l (seating c.loop-wave.ranks.items after)) c.wave.ensures c.seat_cuts-count.ensures.seated))

pub from_ranks-requires-clause-ranking : goal.from_ranks-requires-clause-ranking
from_ranks-requires-clause-ranking c =
    let all : c.loop-wave.wave ≡ wave_count c.args.waves.now = omega (arith, c.loop-wave-test.false, c.loop-wave.auto.wave-end, c.count-wave-end.ensures) in
    subst (λ l. IsRanking (length l) l) (sym c.as_slice.ensures.value)
    (split_ranking c.args.most c.args.waves.now c.requires c.loop-wave.wave c.loop-wave.count c.loop-wave.ranks.items all c.loop-wave.invariant)

pub returns-clause-ranking : goal.returns-clause-ranking
returns-clause-ranking c =
    let all : c.loop-wave.wave ≡ wave_count c.args.waves.now = omega (arith, c.loop-wave-test.false, c.loop-wave.auto.wave-end, c.count-wave-end.ensures) in
    let ranking = split_ranking c.args.most c.args.waves.now c.requires c.loop-wave.wave c.loop-wave.count c.loop-wave.ranks.items all c.loop-wave.invariant in
    let long = subst (λ n. IsRanking n c.loop-wave.ranks.items) c.loop-wave.invariant.each ranking in
    IfOk-weaker c.from_ranks.result _ _ (λ split same. subst (IsRanking (length c.args.waves.now)) (sym (same ∙ c.as_slice.ensures.value)) long)
    c.from_ranks.ensures

pub returns-clause-cuts : goal.returns-clause-cuts
returns-clause-cuts c =
    let all : c.loop-wave.wave ≡ wave_count c.args.waves.now = omega (arith, c.loop-wave-test.false, c.loop-wave.auto.wave-end, c.count-wave-end.ensures) in
    let are = split_waves_are c.args.most c.args.waves.now c.requires c.loop-wave.wave c.loop-wave.count c.loop-wave.ranks.items all c.loop-wave.invariant in
    IfOk-weaker c.from_ranks.result _ _ (λ split same. ap waves_in (same ∙ c.as_slice.ensures.value) ∙ are) c.from_ranks.ensures
