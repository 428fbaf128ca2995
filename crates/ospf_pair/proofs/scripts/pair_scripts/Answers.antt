use Rattle.std.proofs.Common.{◌≡◌, ◌<◌, ℕ, ◌+◌, ◌*◌, List, ◌++◌, length, get_or, Contains, sym, ap, subst, ◌∙◌, arith}
use Rattle.std.proofs.lemmas.List.Elements.{Contains-get_or}
use Rattle.order_core.specs.Rankings.{flat_of}
use Rattle.order_core.proofs.WaveLists.{flat_is_order}
use Rattle.igp_theory.specs.Changes.{first, second}
use Rattle.printed_lines.specs.Texts.{text_of}
use Rattle.ospf_pair.specs.PairScripts.{PairScripted, pair_scripted, pair_part}
use Rattle.ospf_pair.proofs.ScriptParts.{text_more}
use Rattle.ospf_pair.proofs.scripts.pair_scripts.Goals as goal

-- the routers of the flat run are those of the network
flat_below : (ranks flat : List ℕ) (count place : ℕ) → flat ≡ flat_of ranks → length ranks ≡ count → place < length flat →
    get_or flat place 0 < count
flat_below ranks flat count place same each within =
    let among : Contains (flat_of ranks) (get_or flat place 0) =
    subst (λ (l : List ℕ). Contains l (get_or flat place 0)) same (Contains-get_or flat place 0 within) in
    let below = ((flat_is_order ranks).all (get_or flat place 0)).0 among in
    omega (arith, below, each)

pub with_first-requires-clause-router : goal.with_first-requires-clause-router
with_first-requires-clause-router c =
    flat_below c.args.file.now.waves c.flat-router-items.result.now (length c.args.pair.now.old) c.loop-place.place c.flat-router-items.ensures
    c.requires c.loop-place-test.true

pub with_second-requires : goal.with_second-requires
with_second-requires c =
    flat_below c.args.file.now.waves c.flat-router-items.result.now (length c.args.pair.now.old) c.loop-place.place c.flat-router-items.ensures
    c.requires c.loop-place-test.true

pub loop-place-preserved : goal.loop-place-preserved
loop-place-preserved c =
    let m : PairScripted = pair_scripted c.args.file.now.version c.args.pair.now c.args.file.now.waves in
    let place = c.loop-place.place in
    let u : ℕ = get_or c.flat-router-items.result.now place 0 in
    let within : place < length (flat_of m.ranks) = omega (arith, c.loop-place-test.true, ap length c.flat-router-items.ensures) in
    c.in_ok-text-2.ensures
    ∙ ap (λ (t : List ℕ). t ++ text_of (pair_part m (2 * place + 2) (second u)))
    (c.in_ok-text.ensures ∙ ap (λ (t : List ℕ). t ++ text_of (pair_part m (2 * place + 1) (first u))) c.loop-place.invariant)
    ∙ sym (text_more m (flat_of m.ranks) place u 0 within (ap (λ (l : List ℕ). get_or l place 0) c.flat-router-items.ensures))
