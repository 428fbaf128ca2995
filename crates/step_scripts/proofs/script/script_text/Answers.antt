use Rattle.std.proofs.lemmas.Grind.{common_steps}
use Rattle.std.proofs.Common.{◌≡◌, ◌<◌, ℕ, ◌+◌, ◌*◌, List, ◌++◌, length, get_or, Contains, sym, ap, subst, ◌∙◌, arith}
use Rattle.std.proofs.lemmas.List.Elements.{Contains-get_or}
use Rattle.order_core.specs.Rankings.{flat_of}
use Rattle.order_core.proofs.WaveLists.{flat_is_order}
use Rattle.igp_theory.specs.Changes.{first, second}
use Rattle.printed_lines.specs.Texts.{text_of}
use Rattle.step_scripts.specs.Scripts.{Scripted, scripted, change_part}
use Rattle.step_scripts.proofs.ScriptFacts.{text_more}
use Rattle.step_scripts.proofs.script.script_text.Goals as goal

-- the routers of the flat run are those of the network
flat_below : (ranks flat : List ℕ) (count place : ℕ) → flat ≡ flat_of ranks → length ranks ≡ count → place < length flat →
    get_or flat place 0 < count
flat_below ranks flat count place same each within =
    let among : Contains (flat_of ranks) (get_or flat place 0) =
    subst (λ (l : List ℕ). Contains l (get_or flat place 0)) same (Contains-get_or flat place 0 within) in
    let below = ((flat_is_order ranks).all (get_or flat place 0)).0 among in
    omega (arith, below, each)

pub with_first-requires-clause-router : goal.with_first-requires-clause-router
with_first-requires-clause-router c = grind (arith, common_steps, flat_below)

pub with_second-requires : goal.with_second-requires
with_second-requires c = grind (arith, common_steps, flat_below)

pub loop-place-preserved : goal.loop-place-preserved
loop-place-preserved c =
    let m : Scripted = scripted c.args.version c.args.net.now c.args.waves.now in
    let place = c.loop-place.place in
    let u : ℕ = get_or c.flat-router-items.result.now place 0 in
    let within : place < length (flat_of m.ranks) = omega (arith, c.loop-place-test.true, ap length c.flat-router-items.ensures) in
    c.in_ok-text-2.ensures
    ∙ ap (λ (t : List ℕ). t ++ text_of (change_part m (2 * place + 2) (second u)))
    (c.in_ok-text.ensures ∙ ap (λ (t : List ℕ). t ++ text_of (change_part m (2 * place + 1) (first u))) c.loop-place.invariant)
    ∙ sym (text_more m (flat_of m.ranks) place u 0 within (ap (λ (l : List ℕ). get_or l place 0) c.flat-router-items.ensures))
