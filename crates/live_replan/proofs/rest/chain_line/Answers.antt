use Rattle.std.proofs.Common.{◌<◌, All, length, sym, subst, ◌∙◌}
use Rattle.std.proofs.lemmas.List.Elements.{All-contains}
use Rattle.step_scripts.proofs.TextFacts.{chain_routers, wave_below}
use Rattle.live_replan.specs.RestTexts.{has_rest}
use Rattle.live_replan.proofs.RestFacts.{found_in}
use Rattle.live_replan.proofs.rest.chain_line.Goals as goal

pub with_names-requires : goal.with_names-requires
with_names-requires c = chain_routers c.args.waves.now c.args.chain.now (length c.args.net.now) c.requires.ranks c.requires.chain

pub router_name-requires : goal.router_name-requires
router_name-requires c =
    let it = found_in (has_rest c.args.start.now) c.wave.result.now c.in-Some.router (sym c.lowest_left.ensures ∙ c.in-Some.is) in
    All-contains (λ u. u < length c.args.net.now) c.wave.result.now c.in-Some.router
    (subst (All (λ u. u < length c.args.net.now)) (sym c.wave.ensures) (wave_below c.args.waves.now 0 (length c.args.net.now) c.requires.ranks)) it.among
