use Rattle.std.proofs.Common.{◌*◌, ◌<◌, length, All, codes, sym, ap, subst}
use Rattle.step_scripts.proofs.TextFacts.{chain_routers, wave_below}
use Rattle.net_model.specs.RouterNames.{names_of}
use Rattle.change_orders.specs.TwoTexts.{items_line}
use Rattle.change_orders.proofs.TwoTextFacts.{text_more}
use Rattle.change_orders.proofs.writing.two_text.Goals as goal

pub items_line-requires : goal.items_line-requires
items_line-requires c =
    subst (All (λ i. i < 2 * length c.args.net.now)) (sym c.wave.ensures)
    (wave_below c.args.waves.now c.loop-wave.wave (2 * length c.args.net.now) c.requires.ranks)

pub loop-wave-preserved : goal.loop-wave-preserved
loop-wave-preserved c =
    let names = names_of c.args.net.now in
    let more = text_more names c.args.waves.now c.loop-wave.wave in
    let line = ap (items_line names (codes "wave")) c.wave.ensures in
    cc (more, line, c.in_ok-text-2.ensures, c.in_ok-items_line.ensures, c.loop-wave.invariant)

pub items_line-requires-2 : goal.items_line-requires-2
items_line-requires-2 c = chain_routers c.args.waves.now c.args.chain.now (2 * length c.args.net.now) c.requires.ranks c.requires.chain
