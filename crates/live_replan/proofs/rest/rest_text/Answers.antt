use Rattle.std.proofs.Common.{◌≡◌, ◌<◌, ◌∷◌, ◌++◌, [], length, map, All, ap, subst, sym, ◌∙◌}
use Rattle.std.specs.Prelude.{codes}
use Rattle.net_model.specs.RouterNames.{names_of}
use Rattle.order_core.specs.Rankings.{numbers_below, wave_of}
use Rattle.printed_lines.specs.Texts.{text_of}
use Rattle.step_scripts.specs.WavesTexts.{named_line, wave_lines}
use Rattle.step_scripts.proofs.TextFacts.{wave_below}
use Rattle.live_replan.specs.RestTexts.{rest_header, rest_of}
use Rattle.live_replan.proofs.RestFacts.{text_more}
use Rattle.live_replan.proofs.rest.rest_text.Goals as goal

pub rest_line-requires : goal.rest_line-requires
rest_line-requires c =
    subst (All (λ u. u < length c.args.net.now)) (sym c.wave.ensures) (wave_below c.args.waves.now c.loop-wave.wave (length c.args.net.now) c.requires.ranks)

pub loop-wave-preserved : goal.loop-wave-preserved
loop-wave-preserved c =
    let names = names_of c.args.net.now in
    let start = c.args.start.now in
    let waves = c.args.waves.now in
    let w = c.loop-wave.wave in
    let before = text_of (rest_header ∷ wave_lines names (map (rest_of start) (map (wave_of waves) (numbers_below w)))) in
    let line : c.in_ok-line-2.line ≡ named_line names (codes "wave") (rest_of start (wave_of waves w)) =
    c.in_ok-line-2.ensures ∙ ap (λ l. named_line names (codes "wave") (rest_of start l)) c.wave.ensures in
    c.in_ok-text-2.ensures ∙ ap (λ t. t ++ c.in_ok-line-2.line ++ 10 ∷ []) c.loop-wave.invariant
    ∙ ap (λ l. before ++ l ++ 10 ∷ []) line ∙ text_more names start waves w
