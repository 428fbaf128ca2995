use Rattle.std.proofs.Common.{◌≡◌, ◌∙◌, ◌*◌, ap, length, subst}
use Rattle.net_model.specs.Network.{Network}
use Rattle.explained_texts.specs.ReasonTexts.{IsReasonsText}
use Rattle.migration_report.specs.Texts.{waves_safe_text}
use Rattle.migrate_cli.specs.CheckDecision.IsWavesDecision.{safe_waves}
use Rattle.migrate_cli.specs.ExplainedTexts.{TellsBehind}
use Rattle.migrate_cli.specs.ExplainedDecision.IsExplainedWaves.{waves_reasons}
use Rattle.migrate_cli.specs.steps.Tables.{move_of}
use Rattle.migrate_cli.proofs.TableFacts.{seamless_waves}
use Rattle.migrate_cli.proofs.why.waves_reasons.Goals as goal

pub with_reasons-requires-clause-sound : goal.with_reasons-requires-clause-sound
with_reasons-requires-clause-sound c = c.requires.seamless.throughout

pub returns : goal.returns
returns c =
    let ranks = c.args.waves.now in
    let of = c.args.tables.now in
    let m = c.args.mixed.now in
    let routers : c.routers.result ≡ length of.net =
    c.routers.ensures.count ∙ ap (λ (n : Network). length n) (c.net.ensures ∙ c.requires.mixes.net_is) in
    waves_reasons c.in_ok-text.text (safe_waves (seamless_waves of m c.requires.mixes ranks c.requires.seamless))
    (subst (λ first. TellsBehind (IsReasonsText (move_of of) ranks) first c.in_ok-text.text)
    (c.in_ok-first.ensures ∙ ap (λ n. waves_safe_text (2 * n) c.count.result) routers
    ∙ ap (λ n. waves_safe_text (2 * length of.net) n) c.count.ensures) c.in_ok-text.ensures)
