use Rattle.std.proofs.Common.{◌≡◌, ◌∙◌, ◌*◌, ap, length, refl, subst, sym}
use Rattle.igp_theory.specs.Waves.{AreSeamlessWaves}
use Rattle.net_model.specs.Network.{Network}
use Rattle.order_core.specs.Rankings.{IsRanking}
use Rattle.ospf_routes.specs.RouteTables.{table_at}
use Rattle.rib_mix.specs.Mixture.{migration_of}
use Rattle.split_waves.proofs.OneRouterWaves.{order_of_waves}
use Rattle.explained_texts.specs.ReasonTexts.{IsReasonsText}
use Rattle.migration_report.specs.Texts.{safe_text}
use Rattle.migrate_cli.specs.CheckDecision.IsOrderDecision.{safe}
use Rattle.migrate_cli.specs.ExplainedTexts.{TellsBehind}
use Rattle.migrate_cli.specs.ExplainedDecision.IsExplainedOrder.{order_reasons}
use Rattle.migrate_cli.specs.steps.Tables.{move_of, new_table}
use Rattle.migrate_cli.proofs.TableFacts.{seamless_order, seamless_waves}
use Rattle.migrate_cli.proofs.why.order_reasons.Goals as goal

pub with_reasons-requires-clause-sound : goal.with_reasons-requires-clause-sound
with_reasons-requires-clause-sound c =
    let ranks = c.args.waves.now in
    let net = c.args.mixed.now.net in
    let each : length ranks ≡ length net = c.requires.each ∙ ap (λ (n : Network). length n) (sym c.requires.mixes.net_is) in
    (order_of_waves (migration_of table_at new_table c.args.mixed.now) ranks (λ u. refl)
    (subst (λ n. IsRanking n ranks) each c.ranks-ranks.ensures.ranking) c.requires.ones c.requires.seamless).throughout

pub returns : goal.returns
returns c =
    let ranks = c.args.waves.now in
    let of = c.args.tables.now in
    let m = c.args.mixed.now in
    let each : length ranks ≡ length m.net = c.requires.each ∙ ap (λ (n : Network). length n) (sym c.requires.mixes.net_is) in
    let seamless : AreSeamlessWaves (migration_of table_at new_table m) ranks = order_of_waves (migration_of table_at new_table m) ranks (λ u. refl)
    (subst (λ n. IsRanking n ranks) each c.ranks-ranks.ensures.ranking) c.requires.ones c.requires.seamless in
    let routers : c.routers.result ≡ length of.net =
    c.routers.ensures.count ∙ ap (λ (n : Network). length n) (c.net.ensures ∙ c.requires.mixes.net_is) in
    order_reasons c.in_ok-text.text (safe (seamless_order of m c.requires.mixes _ c.requires.seamless))
    (seamless_waves of m c.requires.mixes ranks seamless)
    (subst (λ first. TellsBehind (IsReasonsText (move_of of) ranks) first c.in_ok-text.text)
    (c.in_ok-first.ensures ∙ ap (λ n. safe_text (2 * n)) routers) c.in_ok-text.ensures)
