use Rattle.std.proofs.Common.{◌≡◌, ◌∙◌, ◌*◌, List, ℕ, ap, arith, length, subst}
use Rattle.igp_theory.specs.Timetables.{change_times}
use Rattle.net_model.specs.Network.{Network}
use Rattle.explained_changes.specs.ChangeReasonTexts.{IsChangeReasonsText}
use Rattle.migration_report.specs.Texts.{waves_safe_text}
use Rattle.migrate_cli.specs.ChangesDecision.IsChangesDecision.{safe_changes}
use Rattle.migrate_cli.specs.ExplainedChanges.AreExplainedChanges.{changes_reasons}
use Rattle.migrate_cli.specs.ExplainedTexts.{TellsBehind}
use Rattle.migrate_cli.specs.steps.Tables.{move_of}
use Rattle.migrate_cli.proofs.ExplainedFacts.{change_reasons_of}
use Rattle.migrate_cli.proofs.TableFacts.{sound_throughout}
use Rattle.migrate_cli.proofs.why_changes.changes_reasons.Goals as goal

pub change_reasons_text-requires-clause-few : goal.change_reasons_text-requires-clause-few
change_reasons_text-requires-clause-few c = omega (arith, c.requires.few)

pub returns : goal.returns
returns c =
    let ranks = c.args.waves.now in
    let of = c.args.tables.now in
    let m = c.args.mixed.now in
    let text = c.in_ok-text.text in
    let reasons = c.in_ok-reasons.reasons in
    let routers : c.routers.result ≡ length of.net =
    c.routers.ensures.count ∙ ap (λ (n : Network). length n) (c.net.ensures ∙ c.requires.mixes.net_is) in
    changes_reasons text (safe_changes (sound_throughout of m c.requires.mixes (change_times ranks) c.requires.sound))
    (subst (λ (first : List ℕ). TellsBehind (IsChangeReasonsText (move_of of) ranks) first text)
    (c.in_ok-first.ensures ∙ ap (λ n. waves_safe_text (2 * n) c.count.result) routers
    ∙ ap (λ n. waves_safe_text (2 * length of.net) n) c.count.ensures)
    (record {
      behind = reasons;
      told = change_reasons_of of m c.requires.mixes ranks reasons c.in_ok-reasons.ensures;
      text_is = c.in_ok-text.ensures;
    }))
