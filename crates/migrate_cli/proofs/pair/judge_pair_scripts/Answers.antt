use Rattle.std.proofs.Common.{subst, sym}
use Rattle.net_model.specs.Network.{Network}
use Rattle.step_scripts.specs.FaultyLines.{IsLeastFaultyLine, RefusesWaves}
use Rattle.step_scripts.specs.WaveFiles.{NamesWaves}
use Rattle.migration_report.specs.declared.decision.Decision.TheVariants.{BadOrder, PairScript}
use Rattle.migrate_cli.specs.PairDecision.{IsScriptOfPair}
use Rattle.migrate_cli.specs.PairDecision.IsScriptOfPair.{faulty_waves, of_waves}
use Rattle.migrate_cli.specs.Reading.{named_text}
use Rattle.migrate_cli.proofs.AnswerFacts.{from_equal}
use Rattle.migrate_cli.proofs.pair.judge_pair_scripts.Goals as goal

pub returns-in_ok-text-in-Ok : goal.returns-in_ok-text-in-Ok
returns-in_ok-text-in-Ok c =
    let read = c.in-Ok.read in
    let nets = c.args.pair.now in
    subst (λ text. IsScriptOfPair nets (named_text c.args.file.now c.args.order.now) (PairScript text)) (sym c.in_ok-text-in-Ok.ensures)
    (of_waves read.version read.waves
    (subst (λ text. NamesWaves nets.old text read.version read.waves) c.as_slice.ensures
    (subst (λ (net : Network). NamesWaves net c.as_slice.result.now read.version read.waves) c.old.ensures.network c.in-Ok.ensures.ok)))

pub returns-in-Err-Bad : goal.returns-in-Err-Bad
returns-in-Err-Bad c =
    let nets = c.args.pair.now in
    let line = c.in-Err-Bad.line in
    let kind = c.in-Err-Bad.kind in
    from_equal c.bad_order.result (BadOrder c.args.file.now line kind) (IsScriptOfPair nets (named_text c.args.file.now c.args.order.now))
    c.bad_order.ensures
    (faulty_waves line kind
    (subst (λ text. IsLeastFaultyLine nets.old text line kind) c.as_slice.ensures
    (subst (λ (net : Network). IsLeastFaultyLine net c.as_slice.result.now line kind) c.old.ensures.network
    (subst (RefusesWaves c.old.result.now c.as_slice.result.now) c.in-Err-Bad.field-0-is c.in-Err-Bad.ensures.err))))
