use Rattle.std.proofs.Common.{ℕ, List, sym, subst}
use Rattle.std.proofs.lemmas.Result.{IfOk-weaker}
use Rattle.igp_theory.specs.Migrations.{ospf_to_isis}
use Rattle.step_scripts.specs.FaultyLines.{IsLeastFaultyLine, RefusesWaves}
use Rattle.step_scripts.specs.WaveFiles.{NamesWaves}
use Rattle.migration_report.specs.declared.decision.Decision.TheVariants.{BadOrder}
use Rattle.migrate_cli.specs.Reading.{named_text}
use Rattle.migrate_cli.specs.ReplanDecision.{IsReplanDecision, IsRestPlanned}
use Rattle.migrate_cli.specs.ReplanDecision.IsReplanDecision.{faulty_waves, of_waves}
use Rattle.migrate_cli.specs.ReplayDecision.{journal_of}
use Rattle.migrate_cli.proofs.AnswerFacts.{from_equal}
use Rattle.migrate_cli.proofs.replan.judge_replan.Goals as goal

pub returns-in-Err-Bad : goal.returns-in-Err-Bad
returns-in-Err-Bad c =
    let net = c.args.net.now in
    let line = c.in-Err-Bad.line in
    let kind = c.in-Err-Bad.kind in
    from_equal c.bad_order.result (BadOrder c.args.order.0.now line kind)
    (IsReplanDecision (named_text c.args.order.0.now c.args.order.1.now) (journal_of c.args.journal.now net) c.args.budget) c.bad_order.ensures
    (faulty_waves line kind
    (subst (λ text. IsLeastFaultyLine net text line kind) c.as_slice.ensures
    (subst (RefusesWaves net c.as_slice.result.now) c.in-Err-Bad.field-0-is c.in-Err-Bad.ensures.err)))

pub returns : goal.returns
returns c =
    let net = c.args.net.now in
    let read = c.in-Ok.read in
    let journal = journal_of c.as_slice-2.result.now net in
    IfOk-weaker c.replan_journal.result (IsRestPlanned (ospf_to_isis net) journal c.ranks.result.now c.args.budget)
    (IsReplanDecision (named_text c.args.order.0.now c.args.order.1.now) (journal_of c.args.journal.now net) c.args.budget)
    (λ decision is. of_waves read.version c.ranks.result.now decision
    (subst (NamesWaves net c.args.order.1.now read.version) (sym c.ranks.ensures.ranks)
    (subst (λ text. NamesWaves net text read.version read.waves) c.as_slice.ensures c.in-Ok.ensures.ok))
    (subst (λ (text : List ℕ). IsRestPlanned (ospf_to_isis net) (journal_of text net) c.ranks.result.now c.args.budget decision)
    c.as_slice-2.ensures is))
    c.replan_journal.ensures
