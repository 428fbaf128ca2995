use Rattle.std.proofs.Common.{arith}
use Rattle.std.proofs.lemmas.Grind.{common_steps}
use Rattle.std.proofs.Common.{ℕ, List, subst, sym}
use Rattle.state_replay.specs.Journals.{HasReached, IsPlace, progress}
use Rattle.state_replay.specs.declared.place.Place.TheVariants.{Departs}
use Rattle.migration_report.specs.declared.decision.Decision.TheVariants.{WayBack}
use Rattle.migrate_cli.specs.ReplayDecision.{journal_of}
use Rattle.migrate_cli.specs.RollbackDecision.{IsWayBack}
use Rattle.migrate_cli.specs.RollbackDecision.IsWayBack.{departs, taken_back}
use Rattle.live_replan.specs.BackTexts.{TellsChanges}
use Rattle.migrate_cli.proofs.RollbackLaws.{reached_tells}
use Rattle.migrate_cli.proofs.rollback.take_counted_back.Goals as goal

pub back_text-requires : goal.back_text-requires
back_text-requires c = grind (arith, common_steps, reached_tells)

pub returns-in_ok-text-in-Reached : goal.returns-in_ok-text-in-Reached
returns-in_ok-text-in-Reached c =
    let net = c.args.net.now in
    let ranks = c.args.ranks.now in
    let done = c.replay.new.done in
    let journal = journal_of c.args.journal.now net in
    let at = subst (λ (text : List ℕ). HasReached (progress net ranks done) text c.in-Reached.field-0) c.as_slice.ensures c.in-Reached.ensures in
    let text = c.in_ok-text-in-Reached.ensures at.changes
    (subst (λ (t : List ℕ). TellsChanges net t at.changes) (sym c.as_slice-in-Reached.ensures) (reached_tells journal ranks done c.in-Reached.field-0 at)) in
    subst (λ (t : List ℕ). IsWayBack journal ranks (WayBack t)) (sym text) (taken_back c.in-Reached.field-0 done at)

pub returns-in-Departs : goal.returns-in-Departs
returns-in-Departs c =
    departs c.in-Departs.line c.replay.new.done
    (subst (λ text. IsPlace (progress c.args.net.now c.args.ranks.now c.replay.new.done) text (Departs c.in-Departs.line))
    c.as_slice.ensures c.in-Departs.ensures)
