use Rattle.std.proofs.Common.{subst}
use Rattle.state_replay.specs.Journals.{IsPlace, progress}
use Rattle.state_replay.specs.declared.place.Place.TheVariants.{Reached, Departs}
use Rattle.migrate_cli.specs.ReplayDecision.{AreNext}
use Rattle.migrate_cli.specs.ReplayDecision.IsJournalDecision.{reached, departs}
use Rattle.migrate_cli.proofs.replay.judge_counting.Goals as goal

pub returns-in_ok-nexts-in-Reached : goal.returns-in_ok-nexts-in-Reached
returns-in_ok-nexts-in-Reached c =
    let net = c.args.net.now in
    let ranks = c.args.ranks.now in
    let done = c.replay.new.done in
    reached c.in-Reached.made done c.in_ok-nexts-in-Reached.nexts
    (subst (λ journal. IsPlace (progress net ranks done) journal (Reached c.in-Reached.made)) c.as_slice.ensures c.in-Reached.ensures)
    (subst (λ n. AreNext ranks done n c.in_ok-nexts-in-Reached.nexts) c.routers.ensures.count c.in_ok-nexts-in-Reached.ensures)

pub returns-in-Departs : goal.returns-in-Departs
returns-in-Departs c =
    departs c.in-Departs.line c.replay.new.done
    (subst (λ text. IsPlace (progress c.args.net.now c.args.ranks.now c.replay.new.done) text (Departs c.in-Departs.line))
    c.as_slice.ensures c.in-Departs.ensures)
