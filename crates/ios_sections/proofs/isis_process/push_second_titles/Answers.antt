use Rattle.std.proofs.Common.{◌<◌, Bool, ◌||◌, length, sym, ap, ◌∙◌}
use Rattle.ios_sections.specs.ProcessFaults.{is_net}
use Rattle.ios_sections.proofs.TitleFacts.{titles_taken, any_more}
use Rattle.ios_sections.proofs.isis_process.push_second_titles.Goals as goal

pub loop-statement-preserved : goal.loop-statement-preserved
loop-statement-preserved c =
    let within : c.loop-statement.statement-index < length c.args.lines.now = c.loop-statement-test.true in
    record {
      faults = titles_taken c.args.lines.now c.loop-statement.statement-index c.statement-item.result c.args.faults.now.items _ _ _ _ within
          c.statement-item.is c.loop-statement.invariant.faults c.loop-statement.invariant.titled c.is_second_title-second.ensures
          c.in_ok-push_fault_if.ensures;
      titled = c.titled_after-titled.ensures
          ∙ ap (λ (b : Bool). b || is_net c.statement-item.result) c.loop-statement.invariant.titled
          ∙ sym (any_more c.args.lines.now c.loop-statement.statement-index c.statement-item.result within c.statement-item.is);
    }
