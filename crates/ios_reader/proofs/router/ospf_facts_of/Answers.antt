use Rattle.std.proofs.Common.{◌<◌, length, sym, ap, ◌∙◌}
use Rattle.ios_reader.specs.steps.ProcessFacts.{ospf_noted}
use Rattle.ios_reader.specs.declared.router.OspfFacts.{OspfFacts}
use Rattle.ios_reader.proofs.ProcessLookups.{ospf_facts_more}
use Rattle.ios_reader.proofs.router.ospf_facts_of.Goals as goal

pub loop-statement-preserved : goal.loop-statement-preserved
loop-statement-preserved c =
    let within : c.loop-statement.statement-index < length c.args.lines.now = c.loop-statement-test.true in
    c.note_ospf.ensures
    ∙ ap (λ (f : OspfFacts). ospf_noted f c.statement-item.result) c.loop-statement.invariant
    ∙ sym (ospf_facts_more c.args.lines.now c.loop-statement.statement-index c.statement-item.result within c.statement-item.is)
