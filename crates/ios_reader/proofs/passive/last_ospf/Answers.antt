use Rattle.std.proofs.Common.{◌∙◌, sym, ap, Bool, Option}
use Rattle.ios_lines.specs.Lookups.{later}
use Rattle.ios_reader.specs.Routers.{ospf_passive_said}
use Rattle.ios_lines.specs.declared.ospf_line.OspfStatement.{OspfStatement}
use Rattle.ios_lines.proofs.LineLookups.{last_of_more}
use Rattle.ios_reader.proofs.passive.last_ospf.Goals as goal

pub loop-statement-preserved : goal.loop-statement-preserved
loop-statement-preserved c =
    c.later-last.ensures
    ∙ ap (λ (o : Option Bool). later o c.ospf_passive_said.result) c.loop-statement.invariant
    ∙ ap (later _) c.ospf_passive_said.ensures
    ∙ sym (last_of_more (λ (s : OspfStatement). ospf_passive_said c.args.name.now s.says) c.args.lines.now c.loop-statement.statement-index
    c.statement-item.result c.loop-statement-test.true c.statement-item.is)
