use Rattle.std.proofs.Common.{sym, subst}
use Rattle.std.specs.Prelude.{IfOk}
use Rattle.std.proofs.lemmas.Result.{IfOk-weaker}
use Rattle.survey_report.specs.KindTexts.{ListsOneSided}
use Rattle.survey_report.specs.declared.kinds.Protocol.{Protocol}
use Rattle.survey_report.proofs.kind_texts.one_sided.Goals as goal

pub returns-in-Ospf : goal.returns-in-Ospf
returns-in-Ospf c =
    subst (λ (by : Protocol). IfOk c.one_sided_in_area.result (λ found. ListsOneSided c.args.read.now.net by found.items)) (sym c.in-Ospf.is)
    (IfOk-weaker c.one_sided_in_area.result _ _ (λ found all. all c.args.read.now.net c.ports-ports.ensures) c.one_sided_in_area.ensures)

pub returns-in-Level1 : goal.returns-in-Level1
returns-in-Level1 c =
    subst (λ (by : Protocol). IfOk c.one_sided_in.result (λ found. ListsOneSided c.args.read.now.net by found.items)) (sym c.in-Level1.is)
    (IfOk-weaker c.one_sided_in.result _ _ (λ found all. all c.args.read.now.net c.ports-ports.ensures) c.one_sided_in.ensures)

pub returns-in-Level2 : goal.returns-in-Level2
returns-in-Level2 c =
    subst (λ (by : Protocol). IfOk c.one_sided_in-in-Level2.result (λ found. ListsOneSided c.args.read.now.net by found.items)) (sym c.in-Level2.is)
    (IfOk-weaker c.one_sided_in-in-Level2.result _ _ (λ found all. all c.args.read.now.net c.ports-ports.ensures) c.one_sided_in-in-Level2.ensures)
