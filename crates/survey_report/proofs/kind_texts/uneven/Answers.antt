use Rattle.std.proofs.Common.{sym, subst}
use Rattle.std.specs.Prelude.{IfOk}
use Rattle.std.proofs.lemmas.Result.{IfOk-weaker}
use Rattle.survey_report.specs.KindTexts.{ListsUneven}
use Rattle.survey_report.specs.declared.kinds.Protocol.{Protocol}
use Rattle.survey_report.proofs.kind_texts.uneven.Goals as goal

pub returns-in-Ospf : goal.returns-in-Ospf
returns-in-Ospf c =
    subst (λ (by : Protocol). IfOk c.uneven_in_area.result (λ found. ListsUneven c.args.read.now.net by found.items)) (sym c.in-Ospf.is)
    (IfOk-weaker c.uneven_in_area.result _ _ (λ found all. all c.args.read.now.net c.ports-ports.ensures) c.uneven_in_area.ensures)

pub returns-in-Level1 : goal.returns-in-Level1
returns-in-Level1 c =
    subst (λ (by : Protocol). IfOk c.uneven_in.result (λ found. ListsUneven c.args.read.now.net by found.items)) (sym c.in-Level1.is)
    (IfOk-weaker c.uneven_in.result _ _ (λ found all. all c.args.read.now.net c.ports-ports.ensures) c.uneven_in.ensures)

pub returns-in-Level2 : goal.returns-in-Level2
returns-in-Level2 c =
    subst (λ (by : Protocol). IfOk c.uneven_in-in-Level2.result (λ found. ListsUneven c.args.read.now.net by found.items)) (sym c.in-Level2.is)
    (IfOk-weaker c.uneven_in-in-Level2.result _ _ (λ found all. all c.args.read.now.net c.ports-ports.ensures) c.uneven_in-in-Level2.ensures)
