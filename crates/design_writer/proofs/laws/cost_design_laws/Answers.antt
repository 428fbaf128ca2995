use Rattle.design_writer.proofs.OneText.{one_text}
use Rattle.design_writer.proofs.TextNames.{text_names}
use Rattle.design_writer.proofs.laws.cost_design_laws.Goals as goal

pub returns-clause-one : goal.returns-clause-one
returns-clause-one c = one_text

pub returns-clause-names : goal.returns-clause-names
returns-clause-names c = text_names
