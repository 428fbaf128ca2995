use Rattle.design_file.proofs.AnswerLaws.{one_design, one_text_refusal, design_or_refusal, one_settled, one_design_refusal, settled_or_refusal}
use Rattle.design_file.proofs.IsisInterfaces.{settled_interfaces_law}
use Rattle.design_file.proofs.laws.design_laws.Goals as goal

pub returns : goal.returns
returns c = record {
  one_design = one_design;
  one_text_refusal = one_text_refusal;
  design_or_refusal = design_or_refusal;
  one_settled = one_settled;
  one_design_refusal = one_design_refusal;
  settled_or_refusal = settled_or_refusal;
  settled_interfaces = settled_interfaces_law;
}
