use Rattle.igp_theory.proofs.TableLaws.{intra_area_unique, intra_area_cost_unique, inter_area_cost_unique, border_cost_is_inter_area}
use Rattle.igp_theory.proofs.TableLaws.{inter_area_is_border_cost}
use Rattle.igp_theory.proofs.table_laws.costs_are_unique.Goals as goal

pub returns : goal.returns
returns c = record {
  intra_area = λ net p u v m n c d keeps one other. intra_area_unique keeps one other;
  intra_area_cost = λ net p u m n c d keeps one other. intra_area_cost_unique keeps one other;
  inter_area_cost = λ net p u c d one other. inter_area_cost_unique one other;
  border_cost = λ net p u c border. (border_cost_is_inter_area, inter_area_is_border_cost border);
}
