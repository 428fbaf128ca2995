use Rattle.igp_theory.proofs.TableLaws.{ospf_entry_unique, isis_entry_unique}
use Rattle.igp_theory.proofs.table_laws.entries_are_unique.Goals as goal

pub returns : goal.returns
returns c = record {
  ospf = λ net u p e f one other. ospf_entry_unique one other;
  isis = λ net u p e f one other. isis_entry_unique one other;
}
