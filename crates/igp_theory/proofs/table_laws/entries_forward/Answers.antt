use Rattle.igp_theory.proofs.TableLaws.{ospf_entry_forwards, isis_entry_forwards}
use Rattle.igp_theory.proofs.table_laws.entries_forward.Goals as goal

pub returns : goal.returns
returns c = record {
  ospf = λ net u p e entry. ospf_entry_forwards entry;
  isis = λ net u p e entry. isis_entry_forwards entry;
}
