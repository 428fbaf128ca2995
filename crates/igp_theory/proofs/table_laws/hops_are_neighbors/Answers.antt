use Rattle.igp_theory.proofs.TableLaws.{ospf_hop_is_neighbor, isis_hop_is_neighbor}
use Rattle.igp_theory.proofs.table_laws.hops_are_neighbors.Goals as goal

pub returns : goal.returns
returns c = record {
  ospf = λ net u h p e entry leads. ospf_hop_is_neighbor entry leads;
  isis = λ net u h p e entry leads. isis_hop_is_neighbor entry leads;
}
