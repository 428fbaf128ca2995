use Rattle.igp_theory.proofs.Delivery.{ospf_hop_is_router, isis_hop_is_router}
use Rattle.igp_theory.proofs.sound_laws.hops_are_routers.Goals as goal

pub returns : goal.returns
returns c = record {
  ospf = λ net u h p e below entry leads. ospf_hop_is_router net u h p e entry leads;
  isis = λ net u h p e below entry leads. isis_hop_is_router net u h p e entry leads;
}
