use Rattle.ospf_pair.proofs.AlikeInterfaces.{AreOneNetwork-from}
use Rattle.ospf_pair.proofs.PairRefusalLaws.{MakePair-refused, RefusesPair-unique}
use Rattle.ospf_pair.proofs.laws.pair_laws.Goals as goal

pub returns : goal.returns
returns c = record { pair_or_refusal = MakePair-refused; one_refusal = RefusesPair-unique; one_network = AreOneNetwork-from }
