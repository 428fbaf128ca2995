use Rattle.net_model.proofs.RefusalLaws.{IsNetworkOf-unique, MakeNetwork-refused, Refuses-unique}
use Rattle.net_model.proofs.laws.build_laws.Goals as goal

pub returns : goal.returns
returns c = record { one_network = IsNetworkOf-unique; network_or_refusal = MakeNetwork-refused; one_refusal = Refuses-unique }
