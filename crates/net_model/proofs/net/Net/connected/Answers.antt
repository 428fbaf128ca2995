use Rattle.std.proofs.Common.{List, subst, ap, ◌∙◌}
use Rattle.net_model.specs.Configuration.{Configuration}
use Rattle.net_model.specs.steps.Subnets.{BestSubnet}
use Rattle.net_model.specs.declared.interface.Interface.{Interface}
use Rattle.net_model.proofs.BestSubnets.{LongestConnected-from_best}
use Rattle.net_model.proofs.net.Net.connected.Goals as goal

pub returns : goal.returns
returns c =
    let is = c.as_slice.ensures ∙ ap (λ (x : Configuration). x.interfaces) c.home.view_is in
    LongestConnected-from_best c.args.self.now c.args.router c.config-home.result.now c.config-home.ensures.router c.args.a c.longest_subnet.result
    (subst (λ (l : List Interface). BestSubnet c.args.a l c.longest_subnet.result) is c.longest_subnet.ensures)
