use Rattle.std.proofs.Common.{◌≡◌, ◌++◌, List, ap, sym, ◌∙◌, subst}
use Rattle.std.specs.List.{filter_map}
use Rattle.net_addr.specs.Addresses.{Block}
use Rattle.net_model.specs.Configuration.{Configuration}
use Rattle.net_model.specs.DestLists.{subnet_if_up}
use Rattle.rib_mix.specs.Rows.{AreSubnets}
use Rattle.rib_mix.proofs.SubnetFacts.{are_subnets}
use Rattle.rib_mix.proofs.subnets.Subnets.of_router.Goals as goal

pub returns : goal.returns
returns c =
    let interfaces : c.as_slice-interfaces.result.now ≡ c.config-config.result.now.interfaces =
    c.as_slice-interfaces.ensures ∙ ap (λ (x : Configuration). x.interfaces) c.config.view_is in
    let same : c.add_connected.new.prefixes.items ≡ filter_map subnet_if_up c.config-config.result.now.interfaces =
    c.in_ok-add_connected.ensures
    ∙ ap (λ (ps : List Block). ps ++ filter_map subnet_if_up c.as_slice-interfaces.result.now) c.in_ok-all.ensures.items
    ∙ ap (filter_map subnet_if_up) interfaces in
    subst (λ (ps : List Block). AreSubnets c.args.net.now c.args.router ps) (sym same)
    (are_subnets c.args.net.now c.args.router c.config-config.result.now c.config-config.ensures.router)
