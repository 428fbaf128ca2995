-- One more configuration adds its up interfaces, and opening it shows the facts that it keeps.
use Rattle.std.proofs.Common.{◌≡◌, ◌<◌, length, count_by, get_or, ap, subst, ◌∙◌, arith}
use Rattle.std.proofs.lemmas.List.Sums.{sum_by_more}
use Rattle.std.proofs.lemmas.List.Elements.{All-more}
use Rattle.net_model.specs.Configuration.{Configuration, IsConfiguration}
use Rattle.net_model.specs.Limits.{up_interfaces}
use Rattle.net_model.specs.declared.interface.Interface.{Interface}
use Rattle.net_model.proofs.limits.count_interfaces.Goals as goal

pub loop-config-preserved : goal.loop-config-preserved
loop-config-preserved c =
    let xs = c.args.configs.now in
    let i = c.loop-config.config-index in
    let x = c.config-item.result in
    let here : i < length xs = omega arith in
    let is = c.config.view_is ∙ c.config-item.is in
    let own : c.count_up.result ≡ up_interfaces (get_or xs i x) =
    c.count_up.ensures ∙ ap (count_by (λ (j : Interface). j.up)) (c.as_slice.ensures ∙ ap (λ (z : Configuration). z.interfaces) is) in
    let sum = sum_by_more up_interfaces xs i x here in
    record {
      count = omega (arith, c.saturating_add-count.ensures, c.loop-config.invariant.count, own, sum);
      each = All-more IsConfiguration xs i x here c.loop-config.invariant.each (subst IsConfiguration is c.config.invariant);
    }
