use Rattle.std.proofs.Common.{◌≡◌, All, take}
use Rattle.net_model.specs.Configuration.{IsConfiguration}
use Rattle.net_model.specs.Limits.{all_up_interfaces}
use Rattle.net_model.specs.Refusals.{carried}
use Rattle.net_model.proofs.limits.count_interfaces.Given as goal

abbrev pub invariant-loop-config : goal.invariant-loop-config
invariant-loop-config l = record {
  count : l.count ≡ carried (all_up_interfaces (take l.config-index l.configs));
  each : All IsConfiguration (take l.config-index l.configs);
}
