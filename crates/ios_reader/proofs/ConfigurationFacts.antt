-- A configuration, from its parts.
use Rattle.std.proofs.lemmas.Grind.{common_steps}
use Rattle.std.proofs.Common.{◌≡◌, Bool, not, List, Option, arith}
use Rattle.std.specs.Prelude.{is_none, is_some}
use Rattle.net_model.specs.declared.interface.Interface.{Interface}
use Rattle.ios_lines.specs.Words.{Word}
use Rattle.ios_reader.specs.declared.settings.OspfSettings.{OspfSettings}
use Rattle.ios_reader.specs.declared.settings.IsisSettings.{IsisSettings}
use Rattle.ios_reader.specs.Configurations.{configuration_of_settings}

pub is_missing : (o : Option Word) (b : Bool) → is_some o ≡ not b → b ≡ is_none o
is_missing o b e = grind arith

-- configurations of the same parts are the same
pub same_parts : (name name2 : Word) (interfaces interfaces2 : List Interface) (ospf ospf2 : OspfSettings) (isis isis2 : IsisSettings) →
    name ≡ name2 → interfaces ≡ interfaces2 → ospf ≡ ospf2 → isis ≡ isis2 →
    configuration_of_settings name interfaces ospf isis ≡ configuration_of_settings name2 interfaces2 ospf2 isis2
same_parts name name2 interfaces interfaces2 ospf ospf2 isis isis2 hn hi ho hs = grind (arith, common_steps)
