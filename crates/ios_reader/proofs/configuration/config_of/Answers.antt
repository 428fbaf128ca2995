use Rattle.std.proofs.Common.{arith}
use Rattle.std.proofs.lemmas.Grind.{common_steps}
use Rattle.std.proofs.Common.{◌≡◌, subst, sym, ◌∙◌}
use Rattle.net_model.specs.Configuration.{IsConfiguration}
use Rattle.ios_reader.specs.Configurations.{configuration_of_settings, configuration_by}
use Rattle.ios_reader.proofs.ConfigurationFacts.{same_parts}
use Rattle.ios_reader.proofs.configuration.config_of.Goals.{After-name_or_empty}
use Rattle.ios_reader.proofs.configuration.config_of.Goals as goal

made : (c : After-name_or_empty) →
    configuration_of_settings c.name_or_empty.result c.args.interfaces.items c.in_ok-ospf.ospf c.isis_settings-isis.result ≡ configuration_by c.args.statements
made c = grind (arith, common_steps, same_parts)

pub config_with-requires : goal.config_with-requires
config_with-requires c = subst IsConfiguration (sym (made ((goal.at.config_with-requires c).After-name_or_empty))) c.requires.kept

pub returns : goal.returns
returns c = c.config_with.ensures ∙ made ((goal.at.returns c).After-name_or_empty)
