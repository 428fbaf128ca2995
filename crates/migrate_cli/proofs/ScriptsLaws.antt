-- `scripts` decides one thing of an order file and a network.
use Rattle.std.proofs.Common.{◌≡◌}
use Rattle.net_model.specs.Network.{Network}
use Rattle.net_model.specs.Refusals.{NamesAscend}
use Rattle.step_scripts.proofs.WaveFileLaws.{no_fault, one_faulty_line, one_wave_list}
use Rattle.migration_report.specs.Outcomes.{IsTellable}
use Rattle.migration_report.specs.declared.decision.Decision.{Decision}
use Rattle.migration_report.specs.declared.decision.Decision.TheVariants.{Script, BadOrder}
use Rattle.migrate_cli.specs.Reading.{NamedText}
use Rattle.migrate_cli.specs.ScriptsDecision.{IsScriptsDecision}
use Rattle.migrate_cli.specs.ScriptsDecision.IsScriptsDecision.{faulty_waves, of_waves}

module _ (order : NamedText) (net : Network) where
  pub one_scripts_decision : {d e : Decision} → NamesAscend net → IsScriptsDecision order net d → IsScriptsDecision order net e → d ≡ e
  one_scripts_decision ascending (faulty_waves n k one) (faulty_waves m j other) =
      let same = one_faulty_line net order.text n m k j one other in λ i. BadOrder order.file (same.0 i) (same.1 i)
  one_scripts_decision ascending (faulty_waves n k least) (of_waves version ranks names) =
      absurd (no_fault net order.text version ranks n k ascending names least.faulty)
  one_scripts_decision ascending (of_waves version ranks names) (faulty_waves n k least) =
      absurd (no_fault net order.text version ranks n k ascending names least.faulty)
  one_scripts_decision ascending (of_waves version one names) (of_waves its other again) =
      let same = one_wave_list net order.text version its one other ascending names again in λ i. Script (same.0 i) (same.1 i)

  pub scripts_tellable : {d : Decision} → IsScriptsDecision order net d → IsTellable net d
  scripts_tellable (faulty_waves _ _ _) = tt
  scripts_tellable (of_waves _ _ names) = names.are.each
