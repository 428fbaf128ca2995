-- What `check` and `refute` say of the text that a plan of a network wrote.
use Rattle.std.specs.Prelude.{◌≡◌, ℕ, List}
use Rattle.net_model.specs.Network.{Network}
use Rattle.refutation_check.specs.declared.verdict.Verdict.TheVariants.{Closed, Unfinished}
use Rattle.migration_report.specs.declared.decision.Decision.TheVariants.{SafeWaves, Tree}
use Rattle.migration_report.specs.declared.status.Status.{Status}
use Rattle.migration_report.specs.declared.status.Status.TheVariants.{Done, Negative, Spent}
use Rattle.migrate_cli.specs.CheckDecision.{IsCheckDecision}
use Rattle.migrate_cli.specs.Reading.{named_text}
use Rattle.migrate_cli.specs.RefuteDecision.{IsRefuteDecision}

-- where waves were planned, `check` of the text says that they are safe; where there are none, `refute` of it says that it is a closed
-- tree; and where the budget was spent, that it is open
pub record IsJudgedSo (net : Network) (status : Status) (text : List ℕ) : Type 0 where
  pub safe : status ≡ Done → (file : List ℕ) → (waves : ℕ) × IsCheckDecision (named_text file text) net (SafeWaves waves)
  pub closed : status ≡ Negative → (branches : ℕ) × (leaves : ℕ) × IsRefuteDecision text net (Tree (Closed branches leaves))
  pub stopped : status ≡ Spent → (unvisited : ℕ) × IsRefuteDecision text net (Tree (Unfinished unvisited))
