-- What a call of `sample` promises: its text is planned as that of a file, and no file is asked for.
use Rattle.std.specs.Prelude.{◌≡◌, ◌≢◌, ℕ, List, [], ◌∷◌, codes}
use Rattle.store_edge.specs.Faults.{Rose}
use Rattle.store_edge.specs.Sink.{AddsBytes, AddsFront}
use Rattle.igp_theory.specs.Migrations.{ospf_to_isis}
use Rattle.net_model.specs.Network.{Network}
use Rattle.sample_network.specs.SampleTexts.{sample_text}
use Rattle.migrate_words.specs.Asked.{Asks}
use Rattle.migrate_words.specs.declared.command.CommandKind.TheVariants.{Plan, Sample}
use Rattle.migrate_words.specs.declared.command.TheConstants.{USUAL_BUDGET}
use Rattle.migration_report.specs.Outcomes.{status_of, outcome_text}
use Rattle.migration_report.specs.declared.outcome.Outcome.{Outcome}
use Rattle.migration_report.specs.declared.status.Status.{Status}
use Rattle.migration_report.specs.declared.status.Status.TheVariants.{Done, WriteFault, Memory}
use Rattle.migrate_cli.specs.Calls.{Call, Outside}
use Rattle.migrate_cli.specs.CommandFiles.{command_of, given_texts}
use Rattle.migrate_cli.specs.Configurations.{GiveNetwork, IsAtStart}
use Rattle.migrate_cli.specs.Outcomes.{IsOutcome}
use Rattle.migrate_cli.specs.PlanPromise.{PlansOrNot}

-- what the text of the sample network of so many routers comes to
abbrev pub IsOutcomeOfSample : ℕ → Outcome → Type 0
IsOutcomeOfSample routers = IsOutcome (command_of Sample [] [] routers) (given_texts [] (sample_text routers ∷ []))

-- what `plan`, with the usual budget, comes to on one file of this name and text
abbrev pub IsOutcomeOfPlan : List ℕ → List ℕ → Outcome → Type 0
IsOutcomeOfPlan name text = IsOutcome (command_of Plan [] (name ∷ []) USUAL_BUDGET) (given_texts [] (text ∷ []))

-- `plan` comes to an outcome of the same status on the same text, as a file that is named `sample`; where the status isn't that
-- waves were found, it is the same outcome
pub record IsAsPlanned (routers : ℕ) (outcome : Outcome) : Type 0 where
  pub planned : Outcome
  pub plans : IsOutcomeOfPlan (codes "sample") (sample_text routers) planned
  pub same_status : status_of planned ≡ status_of outcome
  pub same : status_of outcome ≢ Done → outcome ≡ planned

-- how a call ends that is to write what a sample comes to: it is written whole, or its front, or there was no memory and
-- nothing is written
pub data EndsSample (routers : ℕ) (before after : Outside) : Status → Type 0 where
  whole : (outcome : Outcome) → IsOutcomeOfSample routers outcome → IsAsPlanned routers outcome →
      AddsBytes before.written after.written (outcome_text outcome) → EndsSample routers before after (status_of outcome)
  cut : (outcome : Outcome) → IsOutcomeOfSample routers outcome → IsAsPlanned routers outcome →
      AddsFront before.written after.written (outcome_text outcome) → EndsSample routers before after WriteFault
  no_memory : after.written ≡ before.written → EndsSample routers before after Memory

-- no file was asked for, and the call ended so
pub record HasSampled (routers : ℕ) (before after : Outside) (status : Status) : Type 0 where
  pub asked : after.reads.asked ≡ before.reads.asked
  pub ends : EndsSample routers before after status

-- `sample` of so many routers, whose text gives this network, which is at its start
pub record AcceptsSample (call : Call) : Type 0 where
  pub routers : ℕ
  pub asks : Asks call.words (command_of Sample [] [] routers)
  pub net : Network
  pub gives : GiveNetwork (sample_text routers ∷ []) net
  pub start : IsAtStart net

-- where the words ask for a `sample`, the call has done so; and where nothing of its text is refused and no fault of the sink
-- rises, it is planned
pub record SamplePromise (call : Call) (before after : Outside) (status : Status) : Type 0 where
  pub means : (routers : ℕ) → Asks call.words (command_of Sample [] [] routers) → HasSampled routers before after status
  pub decides : (accepts : AcceptsSample call) → (Rose before.sink_faults after.sink_faults → ⊥) → PlansOrNot (ospf_to_isis accepts.net) status
