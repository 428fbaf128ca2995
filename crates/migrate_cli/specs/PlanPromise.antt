-- What a call of `plan` promises.
use Rattle.std.specs.Prelude.{ℕ, List, []}
use Rattle.igp_theory.specs.Migrations.{Migration, ospf_to_isis}
use Rattle.net_model.specs.Network.{Network}
use Rattle.store_edge.specs.Sink.{AddsBytes}
use Rattle.migrate_words.specs.Asked.{Asks}
use Rattle.migrate_words.specs.declared.command.CommandKind.TheVariants.{Plan}
use Rattle.migration_report.specs.declared.status.Status.{Status}
use Rattle.migration_report.specs.declared.status.Status.TheVariants.{Done, Negative, Unsound, Spent, Memory}
use Rattle.migrate_cli.specs.Calls.{Call, Outside, course, Course}
use Rattle.migrate_cli.specs.CommandFiles.{command_of, files_of}
use Rattle.migrate_cli.specs.Completeness.{IsAccepted, NoFaultRose}
use Rattle.migrate_cli.specs.Configurations.{GiveNetwork, IsAtStart}
use Rattle.migrate_cli.specs.Headline.{Headline, Plans}
use Rattle.migrate_cli.specs.JudgedTexts.{IsJudgedSo}
use Rattle.migrate_cli.specs.Reading.{AreRead, AreWithin}

-- the statuses with which a command has planned
abbrev pub IsOfPlan : Status → Type 0
IsOfPlan Done = Unit {0}
IsOfPlan Negative = Unit {0}
IsOfPlan Unsound = Unit {0}
IsOfPlan Spent = Unit {0}
IsOfPlan _ = ⊥

-- a call has planned the network of its files: what was read of them is within the limits, so it is all that they hold; it gives
-- this network; every router of it is where a migration starts, so the first state is the one that the configurations say; and
-- a text was written after what stood before, which means what the status says, and of which `check` and `refute` say so
pub record HasPlanned (call : Call) (budget : ℕ) (configs : List (List ℕ)) (outside : Course) (status : Status) : Type 0 where
  pub texts : List (List ℕ)
  pub read : AreRead call.content (files_of (command_of Plan [] configs budget)) texts
  pub within : AreWithin (files_of (command_of Plan [] configs budget)) texts
  pub net : Network
  pub gives : GiveNetwork texts net
  pub start : IsAtStart net
  pub text : List ℕ
  pub written : AddsBytes outside.before.written outside.after.written text
  pub means : Headline (ospf_to_isis net) budget status text
  pub judged : IsJudgedSo net status text

-- `plan` of these files, of which nothing is refused
pub record AcceptsPlan (call : Call) : Type 0 where
  pub budget : ℕ
  pub configs : List (List ℕ)
  pub texts : List (List ℕ)
  pub net : Network
  pub accepted : IsAccepted call (command_of Plan [] configs budget) texts net []

-- it ends as a plan of the migration, or there was no memory
pub data PlansOrNot (move : Migration) : Status → Type 0 where
  planned : {status : Status} → Plans move status → PlansOrNot move status
  no_memory : PlansOrNot move Memory

-- where the words ask for `plan`: with 0, 1, 7 and 8 it has planned, and where nothing of its input is refused and no fault
-- rises it ends so, or for want of memory
pub record PlanPromise (call : Call) (before after : Outside) (status : Status) : Type 0 where
  pub means : (budget : ℕ) (configs : List (List ℕ)) → Asks call.words (command_of Plan [] configs budget) → IsOfPlan status →
      HasPlanned call budget configs (course before after) status
  pub decides : (accepts : AcceptsPlan call) → NoFaultRose before after → PlansOrNot (ospf_to_isis accepts.net) status
