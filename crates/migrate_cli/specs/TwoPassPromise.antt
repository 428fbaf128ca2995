-- What a call of `twopass` promises.
use Rattle.std.specs.Prelude.{ℕ, List, []}
use Rattle.igp_theory.specs.Migrations.{ospf_to_isis}
use Rattle.net_model.specs.Network.{Network}
use Rattle.store_edge.specs.Sink.{AddsBytes}
use Rattle.migrate_words.specs.Asked.{Asks}
use Rattle.migrate_words.specs.declared.command.Command.{Command}
use Rattle.migrate_words.specs.declared.command.CommandKind.TheVariants.{TwoPass}
use Rattle.migration_report.specs.declared.status.Status.{Status}
use Rattle.migrate_cli.specs.Calls.{Call, Outside, course, Course}
use Rattle.migrate_cli.specs.ChangesHeadline.{ChangesHeadline}
use Rattle.migrate_cli.specs.CommandFiles.{command_of, files_of}
use Rattle.migrate_cli.specs.Completeness.{IsAccepted, NoFaultRose}
use Rattle.migrate_cli.specs.Configurations.{GiveNetwork, IsAtStart}
use Rattle.migrate_cli.specs.JudgedTexts.{IsJudgedSo}
use Rattle.migrate_cli.specs.PlanPromise.{IsOfPlan, PlansOrNot}
use Rattle.migrate_cli.specs.Reading.{AreRead, AreWithin}

-- `twopass` of these configurations, with this budget
abbrev pub two_pass_of : ℕ → List (List ℕ) → Command
two_pass_of budget configs = command_of TwoPass [] configs budget

-- a call has planned the single changes of the network of its files: what was read of them is within the limits, so it is all that
-- they hold; it gives this network; every router of it is where a migration starts; and a text was written after what stood before,
-- which means what the status says, and of which `check` and `refute` say so
pub record HasPlannedChanges (call : Call) (budget : ℕ) (configs : List (List ℕ)) (outside : Course) (status : Status) : Type 0 where
  pub texts : List (List ℕ)
  pub read : AreRead call.content (files_of (two_pass_of budget configs)) texts
  pub within : AreWithin (files_of (two_pass_of budget configs)) texts
  pub net : Network
  pub gives : GiveNetwork texts net
  pub start : IsAtStart net
  pub text : List ℕ
  pub written : AddsBytes outside.before.written outside.after.written text
  pub means : ChangesHeadline (ospf_to_isis net) budget status text
  pub judged : IsJudgedSo net status text

-- `twopass` of these files, of which nothing is refused
pub record AcceptsTwoPass (call : Call) : Type 0 where
  pub budget : ℕ
  pub configs : List (List ℕ)
  pub texts : List (List ℕ)
  pub net : Network
  pub accepted : IsAccepted call (two_pass_of budget configs) texts net []

-- where the words ask for `twopass`: with 0, 1, 7 and 8 it has planned, and where nothing of its input is refused and no fault
-- rises it ends so, or for want of memory
pub record TwoPassPromise (call : Call) (before after : Outside) (status : Status) : Type 0 where
  pub means : (budget : ℕ) (configs : List (List ℕ)) → Asks call.words (two_pass_of budget configs) → IsOfPlan status →
      HasPlannedChanges call budget configs (course before after) status
  pub decides : (accepts : AcceptsTwoPass call) → NoFaultRose before after → PlansOrNot (ospf_to_isis accepts.net) status
