-- What a call of `replan` promises.
use Rattle.std.specs.Prelude.{ℕ, List, [], ◌∷◌}
use Rattle.igp_theory.specs.Migrations.{ospf_to_isis}
use Rattle.state_replay.specs.Journals.{HasReached, progress}
use Rattle.store_edge.specs.Sink.{AddsBytes}
use Rattle.migrate_words.specs.Asked.{Asks}
use Rattle.migrate_words.specs.declared.command.Command.{Command}
use Rattle.migrate_words.specs.declared.command.CommandKind.TheVariants.{Replan}
use Rattle.migration_report.specs.declared.status.Status.{Status}
use Rattle.migration_report.specs.declared.status.Status.TheVariants.{Negative, Memory}
use Rattle.migrate_cli.specs.Calls.{Call, Outside, course, Course}
use Rattle.migrate_cli.specs.CommandFiles.{command_of}
use Rattle.migrate_cli.specs.Completeness.{NoFaultRose}
use Rattle.migrate_cli.specs.JournalPromise.{AcceptsJournal, HasJournal, TellsDeparture}
use Rattle.migrate_cli.specs.PlanPromise.{IsOfPlan}
use Rattle.migrate_cli.specs.ReplanDecision.{phases_made}
use Rattle.migrate_cli.specs.RestHeadline.{RestHeadline}

-- `replan` of an order file, a journal and these configurations, with this budget
abbrev pub replan_of : ℕ → List ℕ → List ℕ → List (List ℕ) → Command
replan_of budget file journal_file configs = command_of Replan (file ∷ journal_file ∷ []) configs budget

-- the journal has reached a state of its wave list, from which the rest was planned: the text that was written means what the status says
pub record PlansRest (call : Call) (command : Command) (outside : Course) (it : HasJournal call command) (status : Status) : Type 0 where
  pub made : ℕ
  pub done : List ℕ
  pub reached : HasReached (progress it.net it.ranks done) it.journal made
  pub text : List ℕ
  pub written : AddsBytes outside.before.written outside.after.written text
  pub means : RestHeadline (ospf_to_isis it.net) (phases_made done) command.number status text

-- what was written, by the status: what the rest comes to, or with 1 where the journal departs
pub data WritesRest (call : Call) (command : Command) (outside : Course) (it : HasJournal call command) : Status → Type 0 where
  plans_rest : {status : Status} → PlansRest call command outside it status → WritesRest call command outside it status
  tells_departure : TellsDeparture call command outside it → WritesRest call command outside it Negative

pub record HasReplanned (call : Call) (command : Command) (outside : Course) (status : Status) : Type 0 where
  pub it : HasJournal call command
  pub writes : WritesRest call command outside it status

-- it ends as a plan, or says that the journal departs, or there was no memory
pub data Replans : Status → Type 0 where
  replanned : {status : Status} → IsOfPlan status → Replans status
  no_memory : Replans Memory

-- where the words ask for `replan`: with 0, 1, 7 and 8 it has done so, and where nothing of its input is refused and no fault rises it
-- ends so, or for want of memory
pub record ReplanPromise (call : Call) (before after : Outside) (status : Status) : Type 0 where
  pub means : (budget : ℕ) (file journal_file : List ℕ) (configs : List (List ℕ)) →
      Asks call.words (replan_of budget file journal_file configs) → IsOfPlan status →
      HasReplanned call (replan_of budget file journal_file configs) (course before after) status
  pub decides : (budget : ℕ) (file journal_file : List ℕ) (configs : List (List ℕ)) →
      AcceptsJournal call (replan_of budget file journal_file configs) → NoFaultRose before after → Replans status
