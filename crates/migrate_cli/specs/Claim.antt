-- The claim: what a call of `run` promises, a field for each promise. The words, what the files hold, and what stands outside
-- before the call and after it decide alone.
use Rattle.std.specs.Prelude.{◌≡◌, ◌≢◌}
use Rattle.store_edge.specs.Faults.{Rose}
use Rattle.migration_report.specs.declared.status.Status.{Status}
use Rattle.migration_report.specs.declared.status.Status.TheVariants.{ReadFault, WriteFault}
use Rattle.migrate_cli.specs.AnswerLaws.{EndsByAnswer}
use Rattle.migrate_cli.specs.Answers.{Answers}
use Rattle.migrate_cli.specs.Calls.{Call, Outside}
use Rattle.migrate_cli.specs.ChangesPromise.{ChangesCheckDecides, RefuteDecides}
use Rattle.migrate_cli.specs.Completeness.{CheckDecides, ReplayDecides}
use Rattle.migrate_cli.specs.DeltaPromise.{DeltaPromise}
use Rattle.migrate_cli.specs.DesignPromise.{DesignPromise}
use Rattle.migrate_cli.specs.ExplainedPromise.{ExplainedPromise}
use Rattle.migrate_cli.specs.FailuresPromise.{FailuresPromise}
use Rattle.migrate_cli.specs.ObservePromise.{ObservePromise}
use Rattle.migrate_cli.specs.PairPromise.{PairCheckDecides, PairPromise, PairRefuteDecides, PairScriptsWrites}
use Rattle.migrate_cli.specs.PicturePromise.{PicturePromise}
use Rattle.migrate_cli.specs.PlanPromise.{PlanPromise}
use Rattle.migrate_cli.specs.PreparePromise.{PreparePromise}
use Rattle.migrate_cli.specs.Reading.{LastFailed}
use Rattle.migrate_cli.specs.ReplanPromise.{ReplanPromise}
use Rattle.migrate_cli.specs.RollbackPromise.{RollbackPromise}
use Rattle.migrate_cli.specs.SamplePromise.{SamplePromise}
use Rattle.migrate_cli.specs.ScriptsPromise.{ScriptsPromise}
use Rattle.migrate_cli.specs.SplitPromise.{SplitPromise}
use Rattle.migrate_cli.specs.SurveyPromise.{SurveyPromise}
use Rattle.migrate_cli.specs.TablesPromise.{TablesPromise}
use Rattle.migrate_cli.specs.TwoPassPromise.{TwoPassPromise}

pub record Claim (call : Call) (before after : Outside) (status : Status) : Type 0 where
  -- it asks for its command's files in their order, and what they come to is written whole or cut, or nothing for want of memory
  pub answers : Answers call before after status
  -- it ends by the one answer that there is to its words and files, but for faults and for want of memory
  pub exact : EndsByAnswer call status
  -- 3: a read failed, that of the last file asked for, which is named, and none before it
  pub read_fault : status ≡ ReadFault → LastFailed before.reads after.reads
  -- 4: a write failed
  pub write_fault : status ≡ WriteFault → Rose before.sink_faults after.sink_faults
  -- and only then
  pub unless_write_fault : status ≢ WriteFault → after.sink_faults ≡ before.sink_faults
  -- `plan` plans: 0, 1, 7 and 8 mean in packets what the headline says
  pub plans : PlanPromise call before after status
  -- `twopass` plans single changes: its statuses mean the same of lists of all changes
  pub two_passes : TwoPassPromise call before after status
  -- `check` says yes exactly where each state of the order is sound
  pub checks : CheckDecides call before after status
  -- and so it does of single changes
  pub change_checks : ChangesCheckDecides call before after status
  -- `refute` says yes exactly where the text is a closed tree, and then nothing is safe; of single changes too, and from a start
  pub refutes : RefuteDecides call before after status
  -- `replay` says where a journal stands
  pub replays : ReplayDecides call before after status
  -- `scripts` writes the lines of each change, and with those of the first changes the configurations forward as was proved
  pub scripts : ScriptsPromise call before after status
  -- `prepare` writes configurations that read as the same ones with the IS-IS of the design
  pub prepares : PreparePromise call before after status
  -- `design` writes a design that is read, and that gives each interface with an OSPF area its OSPF cost as its metric
  pub designs : DesignPromise call before after status
  -- `pair` plans between two networks of OSPF: its statuses mean the same there
  pub pairs : PairPromise call before after status
  -- `paircheck`, `pairrefute` and `pairscripts` do there what `check`, `refute` and `scripts` do
  pub pair_checks : PairCheckDecides call before after status
  pub pair_refutes : PairRefuteDecides call before after status
  pub pair_scripts : PairScriptsWrites call before after status
  -- `sample` sums up the plan of a made network, and reads no file
  pub samples : SamplePromise call before after status
  -- `split` cuts safe waves into smaller ones, which are safe
  pub splits : SplitPromise call before after status
  -- `delta` writes the lines alone that `prepare` adds
  pub deltas : DeltaPromise call before after status
  -- `tables` writes all entries of the tables of both protocols
  pub tables : TablesPromise call before after status
  -- `survey` writes the one survey of its files: all faulty lines, else all refusals, else the network and what is odd about it
  pub surveys : SurveyPromise call before after status
  -- `why` says what `check` says, and why
  pub explains : ExplainedPromise call before after status
  -- `rollback` writes the lines that undo the changes of a journal, and each state on the way back is one of its wave list
  pub rolls_back : RollbackPromise call before after status
  -- `replan` plans what a journal has left: its statuses mean the same of lists of the changes that are left
  pub replans : ReplanPromise call before after status
  -- `observe` writes a journal that `replay` follows, to a state that the configurations of now show
  pub observes : ObservePromise call before after status
  -- `picture` says what `check` says, and writes the one picture of the network, the list and its fault
  pub pictures : PicturePromise call before after status
  -- `failures` says what `check` says, and where that is a yes, of each link what the list comes to without it
  pub failures : FailuresPromise call before after status
