-- What a call of `tables` promises: it writes a line for each entry of the route tables of both protocols, and nothing else.
use Rattle.std.specs.Prelude.{◌≡◌, ℕ, List, []}
use Rattle.store_edge.specs.Sink.{AddsBytes}
use Rattle.net_model.specs.Network.{Network}
use Rattle.igp_theory.specs.Migrations.{ospf_to_isis}
use Rattle.shown_tables.specs.TablesTexts.{IsTablesText}
use Rattle.migrate_words.specs.Asked.{Asks}
use Rattle.migrate_words.specs.declared.command.Command.{Command}
use Rattle.migrate_words.specs.declared.command.CommandKind.TheVariants.{Tables}
use Rattle.migration_report.specs.declared.status.Status.{Status}
use Rattle.migration_report.specs.declared.status.Status.TheVariants.{Done}
use Rattle.migrate_cli.specs.Calls.{Call, Outside, course, Course}
use Rattle.migrate_cli.specs.CommandFiles.{command_of, config_texts, files_of}
use Rattle.migrate_cli.specs.Completeness.{IsAccepted, NoFaultRose, Writes}
use Rattle.migrate_cli.specs.Configurations.{GiveNetwork}
use Rattle.migrate_cli.specs.Reading.{AreRead, AreWithin}

-- `tables` of these files
abbrev pub tables_of : List (List ℕ) → Command
tables_of configs = command_of Tables [] configs 0

-- `tables` of these files has written what it was asked for: its texts were read within the limits, and give a network; and the
-- bytes written have a line for each entry that a router of it has in its OSPF table or its IS-IS table, in their order
pub record HasTables (call : Call) (configs : List (List ℕ)) (outside : Course) : Type 0 where
  pub texts : List (List ℕ)
  pub read : AreRead call.content (files_of (tables_of configs)) texts
  pub within : AreWithin (files_of (tables_of configs)) texts
  pub net : Network
  pub gives : GiveNetwork (config_texts (tables_of configs) texts) net
  pub written : List ℕ
  pub adds : AddsBytes outside.before.written outside.after.written written
  pub exact : IsTablesText (ospf_to_isis net) written

-- `tables` of these files, of which nothing is refused
pub record AcceptsTables (call : Call) : Type 0 where
  pub configs : List (List ℕ)
  pub texts : List (List ℕ)
  pub net : Network
  pub accepted : IsAccepted call (tables_of configs) texts net []

-- where a call asks for `tables` and ends with `Done`, it has done so; and where nothing of its input is refused and no fault
-- rises, it writes
pub record TablesPromise (call : Call) (before after : Outside) (status : Status) : Type 0 where
  pub exact :
      (configs : List (List ℕ)) → Asks call.words (tables_of configs) → status ≡ Done → HasTables call configs (course before after)
  pub writes : AcceptsTables call → NoFaultRose before after → Writes status
