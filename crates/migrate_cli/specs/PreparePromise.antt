-- What a call of `prepare` promises: what it wrote is read as the configurations of its files, with the IS-IS of the design and
-- nothing else changed; and where nothing of its input is refused, it writes.
use Rattle.std.specs.Prelude.{◌≡◌, ℕ, List, [], ◌∷◌, map}
use Rattle.store_edge.specs.Sink.{AddsBytes}
use Rattle.net_model.specs.Network.{Network}
use Rattle.ios_reader.specs.Texts.{ReadsText}
use Rattle.design_file.specs.Answers.{SaysDesign, Settles}
use Rattle.design_file.specs.declared.design.Design.{Design}
use Rattle.design_file.specs.declared.settled.SettledRouter.{SettledRouter}
use Rattle.isis_writer.specs.PreparedConfigurations.{prepared}
use Rattle.migrate_words.specs.Asked.{Asks}
use Rattle.migrate_words.specs.declared.command.CommandKind.TheVariants.{Prepare}
use Rattle.migration_report.specs.declared.status.Status.{Status}
use Rattle.migration_report.specs.declared.status.Status.TheVariants.{Done}
use Rattle.migrate_cli.specs.Calls.{Call, Outside, course, Course}
use Rattle.migrate_cli.specs.CommandFiles.{command_of, config_texts, files_of, own_texts}
use Rattle.migrate_cli.specs.Completeness.{IsAccepted, NoFaultRose, Writes}
use Rattle.migrate_cli.specs.Configurations.{GiveNetwork}
use Rattle.migrate_cli.specs.Reading.{AreRead, AreWithin}

-- `prepare` of these files has written what it was asked for: its texts were read within the limits; the first one says a
-- design that is settled for the network of the others; and the bytes written are read as the configurations of these, in
-- their order, each with what is settled for its router and all else as it was
pub record HasPrepared (call : Call) (file : List ℕ) (configs : List (List ℕ)) (outside : Course) : Type 0 where
  pub texts : List (List ℕ)
  pub read : AreRead call.content (files_of (command_of Prepare (file ∷ []) configs 0)) texts
  pub within : AreWithin (files_of (command_of Prepare (file ∷ []) configs 0)) texts
  pub net : Network
  pub gives : GiveNetwork (config_texts (command_of Prepare (file ∷ []) configs 0) texts) net
  pub text : List ℕ
  pub text_is : own_texts (command_of Prepare (file ∷ []) configs 0) texts ≡ text ∷ []
  pub design : Design
  pub says : SaysDesign text design
  pub settled : List SettledRouter
  pub settles : Settles design net settled
  pub written : List ℕ
  pub adds : AddsBytes outside.before.written outside.after.written written
  pub reads_back : ReadsText written (map (prepared net settled) gives.configs)

-- `prepare` of these files, whose first one says a design that is settled for the network of the others
pub record AcceptsPrepare (call : Call) : Type 0 where
  pub file : List ℕ
  pub configs : List (List ℕ)
  pub texts : List (List ℕ)
  pub net : Network
  pub accepted : IsAccepted call (command_of Prepare (file ∷ []) configs 0) texts net []
  pub text : List ℕ
  pub text_is : own_texts (command_of Prepare (file ∷ []) configs 0) texts ≡ text ∷ []
  pub design : Design
  pub says : SaysDesign text design
  pub settled : List SettledRouter
  pub settles : Settles design net settled

-- where a call asks for `prepare` and ends with `Done`, it has done so; and where nothing of its input is refused and no fault
-- rises, it writes
pub record PreparePromise (call : Call) (before after : Outside) (status : Status) : Type 0 where
  pub reads_back : (file : List ℕ) (configs : List (List ℕ)) → Asks call.words (command_of Prepare (file ∷ []) configs 0) → status ≡ Done →
      HasPrepared call file configs (course before after)
  pub writes : AcceptsPrepare call → NoFaultRose before after → Writes status
