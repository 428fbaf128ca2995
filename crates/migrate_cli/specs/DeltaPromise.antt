-- What a call of `delta` promises: it writes the lines that `prepare` adds to the configurations of its files, each router's
-- behind its name, and nothing else; and where nothing of its input is refused, it writes.
use Rattle.std.specs.Prelude.{◌≡◌, ℕ, List, [], ◌∷◌, All}
use Rattle.store_edge.specs.Sink.{AddsBytes}
use Rattle.net_model.specs.Configuration.{Configuration}
use Rattle.net_model.specs.Network.{Network}
use Rattle.ios_reader.specs.Texts.{ReadsText}
use Rattle.design_file.specs.Answers.{SaysDesign, Settles}
use Rattle.design_file.specs.declared.design.Design.{Design}
use Rattle.design_file.specs.declared.settled.SettledRouter.{SettledRouter}
use Rattle.isis_writer.specs.Deltas.{IsDeltaOfPieces}
use Rattle.migrate_words.specs.Asked.{Asks}
use Rattle.migrate_words.specs.declared.command.Command.{Command}
use Rattle.migrate_words.specs.declared.command.CommandKind.TheVariants.{Delta}
use Rattle.migration_report.specs.declared.status.Status.{Status}
use Rattle.migration_report.specs.declared.status.Status.TheVariants.{Done}
use Rattle.migrate_cli.specs.Calls.{Call, Outside, course, Course}
use Rattle.migrate_cli.specs.CommandFiles.{command_of, config_texts, files_of, own_texts}
use Rattle.migrate_cli.specs.Completeness.{IsAccepted, NoFaultRose, Writes}
use Rattle.migrate_cli.specs.Configurations.{GiveNetwork}
use Rattle.migrate_cli.specs.DeltaDecision.{delta_texts}
use Rattle.migrate_cli.specs.Reading.{AreRead, AreWithin}

-- `delta` of these files
abbrev pub delta_of : List ℕ → List (List ℕ) → Command
delta_of file configs = command_of Delta (file ∷ []) configs 0

-- the new lines of a text are those that `prepare` puts before its `end` lines, each configuration's behind the name of its
-- router
abbrev pub HasNewLinesAlone : Network → List SettledRouter → List ℕ → Type 0
HasNewLinesAlone net settled text =
    (configurations : List Configuration) → ReadsText text configurations → IsDeltaOfPieces text net settled configurations

-- `delta` of these files has written what it was asked for: its texts were read within the limits; the first one says a design
-- that is settled for the network of the others; and the bytes written are the new lines of these, text by text, which are
-- those alone that `prepare` would add
pub record HasDelta (call : Call) (file : List ℕ) (configs : List (List ℕ)) (outside : Course) : Type 0 where
  pub texts : List (List ℕ)
  pub read : AreRead call.content (files_of (delta_of file configs)) texts
  pub within : AreWithin (files_of (delta_of file configs)) texts
  pub net : Network
  pub gives : GiveNetwork (config_texts (delta_of file configs) texts) net
  pub text : List ℕ
  pub text_is : own_texts (delta_of file configs) texts ≡ text ∷ []
  pub design : Design
  pub says : SaysDesign text design
  pub settled : List SettledRouter
  pub settles : Settles design net settled
  pub adds :
      AddsBytes outside.before.written outside.after.written (delta_texts net settled (config_texts (delta_of file configs) texts))
  pub alone : All (HasNewLinesAlone net settled) (config_texts (delta_of file configs) texts)

-- `delta` of these files, whose first one says a design that is settled for the network of the others
pub record AcceptsDelta (call : Call) : Type 0 where
  pub file : List ℕ
  pub configs : List (List ℕ)
  pub texts : List (List ℕ)
  pub net : Network
  pub accepted : IsAccepted call (delta_of file configs) texts net []
  pub text : List ℕ
  pub text_is : own_texts (delta_of file configs) texts ≡ text ∷ []
  pub design : Design
  pub says : SaysDesign text design
  pub settled : List SettledRouter
  pub settles : Settles design net settled

-- where a call asks for `delta` and ends with `Done`, it has done so; and where nothing of its input is refused and no fault
-- rises, it writes
pub record DeltaPromise (call : Call) (before after : Outside) (status : Status) : Type 0 where
  pub alone : (file : List ℕ) (configs : List (List ℕ)) → Asks call.words (delta_of file configs) → status ≡ Done →
      HasDelta call file configs (course before after)
  pub writes : AcceptsDelta call → NoFaultRose before after → Writes status
