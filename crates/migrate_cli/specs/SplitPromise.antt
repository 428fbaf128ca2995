-- What a call of `split` promises: what it wrote is an order file that `check` finds safe, of waves that keep the order of those
-- given; and where nothing of its input is refused, it says yes exactly where the waves given are seamless.
use Rattle.std.specs.Prelude.{◌≡◌, ℕ, List, [], ◌∷◌}
use Rattle.net_model.specs.Network.{Network}
use Rattle.igp_theory.specs.Migrations.{Migration, ospf_to_isis}
use Rattle.igp_theory.specs.Waves.{AreSeamlessWaves}
use Rattle.order_core.specs.Rankings.{wave_count}
use Rattle.split_waves.specs.Cuts.{AreSmallerWaves, cut_waves}
use Rattle.step_scripts.specs.WaveFiles.{NamesWaves}
use Rattle.step_scripts.specs.WavesTexts.{waves_in}
use Rattle.step_scripts.specs.declared.version.Version.{Version}
use Rattle.step_scripts.specs.declared.version.Version.TheVariants.{Two}
use Rattle.store_edge.specs.Sink.{AddsBytes}
use Rattle.migrate_words.specs.Asked.{Asks}
use Rattle.migrate_words.specs.declared.command.Command.{Command}
use Rattle.migrate_words.specs.declared.command.CommandKind.TheVariants.{Split}
use Rattle.migration_report.specs.declared.decision.Decision.TheVariants.{SafeWaves}
use Rattle.migration_report.specs.declared.status.Status.{Status}
use Rattle.migration_report.specs.declared.status.Status.TheVariants.{Done, Negative, Memory}
use Rattle.migrate_cli.specs.Calls.{Call, Outside, course, Course}
use Rattle.migrate_cli.specs.CheckDecision.{IsCheckDecision}
use Rattle.migrate_cli.specs.CommandFiles.{command_of, config_texts, files_of, own_texts}
use Rattle.migrate_cli.specs.Completeness.{IsAccepted, NoFaultRose}
use Rattle.migrate_cli.specs.Configurations.{GiveNetwork, IsAtStart}
use Rattle.migrate_cli.specs.Reading.{AreRead, AreWithin, named_text}

-- `split` of these files, into waves of at most so many routers
abbrev pub split_of : ℕ → List ℕ → List (List ℕ) → Command
split_of most file configs = command_of Split (file ∷ []) configs most

-- the bytes written are an order file of version 2 of a wave list whose waves are those of another one, each cut in the order of
-- the names into waves of so many routers and a rest: it refines that one, no wave has more routers, and `check` finds it safe
pub record IsSafelySplit (net : Network) (most : ℕ) (ranks written : List ℕ) : Type 0 where
  pub split : List ℕ
  pub reads_back : NamesWaves net written Two split
  pub cuts : waves_in split ≡ cut_waves most ranks
  pub smaller : AreSmallerWaves most ranks split
  pub safe : (file : List ℕ) → IsCheckDecision (named_text file written) net (SafeWaves (wave_count split))

-- `split` of these files has written what it was asked for: its texts were read within the limits; the first one names a wave
-- list of the network of the others, in version 1 one router a wave; that is seamless; and the bytes written are it, safely
-- split
pub record HasSplit (call : Call) (most : ℕ) (file : List ℕ) (configs : List (List ℕ)) (outside : Course) : Type 0 where
  pub texts : List (List ℕ)
  pub read : AreRead call.content (files_of (split_of most file configs)) texts
  pub within : AreWithin (files_of (split_of most file configs)) texts
  pub net : Network
  pub gives : GiveNetwork (config_texts (split_of most file configs) texts) net
  pub start : IsAtStart net
  pub text : List ℕ
  pub text_is : own_texts (split_of most file configs) texts ≡ text ∷ []
  pub version : Version
  pub ranks : List ℕ
  pub names : NamesWaves net text version ranks
  pub seamless : AreSeamlessWaves (ospf_to_isis net) ranks
  pub written : List ℕ
  pub adds : AddsBytes outside.before.written outside.after.written written
  pub is : IsSafelySplit net most ranks written

-- `split` of these files, whose order file names a wave list of the routers, in either version
pub record AcceptsSplit (call : Call) : Type 0 where
  pub most : ℕ
  pub file : List ℕ
  pub configs : List (List ℕ)
  pub texts : List (List ℕ)
  pub net : Network
  pub accepted : IsAccepted call (split_of most file configs) texts net []
  pub text : List ℕ
  pub text_is : own_texts (split_of most file configs) texts ≡ text ∷ []
  pub version : Version
  pub ranks : List ℕ
  pub names : NamesWaves net text version ranks

-- it ends with yes where the wave list is seamless, with no where it isn't, or for want of memory
pub data DecidesSplit (move : Migration) (ranks : List ℕ) : Status → Type 0 where
  is_split : AreSeamlessWaves move ranks → DecidesSplit move ranks Done
  is_unsafe : ¬ AreSeamlessWaves move ranks → DecidesSplit move ranks Negative
  no_memory : DecidesSplit move ranks Memory

-- where a call asks for `split` and ends with `Done`, it has split; and where nothing of its input is refused and no fault
-- rises, it decides
pub record SplitPromise (call : Call) (before after : Outside) (status : Status) : Type 0 where
  pub splits :
      (most : ℕ) (file : List ℕ) (configs : List (List ℕ)) → Asks call.words (split_of most file configs) → status ≡ Done →
      HasSplit call most file configs (course before after)
  pub decides :
      (accepts : AcceptsSplit call) → NoFaultRose before after → DecidesSplit (ospf_to_isis accepts.net) accepts.ranks status
