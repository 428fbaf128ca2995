-- What a call of `design` promises: what it wrote is read as a design, which gives each interface with an OSPF area its OSPF cost as
-- its metric; and where nothing of its input is refused, it writes.
use Rattle.std.specs.Prelude.{◌≡◌, ℕ, List, []}
use Rattle.store_edge.specs.Sink.{AddsBytes}
use Rattle.net_model.specs.Network.{Network}
use Rattle.design_writer.specs.CostDesigns.{IsDesignByCosts}
use Rattle.migrate_words.specs.Asked.{Asks}
use Rattle.migrate_words.specs.Schemes.{AskedScheme}
use Rattle.migration_report.specs.declared.status.Status.{Status}
use Rattle.migration_report.specs.declared.status.Status.TheVariants.{Done}
use Rattle.migrate_cli.specs.Calls.{Call, Outside, course, Course}
use Rattle.migrate_cli.specs.CommandFiles.{config_texts, design_of, files_of}
use Rattle.migrate_cli.specs.Completeness.{IsAccepted, NoFaultRose, Writes}
use Rattle.migrate_cli.specs.Configurations.{GiveNetwork}
use Rattle.migrate_cli.specs.Reading.{AreRead, AreWithin}

-- `design` of this scheme and these files has written what it was asked for: its texts were read within the limits, and make a
-- network; and the bytes written are the one design by costs of it: they are read as a design, and where no router runs IS-IS yet
-- it settles for each interface with an address and an OSPF area its OSPF cost as its metric, on each level that it runs, and
-- that it is passive where it is a loopback or passive for OSPF; and nothing else
pub record HasDesigned (call : Call) (scheme : AskedScheme) (configs : List (List ℕ)) (outside : Course) : Type 0 where
  pub texts : List (List ℕ)
  pub read : AreRead call.content (files_of (design_of scheme configs)) texts
  pub within : AreWithin (files_of (design_of scheme configs)) texts
  pub net : Network
  pub gives : GiveNetwork (config_texts (design_of scheme configs) texts) net
  pub written : List ℕ
  pub adds : AddsBytes outside.before.written outside.after.written written
  pub is_design : IsDesignByCosts scheme.area scheme.levels net written

-- `design` of these files, of which nothing is refused
pub record AcceptsDesign (call : Call) : Type 0 where
  pub scheme : AskedScheme
  pub configs : List (List ℕ)
  pub texts : List (List ℕ)
  pub net : Network
  pub accepted : IsAccepted call (design_of scheme configs) texts net []

-- where a call asks for `design` and ends with `Done`, it has done so; and where nothing of its input is refused and no fault
-- rises, it writes
pub record DesignPromise (call : Call) (before after : Outside) (status : Status) : Type 0 where
  pub designs : (scheme : AskedScheme) (configs : List (List ℕ)) → Asks call.words (design_of scheme configs) → status ≡ Done →
      HasDesigned call scheme configs (course before after)
  pub writes : AcceptsDesign call → NoFaultRose before after → Writes status
