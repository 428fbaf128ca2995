-- What the commands over two networks decide of these.
use Rattle.std.specs.Prelude.{◌≢◌, ℕ, List}
use Rattle.igp_theory.specs.Migrations.{Migration}
use Rattle.ospf_pair.specs.NetworkPairs.{NetworkPair}
use Rattle.ospf_pair.specs.PairMigrations.{ospf_to_ospf}
use Rattle.ospf_pair.specs.PairRefusals.{MakePair, RefusesPair}
use Rattle.ospf_pair.specs.PairScripts.{pair_script_text}
use Rattle.ospf_pair.specs.declared.refusal.PairRefusal.{PairRefusal}
use Rattle.ospf_pair.specs.declared.refusal.PairRefusal.TheVariants.{OutOfMemory}
use Rattle.step_scripts.specs.FaultyLines.{IsLeastFaultyLine}
use Rattle.step_scripts.specs.WaveFiles.{NamesWaves}
use Rattle.step_scripts.specs.declared.kind.OrderKind.{OrderKind}
use Rattle.step_scripts.specs.declared.version.Version.{Version}
use Rattle.migration_report.specs.declared.decision.Decision.{Decision}
use Rattle.migration_report.specs.declared.decision.Decision.TheVariants.{BadOrder, BadPair, PairScript}
use Rattle.migrate_cli.specs.CheckDecision.{IsCheckOver}
use Rattle.migrate_cli.specs.PlanDecision.{IsPlanOver}
use Rattle.migrate_cli.specs.Reading.{NamedText}
use Rattle.migrate_cli.specs.RefuteDecision.{IsTreeDecision}

-- the two networks make no pair, or they make one, and P is decided of it
pub data IsPairDecision (nets : NetworkPair) (P : Decision → Type 0) : Decision → Type 0 where
  no_pair : (refusal : PairRefusal) → RefusesPair refusal nets → refusal ≢ OutOfMemory → IsPairDecision nets P (BadPair refusal)
  of_pair : (decision : Decision) → MakePair nets → P decision → IsPairDecision nets P decision

-- the move from the OSPF of the old network to that of the new one
abbrev pub pair_move : NetworkPair → Migration
pair_move nets = ospf_to_ospf nets.old nets.new

-- `pair`: what is planned
abbrev pub IsPairPlan : NetworkPair → ℕ → Decision → Type 0
IsPairPlan nets budget decision = IsPairDecision nets (IsPlanOver (pair_move nets) budget) decision

-- `paircheck`: what is decided of an order file
abbrev pub IsPairCheck : NetworkPair → NamedText → Decision → Type 0
IsPairCheck nets order decision = IsPairDecision nets (IsCheckOver (pair_move nets) order) decision

-- `pairrefute`: what is decided of a tree file
abbrev pub IsPairTree : NetworkPair → List ℕ → Decision → Type 0
IsPairTree nets tree decision = IsPairDecision nets (IsTreeDecision (pair_move nets) tree) decision

-- the order file has a faulty line, or names a wave list of the routers: then the script of the pair, in the version of the file
pub data IsScriptOfPair (nets : NetworkPair) (order : NamedText) : Decision → Type 0 where
  faulty_waves : (number : ℕ) (kind : OrderKind) → IsLeastFaultyLine nets.old order.text number kind →
      IsScriptOfPair nets order (BadOrder order.file number kind)
  of_waves : (version : Version) (ranks : List ℕ) → NamesWaves nets.old order.text version ranks →
      IsScriptOfPair nets order (PairScript (pair_script_text version nets ranks))

-- `pairscripts`: the script
abbrev pub IsPairScripts : NetworkPair → NamedText → Decision → Type 0
IsPairScripts nets order decision = IsPairDecision nets (IsScriptOfPair nets order) decision
