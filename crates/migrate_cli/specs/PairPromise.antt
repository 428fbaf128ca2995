-- What calls of the commands over two networks promise.
use Rattle.std.specs.Prelude.{◌≡◌, ℕ, List, [], ◌∷◌}
use Rattle.net_model.specs.Network.{Network}
use Rattle.ospf_pair.specs.NetworkPairs.{network_pair}
use Rattle.ospf_pair.specs.PairMigrations.{ospf_to_ospf}
use Rattle.ospf_pair.specs.PairRefusals.{MakePair}
use Rattle.step_scripts.specs.WaveFiles.{NamesWaves}
use Rattle.step_scripts.specs.declared.version.Version.{Version}
use Rattle.store_edge.specs.Sink.{AddsBytes}
use Rattle.migrate_words.specs.Asked.{Asks}
use Rattle.migrate_words.specs.declared.command.Command.{Command}
use Rattle.migrate_words.specs.declared.command.CommandKind.TheVariants.{Pair, PairCheck, PairRefute, PairScripts}
use Rattle.migration_report.specs.declared.status.Status.{Status}
use Rattle.migrate_cli.specs.Calls.{Call, Outside, course, Course}
use Rattle.migrate_cli.specs.CommandFiles.{command_of, files_of, groups_of, own_texts}
use Rattle.migrate_cli.specs.Completeness.{Decides, DecidesTree, IsAccepted, NoFaultRose, Writes}
use Rattle.migrate_cli.specs.Configurations.{GiveNetworks, IsAtStart}
use Rattle.migrate_cli.specs.Headline.{Headline}
use Rattle.migrate_cli.specs.PlanPromise.{IsOfPlan, PlansOrNot}
use Rattle.migrate_cli.specs.Reading.{AreRead, AreWithin}

-- `pair` of these two files, with this budget
abbrev pub pair_of : ℕ → List ℕ → List ℕ → Command
pair_of budget old_file new_file = command_of Pair [] (old_file ∷ new_file ∷ []) budget

-- a call has planned from the OSPF of the network of one file to that of the other: what was read of them is within the limits,
-- so it is all that they hold; it gives these two networks, which make a pair; every router of the old one is where a migration
-- starts; and a text was written after what stood before, which means what the status says
pub record HasPaired (call : Call) (budget : ℕ) (old_file new_file : List ℕ) (outside : Course) (status : Status) : Type 0 where
  pub texts : List (List ℕ)
  pub read : AreRead call.content (files_of (pair_of budget old_file new_file)) texts
  pub within : AreWithin (files_of (pair_of budget old_file new_file)) texts
  pub old : Network
  pub new : Network
  pub gives : GiveNetworks (groups_of Pair texts) (old ∷ new ∷ [])
  pub start : IsAtStart old
  pub pair : MakePair (network_pair old new)
  pub text : List ℕ
  pub written : AddsBytes outside.before.written outside.after.written text
  pub means : Headline (ospf_to_ospf old new) budget status text

-- `pair` of these files, of which nothing is refused
pub record AcceptsPair (call : Call) : Type 0 where
  pub budget : ℕ
  pub old_file : List ℕ
  pub new_file : List ℕ
  pub texts : List (List ℕ)
  pub old : Network
  pub new : Network
  pub accepted : IsAccepted call (pair_of budget old_file new_file) texts old (new ∷ [])
  pub pair : MakePair (network_pair old new)

-- where the words ask for `pair`: with 0, 1, 7 and 8 it has planned, and where nothing of its input is refused and no fault
-- rises it ends so, or for want of memory
pub record PairPromise (call : Call) (before after : Outside) (status : Status) : Type 0 where
  pub means : (budget : ℕ) (old_file new_file : List ℕ) → Asks call.words (pair_of budget old_file new_file) → IsOfPlan status →
      HasPaired call budget old_file new_file (course before after) status
  pub decides : (accepts : AcceptsPair call) → NoFaultRose before after → PlansOrNot (ospf_to_ospf accepts.old accepts.new) status

-- `paircheck` of these files, of which nothing is refused
pub record AcceptsPairCheck (call : Call) : Type 0 where
  pub file : List ℕ
  pub configs : List (List ℕ)
  pub texts : List (List ℕ)
  pub old : Network
  pub new : Network
  pub accepted : IsAccepted call (command_of PairCheck (file ∷ []) configs 0) texts old (new ∷ [])
  pub pair : MakePair (network_pair old new)
  pub text : List ℕ
  pub text_is : own_texts (command_of PairCheck (file ∷ []) configs 0) texts ≡ text ∷ []
  pub version : Version
  pub ranks : List ℕ
  pub names : NamesWaves old text version ranks

-- `pairscripts` of these files, of which nothing is refused
pub record AcceptsPairScripts (call : Call) : Type 0 where
  pub file : List ℕ
  pub configs : List (List ℕ)
  pub texts : List (List ℕ)
  pub old : Network
  pub new : Network
  pub accepted : IsAccepted call (command_of PairScripts (file ∷ []) configs 0) texts old (new ∷ [])
  pub pair : MakePair (network_pair old new)
  pub text : List ℕ
  pub text_is : own_texts (command_of PairScripts (file ∷ []) configs 0) texts ≡ text ∷ []
  pub version : Version
  pub ranks : List ℕ
  pub names : NamesWaves old text version ranks

-- `pairrefute` of these files, of which nothing is refused
pub record AcceptsPairRefute (call : Call) : Type 0 where
  pub file : List ℕ
  pub configs : List (List ℕ)
  pub texts : List (List ℕ)
  pub old : Network
  pub new : Network
  pub accepted : IsAccepted call (command_of PairRefute (file ∷ []) configs 0) texts old (new ∷ [])
  pub pair : MakePair (network_pair old new)
  pub tree : List ℕ
  pub tree_is : own_texts (command_of PairRefute (file ∷ []) configs 0) texts ≡ tree ∷ []

-- where nothing of the input is refused and no fault rises, `paircheck` decides, `pairrefute` decides on its tree, and
-- `pairscripts` writes
abbrev pub PairCheckDecides : Call → Outside → Outside → Status → Type 0
PairCheckDecides call before after status = AcceptsPairCheck call → NoFaultRose before after → Decides status

abbrev pub PairRefuteDecides : Call → Outside → Outside → Status → Type 0
PairRefuteDecides call before after status =
    (accepts : AcceptsPairRefute call) → NoFaultRose before after → DecidesTree (ospf_to_ospf accepts.old accepts.new) accepts.tree status

abbrev pub PairScriptsWrites : Call → Outside → Outside → Status → Type 0
PairScriptsWrites call before after status = AcceptsPairScripts call → NoFaultRose before after → Writes status
