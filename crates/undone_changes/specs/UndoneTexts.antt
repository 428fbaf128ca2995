-- The way back as texts: the configurations with the lines of the changes that were made, and behind them those that undo the last of
-- these, read as the network of the state in which only the others are made.
use Rattle.std.specs.Prelude.{ℕ, ◌↔◌, List, [], ◌++◌, bytes_eq, drop, filter, length, map, reverse, take}
use Rattle.std.specs.List.{flat_map}
use Rattle.net_addr.specs.Addresses.{Block}
use Rattle.net_model.specs.Configuration.{Configuration}
use Rattle.net_model.specs.Network.{Network}
use Rattle.net_model.specs.OffStarts.{StartsOff}
use Rattle.net_model.specs.Refusals.{IsNetworkOf}
use Rattle.igp_theory.specs.Changes.{Change, changed}
use Rattle.igp_theory.specs.Forwarding.{Usable, Counts}
use Rattle.igp_theory.specs.Migrations.{ospf_to_isis}
use Rattle.igp_theory.specs.Phases.{State, all_old}
use Rattle.igp_theory.specs.Timetables.{state_after}
use Rattle.ios_sections.specs.declared.section.Section.{Section}
use Rattle.ios_reader.specs.Configurations.{configuration_of}
use Rattle.ios_reader.specs.Places.{raw_lines}
use Rattle.ios_reader.specs.PutBlocks.{put_blocks}
use Rattle.isis_writer.specs.ReadTexts.{ReadsTexts}
use Rattle.printed_lines.specs.Texts.{text_of}
use Rattle.step_scripts.specs.Scripts.{change_lines, name_on}
use Rattle.live_replan.specs.BackTexts.{undo_lines}
use Rattle.state_replay.specs.Journals.{BeginRun}
use Rattle.typed_distances.specs.TypedDistances.{AreSameBarDistances, CountsByDistance}

-- of some changes those that are made on the router of this name
abbrev pub changes_at : Network → List ℕ → List Change → List Change
changes_at net name changes = filter (λ (c : Change). bytes_eq (name_on net (changed c)) name) changes

-- what is typed on the router of this name, where the changes are made and then all but the first so many are undone, the last one
-- first: the lines of its own changes, and then those that undo its own
abbrev pub lines_there_and_back : Network → List Change → ℕ → List ℕ → List (List ℕ)
lines_there_and_back net changes kept name =
    flat_map (change_lines net) (changes_at net name changes) ++ flat_map (undo_lines net) (reverse (changes_at net name (drop kept changes)))

-- these lines for the configuration of some sections, by its name
abbrev pub block_there_and_back : Network → List Change → ℕ → List Section → List ℕ
block_there_and_back net changes kept sections = text_of (lines_there_and_back net changes kept (configuration_of sections).name)

-- a text with them put before the `end` line of each configuration
abbrev pub undone_text : Network → List Change → ℕ → List ℕ → List ℕ
undone_text net changes kept text = put_blocks (block_there_and_back net changes kept) [] (raw_lines text)

-- the state in which the first so many changes are made
abbrev pub state_kept : List Change → ℕ → State
state_kept changes kept = state_after all_old (take kept changes)

-- the texts with these lines read as configurations of a network that is the same but for distances, at each router of which the
-- entries that count by its distances alone are those that count by its phase in that state
pub record ReadBackward (net : Network) (texts : List (List ℕ)) (changes : List Change) (kept : ℕ) : Type 0 where
  pub configs : List Configuration
  pub reads : ReadsTexts (map (undone_text net changes kept) texts) configs
  pub typed : Network
  pub makes : IsNetworkOf configs typed
  pub alike : AreSameBarDistances net typed
  pub forwards : (u : ℕ) (p : Block) (distance : ℕ) (used : Usable) →
      CountsByDistance typed u p distance used ↔ Counts (ospf_to_isis net) u (state_kept changes kept u) p distance used

-- so it is of texts that give a network at its start, where the changes begin a run of a wave list, however many are kept
abbrev pub UndoneTextsForward : Type 0
UndoneTextsForward =
    (texts : List (List ℕ)) (configs : List Configuration) (net : Network) (ranks : List ℕ) (changes : List Change) →
    ReadsTexts texts configs → IsNetworkOf configs net → ((u : ℕ) → StartsOff net u → ⊥) → BeginRun (length net) ranks changes →
    (kept : ℕ) → ReadBackward net texts changes kept
