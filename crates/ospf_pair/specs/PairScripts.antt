-- The script of a move from one OSPF process to another: along the flat run, for each change a comment and the lines that make it.
use Rattle.std.specs.Prelude.{ℕ, Bool, is_none, if◌then◌else◌, List, [], ◌∷◌, ◌++◌, slice_get}
use Rattle.std.specs.List.{enumerate_from, flat_map, list_any}
use Rattle.net_model.specs.Configuration.{Configuration}
use Rattle.net_model.specs.declared.bounds.TheConstants.{ISIS_DISTANCE, MOST_DISTANCE}
use Rattle.order_core.specs.Rankings.{flat_of}
use Rattle.igp_theory.specs.Changes.{Change, first, second, changed}
use Rattle.igp_theory.specs.Waves.{run_along}
use Rattle.printed_lines.specs.Texts.{text_of}
use Rattle.step_scripts.specs.Scripts.{by_configuration, change_comment, end_comment, name_on, ospf_distance_lines, wave_comments}
use Rattle.step_scripts.specs.declared.version.Version.{Version}
use Rattle.ospf_pair.specs.NetworkPairs.{NetworkPair}

-- the lines of a change: a first one gives the new process the distance 115, a second one the old process 255
abbrev pub pair_change_lines : NetworkPair → Change → List (List ℕ)
pair_change_lines nets (first u) = by_configuration (λ (c : Configuration). ospf_distance_lines ISIS_DISTANCE c.process) (slice_get nets.new u)
pair_change_lines nets (second u) = by_configuration (λ (c : Configuration). ospf_distance_lines MOST_DISTANCE c.process) (slice_get nets.old u)

-- what a script is of: the version of its order file, the two networks, and the rank of each router
pub record PairScripted : Type 0 where
  pub version : Version
  pub nets : NetworkPair
  pub ranks : List ℕ

abbrev pub pair_scripted : Version → NetworkPair → List ℕ → PairScripted
pair_scripted version nets ranks = record { version = version; nets = nets; ranks = ranks }

-- the part of a script for a change, which has this number among all changes, from 1: its comments, and the lines that make it
abbrev pub pair_part : PairScripted → ℕ → Change → List (List ℕ)
pair_part m number c =
    wave_comments m.version m.ranks c ++ change_comment number (name_on m.nets.old (changed c)) ∷ pair_change_lines m.nets c

-- the parts for changes, one after the other
abbrev pub pair_parts : PairScripted → List Change → List (List ℕ)
pair_parts m changes = flat_map (λ (c : ℕ × Change). pair_part m c.0 c.1) (enumerate_from 1 changes)

-- a router has no OSPF process
abbrev pub lacks_ospf : Configuration → Bool
lacks_ospf c = is_none c.process

-- where some router has no process a comment stands at the end, since its changes have no lines
abbrev pub pair_end_lines : NetworkPair → List (List ℕ)
pair_end_lines nets = if list_any lacks_ospf nets.old then end_comment ∷ [] else []

-- the text of a script: the parts for the changes of the flat run, and the end
abbrev pub pair_script_text : Version → NetworkPair → List ℕ → List ℕ
pair_script_text version nets ranks =
    text_of (pair_parts (pair_scripted version nets ranks) (run_along (flat_of ranks)) ++ pair_end_lines nets)
