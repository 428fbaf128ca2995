-- The script of a migration: along the flat run of a wave list, for each change a comment and the lines that make it.
use Rattle.std.specs.Prelude.{ℕ, ◌+◌, ◌==◌, ◌&&◌, ◌||◌, not, Bool, true, false, if◌then◌else◌, List, [], ◌∷◌, ◌++◌}
use Rattle.std.specs.Prelude.{slice_index, slice_get, codes, decimal, Option, Some, None, is_some}
use Rattle.std.specs.List.{list_any}
use Rattle.net_model.specs.Configuration.{Configuration}
use Rattle.net_model.specs.Network.{Network}
use Rattle.net_model.specs.declared.bounds.TheConstants.{ISIS_DISTANCE, MOST_DISTANCE}
use Rattle.order_core.specs.Rankings.{rank_of, wave_of, flat_of}
use Rattle.igp_theory.specs.Changes.{Change, first, second, changed}
use Rattle.igp_theory.specs.Waves.{run_along}
use Rattle.printed_lines.specs.Words.{joined, spaced}
use Rattle.printed_lines.specs.Texts.{text_of}
use Rattle.step_scripts.specs.declared.version.Version.{Version}
use Rattle.step_scripts.specs.declared.version.Version.TheVariants.{One, Two}

-- ---- the lines that make a change ----

-- the line that opens the section of the IS-IS process, with its tag where it has one
abbrev pub isis_head : List ℕ → List ℕ
isis_head [] = joined (codes "router" ∷ codes "isis" ∷ [])
isis_head (b ∷ tag) = joined (codes "router" ∷ codes "isis" ∷ (b ∷ tag) ∷ [])

-- the line that opens the section of an OSPF process
abbrev pub ospf_head : ℕ → List ℕ
ospf_head process = joined (codes "router" ∷ codes "ospf" ∷ decimal process ∷ [])

-- the line of a section that sets the distance of its process
abbrev pub distance_line : ℕ → List ℕ
distance_line distance = spaced (codes "distance" ∷ decimal distance ∷ [])

-- a first change: the distance of IS-IS is 115 from here on; without IS-IS there is no line
abbrev pub isis_change_lines : Configuration → List (List ℕ)
isis_change_lines c = if c.isis then isis_head c.tag ∷ distance_line ISIS_DISTANCE ∷ [] else []

-- the OSPF process has this distance from here on; without one there is no line
abbrev pub ospf_distance_lines : ℕ → Option ℕ → List (List ℕ)
ospf_distance_lines distance None = []
ospf_distance_lines distance (Some process) = ospf_head process ∷ distance_line distance ∷ []

-- a second change: the distance of the OSPF process is 255 from here on
abbrev pub ospf_change_lines : Option ℕ → List (List ℕ)
ospf_change_lines process = ospf_distance_lines MOST_DISTANCE process

-- what is said of a router by its configuration
abbrev pub by_configuration : {A : Type 0} → (Configuration → List A) → Option Configuration → List A
by_configuration f None = []
by_configuration f (Some c) = f c

-- the lines that make a change on its router
abbrev pub change_lines : Network → Change → List (List ℕ)
change_lines net (first u) = by_configuration isis_change_lines (slice_get net u)
change_lines net (second u) = by_configuration (λ (c : Configuration). ospf_change_lines c.process) (slice_get net u)

-- ---- comments ----

-- the name of a router
abbrev pub name_on : Network → ℕ → List ℕ
name_on net u = by_configuration (λ (c : Configuration). c.name) (slice_get net u)

-- the comment before a change, with its number among all changes, from 1, and the name of its router
abbrev pub change_comment : ℕ → List ℕ → List ℕ
change_comment number name = joined (codes "!" ∷ decimal number ∷ name ∷ [])

-- the comment before a wave, with its number from 1
abbrev pub wave_comment : ℕ → List ℕ
wave_comment number = joined (codes "!" ∷ codes "wave" ∷ decimal number ∷ [])

-- the comment at the end
abbrev pub end_comment : List ℕ
end_comment = joined (codes "!" ∷ codes "end" ∷ [])

-- whether a router is the first one of its wave
abbrev pub opens_wave : List ℕ → ℕ → Bool
opens_wave ranks u = slice_index (wave_of ranks (rank_of ranks u)) 0 == u

-- whether a script of this version shows the waves
abbrev pub shows_waves : Version → Bool
shows_waves One = false
shows_waves Two = true

-- in a script that shows them a comment stands before the first change of each wave
abbrev pub wave_comments : Version → List ℕ → Change → List (List ℕ)
wave_comments version ranks (first u) = if shows_waves version && opens_wave ranks u then wave_comment (rank_of ranks u + 1) ∷ [] else []
wave_comments version ranks (second u) = []

-- a router lacks one of the two processes
abbrev pub lacks_process : Configuration → Bool
lacks_process c = not c.isis || not (is_some c.process)

-- where some router of the network lacks a process a comment stands at the end, since a change may have no lines
abbrev pub end_lines : Network → List (List ℕ)
end_lines net = if list_any lacks_process net then end_comment ∷ [] else []

-- ---- the script ----

-- what a script is of: the version of its order file, the network, and the rank of each router
pub record Scripted : Type 0 where
  pub version : Version
  pub net : Network
  pub ranks : List ℕ

abbrev pub scripted : Version → Network → List ℕ → Scripted
scripted version net ranks = record { version = version; net = net; ranks = ranks }

-- the part of a script for a change: its comments, and the lines that make it
abbrev pub change_part : Scripted → ℕ → Change → List (List ℕ)
change_part m number c = wave_comments m.version m.ranks c ++ change_comment number (name_on m.net (changed c)) ∷ change_lines m.net c

-- the parts for changes one after the other, behind so many changes
abbrev pub change_parts : Scripted → ℕ → List Change → List (List ℕ)
change_parts m made [] = []
change_parts m made (c ∷ changes) = change_part m (made + 1) c ++ change_parts m (made + 1) changes

-- the lines of a script: the parts for the changes of the flat run, and the end
abbrev pub script_lines : Version → Network → List ℕ → List (List ℕ)
script_lines version net ranks = change_parts (scripted version net ranks) 0 (run_along (flat_of ranks)) ++ end_lines net

-- its text
abbrev pub script_text : Version → Network → List ℕ → List ℕ
script_text version net ranks = text_of (script_lines version net ranks)

-- a comment begins with an exclamation mark (33)
abbrev pub is_comment : List ℕ → Bool
is_comment [] = false
is_comment (b ∷ line) = b == 33
