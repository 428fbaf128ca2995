-- What a router uses for an address, in words.
use Rattle.std.specs.Prelude.{ℕ, List, [], ◌∷◌, map, codes, decimal}
use Rattle.net_addr.specs.Addresses.{IsBlock}
use Rattle.net_model.specs.RouterNames.{names_of}
use Rattle.printed_lines.specs.Words.{prefix_word, router_word}
use Rattle.route_core.specs.declared.entry.Entry.{Entry}
use Rattle.route_core.specs.declared.entry.Entry.TheVariants.{Via, Discard}
use Rattle.igp_theory.specs.Forwarding.{Usable, Uses, connected, of_new, of_old}
use Rattle.igp_theory.specs.MiddleLaws.{UsesNone}
use Rattle.igp_theory.specs.Migrations.{Migration}
use Rattle.igp_theory.specs.declared.phase.Phase.{Phase}
use Rattle.igp_theory.specs.declared.phase.Phase.TheVariants.{Old, Middle, New}

-- the word for a phase
abbrev pub phase_word : Phase → List ℕ
phase_word Old = codes "old"
phase_word Middle = codes "middle"
phase_word New = codes "new"

-- what an entry does with packets: the names of all its hops, or that it drops them
abbrev pub action_words : List (List ℕ) → Entry → List (List ℕ)
action_words names (Via hops) = codes "to" ∷ map (router_word names) hops
action_words names Discard = codes "discard" ∷ []

-- the protocol of a used entry, its distance, and what it does
abbrev pub usable_words : List (List ℕ) → ℕ → Usable → List (List ℕ)
usable_words names distance connected = codes "connected" ∷ decimal distance ∷ []
usable_words names distance (of_old e) = codes "ospf" ∷ decimal distance ∷ action_words names e
usable_words names distance (of_new e) = codes "isis" ∷ decimal distance ∷ action_words names e

-- what router u uses for the address in this phase: nothing, or the entry of the longest prefix, with its protocol
pub data AreUseWords (move : Migration) (u : ℕ) (phase : Phase) (a : ℕ) : List (List ℕ) → Type 0 where
  uses_none : UsesNone move u phase a → AreUseWords move u phase a (codes "none" ∷ [])
  uses_one : (used : Usable) (uses : Uses move u phase a used) → IsBlock uses.prefix →
      AreUseWords move u phase a (prefix_word uses.prefix ∷ usable_words (names_of move.net) uses.distance used)
