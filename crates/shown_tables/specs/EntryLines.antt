-- The line of an entry.
use Rattle.std.specs.Prelude.{ℕ, List, [], ◌∷◌, map, codes}
use Rattle.printed_lines.specs.Words.{joined, prefix_word, router_word}
use Rattle.route_core.specs.declared.entry.Entry.{Entry}
use Rattle.route_core.specs.declared.entry.Entry.TheVariants.{Via, Discard}
use Rattle.shown_tables.specs.ShownEntries.{ShownEntry}
use Rattle.shown_tables.specs.declared.igp.Igp.{Igp}
use Rattle.shown_tables.specs.declared.igp.Igp.TheVariants.{Ospf, Isis}

-- the name of a protocol
abbrev pub igp_word : Igp → List ℕ
igp_word Ospf = codes "ospf"
igp_word Isis = codes "isis"

-- the names of some routers, where these are the names of all
abbrev pub hop_words : List (List ℕ) → List ℕ → List (List ℕ)
hop_words names hops = map (router_word names) hops

-- what a table says of a prefix: its next hops, or that packets are dropped
abbrev pub entry_words : List (List ℕ) → Entry → List (List ℕ)
entry_words names (Via hops) = codes "via" ∷ hop_words names hops
entry_words names Discard = codes "discard" ∷ []

-- the words of an entry: router, protocol, prefix, and what is said of it
abbrev pub shown_words : List (List ℕ) → ShownEntry → List (List ℕ)
shown_words names one = router_word names one.router ∷ igp_word one.igp ∷ prefix_word one.dest ∷ entry_words names one.entry

abbrev pub shown_line : List (List ℕ) → ShownEntry → List ℕ
shown_line names one = joined (shown_words names one)
