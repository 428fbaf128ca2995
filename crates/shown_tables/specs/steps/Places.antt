-- The prefixes of a source's tables by their places, and the entries that a table has for them.
use Rattle.std.specs.Prelude.{◌≡◌, ℕ, zero, suc, ◌<◌, ◌↔◌, List, [], ◌∷◌, ◌++◌, length, slice_index_or, AllPairs, Contains, Option, None, Some}
use Rattle.net_addr.specs.Addresses.{Block, default_prefix}
use Rattle.prefix_atoms.specs.Nested.{StandsBefore}
use Rattle.printed_lines.specs.Words.{prefix_word, spaced}
use Rattle.route_core.specs.Rows.{KeptTable, kept_number}
use Rattle.route_core.specs.declared.entry.Entry.{Entry}
use Rattle.route_core.specs.declared.entry.Entry.TheVariants.{Discard}
use Rattle.shown_tables.specs.EntryLines.{igp_word}
use Rattle.shown_tables.specs.ShownEntries.{ShownEntry}
use Rattle.shown_tables.specs.declared.igp.Igp.{Igp}
use Rattle.shown_tables.specs.declared.places.Placed.{Placed}

-- how the lines of a prefix go on behind the router: the protocol and the prefix, each after a blank
abbrev pub front_words : Igp → Block → List ℕ
front_words igp dest = spaced (igp_word igp ∷ prefix_word dest ∷ [])

-- what stands for the prefix at a place
abbrev pub placed_of : Igp → List Block → ℕ → Placed
placed_of igp prefixes place = record {
  dest = slice_index_or prefixes place default_prefix;
  place = place;
  front = front_words igp (slice_index_or prefixes place default_prefix);
}

-- and for those at the first n places
abbrev pub placed_below : Igp → List Block → ℕ → List Placed
placed_below igp prefixes zero = []
placed_below igp prefixes (suc n) = placed_below igp prefixes n ++ placed_of igp prefixes n ∷ []

-- it stands for the prefix at its place
pub record IsOfPlace (igp : Igp) (prefixes : List Block) (one : Placed) : Type 0 where
  pub below : one.place < length prefixes
  pub is : one ≡ placed_of igp prefixes one.place

-- what stands for prefixes, for each once, in the order of these
pub record AreInPrefixOrder (igp : Igp) (prefixes : List Block) (all : List Placed) : Type 0 where
  pub exact : (one : Placed) → Contains all one ↔ IsOfPlace igp prefixes one
  pub ascending : AllPairs (λ (one other : Placed). StandsBefore one.dest other.dest) all

-- the entry that the router's table shows for a prefix, where it has one with this number
abbrev pub shown_with : ℕ → Igp → List Entry → Block → Option ℕ → List ShownEntry
shown_with router igp entries dest None = []
shown_with router igp entries dest (Some number) =
    record { router = router; igp = igp; dest = dest; entry = slice_index_or entries number Discard } ∷ []

abbrev pub shown_at : ℕ → Igp → KeptTable → Placed → List ShownEntry
shown_at router igp kept one = shown_with router igp kept.entries one.dest (kept_number kept one.place)
