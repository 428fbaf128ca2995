-- The lines of order files: the header, then in version 1 the name of a router on each, in version 2 a wave on each and maybe a chain.
use Rattle.std.specs.Prelude.{ℕ, Bool, ◌&&◌, nat_lt, if◌then◌else◌, List, [], ◌∷◌, length, codes, bytes_eq, Option, Some, None}
use Rattle.std.specs.List.{filter_map, list_all, slice_split}
use Rattle.net_addr.specs.Blanks.{is_blank}
use Rattle.step_scripts.specs.declared.version.Version.{Version}
use Rattle.step_scripts.specs.declared.version.Version.TheVariants.{One, Two}

-- the first line of an order file
abbrev pub header_of : Version → List ℕ
header_of One = codes "order 1"
header_of Two = codes "order 2"

-- one name or more, each of a byte or more
abbrev pub are_names : List (List ℕ) → Bool
are_names names = nat_lt 0 (length names) && list_all (λ name. nat_lt 0 (length name)) names

-- what stands behind this word among the pieces of a line, where they are names
abbrev pub named_pieces : List ℕ → List (List ℕ) → Option (List (List ℕ))
named_pieces word [] = None
named_pieces word (first ∷ names) = if bytes_eq first word && are_names names then Some names else None

-- the names of a line that is this word and one or more names, joined by one blank each, a space or a tab
abbrev pub names_behind : List ℕ → List ℕ → Option (List (List ℕ))
names_behind word line = named_pieces word (slice_split is_blank line)

-- the names of a wave: in version 1 the whole line is one name, in version 2 the names stand behind the word `wave`
abbrev pub wave_on : Version → List ℕ → Option (List (List ℕ))
wave_on One line = Some (line ∷ [])
wave_on Two line = names_behind (codes "wave") line

-- the names of a chain, which stand behind the word `chain`; version 1 has none
abbrev pub chain_on : Version → List ℕ → Option (List (List ℕ))
chain_on One line = None
chain_on Two line = names_behind (codes "chain") line

-- the waves on some lines, in their order
abbrev pub waves_on : Version → List (List ℕ) → List (List (List ℕ))
waves_on version lines = filter_map (wave_on version) lines

-- the chains on some lines, in their order
abbrev pub chains_on : Version → List (List ℕ) → List (List (List ℕ))
chains_on version lines = filter_map (chain_on version) lines
