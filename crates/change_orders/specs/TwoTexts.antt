-- The text of a wave list of single changes, and the line of a refusal.
use Rattle.std.specs.Prelude.{ℕ, ◌+◌, ◌/◌, ◌%◌, List, [], ◌∷◌, ◌++◌, slice_index_or, map, codes, decimal}
use Rattle.printed_lines.specs.Words.{joined}
use Rattle.printed_lines.specs.Texts.{line, text_of}
use Rattle.step_scripts.specs.WavesTexts.{waves_in}
use Rattle.change_orders.specs.ChangeWords.{change_word}
use Rattle.change_orders.specs.TwoFaults.{two_header}
use Rattle.change_orders.specs.declared.kind.TwoKind.{TwoKind}
use Rattle.change_orders.specs.declared.kind.TwoKind.TheVariants.{Form, NotInNetwork, Twice, Missing, Early}

-- the word of an item, where these are the names of all routers
abbrev pub item_word : List (List ℕ) → ℕ → List ℕ
item_word names item = change_word (slice_index_or names (item / 2) []) (item % 2 + 1)

-- a line: a word and the words of some items
abbrev pub items_line : List (List ℕ) → List ℕ → List ℕ → List ℕ
items_line names word items = joined (word ∷ map (item_word names) items)

-- the text of a wave list and a chain of items: a line for each wave, its items ascending, and the chain
abbrev pub two_text : List (List ℕ) → List ℕ → List ℕ → List ℕ
two_text names ranks chain =
    text_of (two_header ∷ (map (items_line names (codes "wave")) (waves_in ranks) ++ items_line names (codes "chain") chain ∷ []))

-- the name of a kind
abbrev pub two_kind_name : TwoKind → List ℕ
two_kind_name Form = codes "Form"
two_kind_name NotInNetwork = codes "NotInNetwork"
two_kind_name Twice = codes "Twice"
two_kind_name Missing = codes "Missing"
two_kind_name Early = codes "Early"

-- the line for a faulty line of a file
abbrev pub two_refusal_text : List ℕ → ℕ → TwoKind → List ℕ
two_refusal_text file number kind = line (codes "refused") (file ∷ decimal number ∷ two_kind_name kind ∷ [])
