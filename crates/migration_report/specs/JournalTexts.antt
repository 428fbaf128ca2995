-- What is printed of a journal.
use Rattle.std.specs.Prelude.{ℕ, ◌*◌, zero, suc, List, [], ◌∷◌, ◌++◌, codes, decimal, Option, Some, None, slice_index_or}
use Rattle.printed_lines.specs.Texts.{line}
use Rattle.state_replay.specs.Halves.{half_number}
use Rattle.state_replay.specs.declared.half.Half.{Half}
use Rattle.printed_lines.specs.Words.{router_word}

-- the first line that fits no run
abbrev pub departs_text : ℕ → List ℕ
departs_text number = line (codes "departs") (decimal number ∷ [])

-- the change of a router that may come next, where there is one
abbrev pub next_text : List ℕ → Option Half → List ℕ
next_text name None = []
next_text name (Some half) = line (codes "next") (name ∷ decimal (half_number half) ∷ [])

-- the changes of the first routers that may come next, in the order of the routers
abbrev pub next_texts : List (List ℕ) → List (Option Half) → ℕ → List ℕ
next_texts names nexts zero = []
next_texts names nexts (suc u) = next_texts names nexts u ++ next_text (router_word names u) (slice_index_or nexts u None)

-- these lines, or where there are none the line that all is done
abbrev pub or_done : List ℕ → List ℕ
or_done [] = line (codes "done") []
or_done (byte ∷ more) = byte ∷ more

-- how many of all changes are made, two for each router, and which may come next
abbrev pub reached_text : List (List ℕ) → ℕ → List (Option Half) → ℕ → List ℕ
reached_text names made nexts routers =
    line (codes "at") (decimal made ∷ codes "of" ∷ decimal (2 * routers) ∷ []) ++ or_done (next_texts names nexts routers)
