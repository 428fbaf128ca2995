-- The way back: the lines that undo the changes of a journal, from the last to the first.
use Rattle.std.specs.Prelude.{◌≡◌, ℕ, if◌then◌else◌, List, [], ◌∷◌, reverse, slice_get, codes, decimal}
use Rattle.std.specs.List.{AllZip, enumerate_from, flat_map}
use Rattle.net_addr.specs.Lines.{line_texts}
use Rattle.net_model.specs.Configuration.{Configuration}
use Rattle.net_model.specs.Network.{Network}
use Rattle.net_model.specs.declared.bounds.TheConstants.{MOST_DISTANCE}
use Rattle.igp_theory.specs.Changes.{Change, first, second, changed}
use Rattle.printed_lines.specs.Words.{joined}
use Rattle.printed_lines.specs.Texts.{text_of}
use Rattle.state_replay.specs.Journals.{journal_header, TellsChange}
use Rattle.step_scripts.specs.Scripts.{by_configuration, distance_line, isis_head, name_on, ospf_distance_lines}

-- a journal tells these changes: it is the header and, for each of them, the line that tells it
pub record TellsChanges (net : Network) (journal : List ℕ) (changes : List Change) : Type 0 where
  pub lines : List (List ℕ)
  pub all : line_texts journal ≡ journal_header ∷ lines
  pub told : AllZip (TellsChange net) lines changes

-- it tells some
pub record IsWholeJournal (net : Network) (journal : List ℕ) : Type 0 where
  pub changes : List Change
  pub tells : TellsChanges net journal changes

-- a first change is undone: the distance of IS-IS is the greatest again; without IS-IS there is no line
abbrev pub isis_undo_lines : Configuration → List (List ℕ)
isis_undo_lines c = if c.isis then isis_head c.tag ∷ distance_line MOST_DISTANCE ∷ [] else []

-- the lines that undo a change: a second one gives OSPF the distance of the configuration back
abbrev pub undo_lines : Network → Change → List (List ℕ)
undo_lines net (first u) = by_configuration isis_undo_lines (slice_get net u)
undo_lines net (second u) = by_configuration (λ (c : Configuration). ospf_distance_lines c.distances.ospf c.process) (slice_get net u)

-- the comment before them, with the number of the change in the journal, from 1, and the name of its router
abbrev pub undo_comment : ℕ → List ℕ → List ℕ
undo_comment number name = joined (codes "!" ∷ codes "undo" ∷ decimal number ∷ name ∷ [])

-- the part for a change
abbrev pub undo_part : Network → ℕ × Change → List (List ℕ)
undo_part net c = undo_comment c.0 (name_on net (changed c.1)) ∷ undo_lines net c.1

-- the text: the parts for the changes, from the last to the first
abbrev pub back_text : Network → List Change → List ℕ
back_text net changes = text_of (flat_map (undo_part net) (reverse (enumerate_from 1 changes)))
