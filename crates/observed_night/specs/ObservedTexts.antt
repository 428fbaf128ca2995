-- What is printed of two networks, the one before a migration and the one of now.
use Rattle.std.specs.Prelude.{ℕ, List, [], ◌∷◌, ◌++◌, codes}
use Rattle.std.specs.List.{flat_map}
use Rattle.net_model.specs.Lookups.{IsNamed}
use Rattle.net_model.specs.Network.{Network}
use Rattle.order_core.specs.Rankings.{flat_of}
use Rattle.igp_theory.specs.Phases.{State}
use Rattle.igp_theory.specs.declared.phase.Phase.{Phase}
use Rattle.igp_theory.specs.declared.phase.Phase.TheVariants.{Old, Middle, New}
use Rattle.order_core.specs.Least.{IsLowest}
use Rattle.printed_lines.specs.Texts.{line, text_of}
use Rattle.step_scripts.specs.Scripts.{name_on}
use Rattle.state_replay.specs.Halves.{ending_of}
use Rattle.state_replay.specs.Journals.{journal_header}
use Rattle.state_replay.specs.declared.half.Half.TheVariants.{First, Second}
use Rattle.observed_night.specs.Differences.{AreOneNight, IsLeastDifference}
use Rattle.observed_night.specs.Parts.{part_word}
use Rattle.observed_night.specs.ShownPhases.{IsAstray}
use Rattle.observed_night.specs.ToldStates.{IsToldState}
use Rattle.observed_night.specs.declared.part.Part.{Part}
use Rattle.observed_night.specs.declared.night.Observed.{Observed}
use Rattle.observed_night.specs.declared.night.Observed.TheVariants.{Differs, Astray, Journal}

-- the line that tells what a router differs in
abbrev pub difference_text : List ℕ → Part → List ℕ
difference_text name part = line (codes "differs") (name ∷ part_word part ∷ [])

-- the line that tells a router whose changes can't be
abbrev pub astray_text : List ℕ → List ℕ
astray_text name = line (codes "departs") (name ∷ [])

-- the lines of a journal for a router of this name, by its phase
abbrev pub changes_told_in : Phase → List ℕ → List (List ℕ)
changes_told_in Old name = []
changes_told_in Middle name = (name ++ ending_of First) ∷ []
changes_told_in New name = (name ++ ending_of First) ∷ (name ++ ending_of Second) ∷ []

-- the lines for routers in this order
abbrev pub lines_along : Network → State → List ℕ → List (List ℕ)
lines_along net state order = flat_map (λ (u : ℕ). changes_told_in (state u) (name_on net u)) order

-- the journal of a state: its header, and the changes that were made along the flat run
abbrev pub state_journal : Network → List ℕ → State → List ℕ
state_journal net ranks state = text_of (journal_header ∷ lines_along net state (flat_of ranks))

-- what is observed: the networks differ in more than distances, or no run leads to what is shown, or a run leads there
pub data IsObserved (before now : Network) (ranks : List ℕ) : Observed → Type 0 where
  differs : (name : List ℕ) (part : Part) → IsLeastDifference before now name part →
      IsObserved before now ranks (Differs (difference_text name part))
  astray : (u : ℕ) (name : List ℕ) → AreOneNight before now → IsLowest (IsAstray before now ranks) u → IsNamed before name u →
      IsObserved before now ranks (Astray (astray_text name))
  journal : (state : State) → AreOneNight before now → ((u : ℕ) → IsAstray before now ranks u → ⊥) → IsToldState before now ranks state →
      IsObserved before now ranks (Journal (state_journal before ranks state))
