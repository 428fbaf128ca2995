-- The changes of a journal, as they are read.
use Rattle.std.specs.Prelude.{◌≡◌, ℕ, List, ◌++◌, map}
use Rattle.std.specs.List.{AllZip}
use Rattle.net_model.specs.Network.{Network}
use Rattle.igp_theory.specs.Changes.{Change}
use Rattle.state_replay.specs.Halves.{change_of}
use Rattle.state_replay.specs.Journals.{TellsChange}
use Rattle.live_replan.specs.BackTexts.{TellsChanges}
use Rattle.live_replan.specs.declared.told.Told.{Told}

-- the changes that were told
abbrev pub changes_told : List Told → List Change
changes_told told = map (λ (t : Told). change_of t.router t.half) told

-- these lines are left of a journal, and tell the changes behind those that were told
pub record AreLeft (net : Network) (left : List (List ℕ)) (told : List Told) (changes : List Change) : Type 0 where
  pub rest : List Change
  pub each : AllZip (TellsChange net) left rest
  pub whole : changes ≡ changes_told told ++ rest

-- that is so of whatever changes the journal tells
abbrev pub ToldSoFar : Network → List ℕ → List (List ℕ) → List Told → Type 0
ToldSoFar net journal left told = (changes : List Change) → TellsChanges net journal changes → AreLeft net left told changes
