-- How the lines of a journal are taken, one after the other.
use Rattle.std.specs.Prelude.{◌≡◌, ℕ, List, [], ◌∷◌, ◌++◌, length, Bool, true, false, MatchBool}
use Rattle.igp_theory.specs.Changes.{Change}
use Rattle.state_replay.specs.Journals.{journal_header, BeginRun, MayComeNext, AreChangeCounts, TellsChange, Progress, progress, IsMisfit}

-- the first of some lines is the header, and the others are left; or they don't begin with it
abbrev pub BeginsWithHeader : List (List ℕ) → List (List ℕ) → Bool → Type 0
BeginsWithHeader lines left true = lines ≡ journal_header ∷ left
BeginsWithHeader lines left false = (others : List (List ℕ)) → lines ≡ journal_header ∷ others → ⊥

-- a line tells a change that may come next, and these are the counts with it
pub record IsMade (p : Progress) (line : List ℕ) (changes : List Change) : Type 0 where
  pub change : Change
  pub told : TellsChange p.net line change
  pub next : MayComeNext (length p.net) p.ranks changes change
  pub counts : AreChangeCounts (length p.net) (changes ++ change ∷ []) p.done

-- a line tells no change that may come next, and the counts stay
pub record IsNotMade (p : Progress) (line : List ℕ) (changes : List Change) (made : List ℕ) : Type 0 where
  pub misfit : IsMisfit p line changes
  pub stay : made ≡ p.done

-- the one or the other, after all changes that begin a run and have these counts
abbrev pub MakesChange : Progress → List ℕ → List ℕ → Bool → Type 0
MakesChange p line made fits =
    (changes : List Change) → BeginRun (length p.net) p.ranks changes → AreChangeCounts (length p.net) changes p.done →
    MatchBool fits (IsMade (progress p.net p.ranks made) line changes) (IsNotMade p line changes made)
