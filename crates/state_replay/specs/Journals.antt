-- Journals: the line `journal 1`, then for each change that was made the name of its router, a blank and its number.
-- Lines are counted from 1.
use Rattle.std.specs.Prelude.{◌≡◌, ℕ, ◌+◌, ◌<◌, ◌↔◌, ◌⊎◌, List, [], ◌∷◌, ◌++◌, length, map, slice_index, codes, Option}
use Rattle.std.specs.Prelude.{Some, None}
use Rattle.std.specs.List.{AllZip}
use Rattle.net_addr.specs.Lines.{line_texts}
use Rattle.net_model.specs.Lookups.{IsNamed}
use Rattle.net_model.specs.Network.{Network}
use Rattle.igp_theory.specs.States.{changes_on}
use Rattle.igp_theory.specs.Changes.{Change, changed}
use Rattle.igp_theory.specs.Phases.{all_old}
use Rattle.igp_theory.specs.Timetables.{IsRun, router_times}
use Rattle.state_replay.specs.Halves.{change_of, ending_of}
use Rattle.state_replay.specs.declared.half.Half.{Half}
use Rattle.state_replay.specs.declared.place.Place.{Place}
use Rattle.state_replay.specs.declared.place.Place.TheVariants.{Reached, Departs}

-- ---- changes that begin a run ----

-- changes are the first ones of some run of a wave list
pub record BeginRun (n : ℕ) (ranks : List ℕ) (changes : List Change) : Type 0 where
  pub rest : List Change
  pub is_run : IsRun n (router_times all_old ranks) (changes ++ rest)

-- after some changes this one may come next: with it they begin a run
abbrev pub MayComeNext : ℕ → List ℕ → List Change → Change → Type 0
MayComeNext n ranks changes c = BeginRun n ranks (changes ++ c ∷ [])

-- how many of some changes are made on each router
pub record AreChangeCounts (n : ℕ) (changes : List Change) (done : List ℕ) : Type 0 where
  pub each : length done ≡ n
  pub count : (u : ℕ) → u < n → slice_index done u ≡ changes_on u (map changed changes)

-- by what may come, none of the changes of router u may; this one of them may, and not the other
abbrev pub IsNextAfter : (Change → Type 0) → ℕ → Option Half → Type 0
IsNextAfter MayCome u None = (half : Half) → MayCome (change_of u half) → ⊥
IsNextAfter MayCome u (Some next) = (half : Half) → MayCome (change_of u half) ↔ (half ≡ next)

-- that is so after all changes that begin a run and have these counts
abbrev pub IsNextOn : List ℕ → List ℕ → ℕ → Option Half → Type 0
IsNextOn ranks done u next =
    (changes : List Change) → BeginRun (length ranks) ranks changes → AreChangeCounts (length ranks) changes done →
    IsNextAfter (MayComeNext (length ranks) ranks changes) u next

-- ---- the lines of a journal ----

-- the first line of a journal
abbrev pub journal_header : List ℕ
journal_header = codes "journal 1"

-- a line tells a change: the name of its router, a blank, and the number of the change
pub record TellsChange (net : Network) (line : List ℕ) (c : Change) : Type 0 where
  pub name : List ℕ
  pub router : ℕ
  pub half : Half
  pub bytes : line ≡ name ++ ending_of half
  pub named : IsNamed net name router
  pub is : c ≡ change_of router half

-- how far a migration is: its network, the wave of each router, and how many changes are made on each
pub record Progress : Type 0 where
  pub net : Network
  pub ranks : List ℕ
  pub done : List ℕ

abbrev pub progress : Network → List ℕ → List ℕ → Progress
progress net ranks done = record { net = net; ranks = ranks; done = done }

-- lines tell changes that begin a run, and these are the counts of the changes
pub record AreReplayed (p : Progress) (lines : List (List ℕ)) (changes : List Change) : Type 0 where
  pub told : AllZip (TellsChange p.net) lines changes
  pub begin : BeginRun (length p.net) p.ranks changes
  pub counts : AreChangeCounts (length p.net) changes p.done

-- a line tells none that may come next after these changes
abbrev pub IsMisfit : Progress → List ℕ → List Change → Type 0
IsMisfit p line changes = (c : Change) → TellsChange p.net line c → MayComeNext (length p.net) p.ranks changes c → ⊥

-- the lines are the header and, for each of k changes that begin a run, the line that tells it
pub record HasReached (p : Progress) (journal : List ℕ) (k : ℕ) : Type 0 where
  pub lines : List (List ℕ)
  pub all : line_texts journal ≡ journal_header ∷ lines
  pub changes : List Change
  pub count : k ≡ length changes
  pub replayed : AreReplayed p lines changes

-- the first line is missing or another one, and nothing is done
pub record LacksHeader (p : Progress) (journal : List ℕ) (line : ℕ) : Type 0 where
  pub number : line ≡ 1
  pub other : (lines : List (List ℕ)) → line_texts journal ≡ journal_header ∷ lines → ⊥
  pub counts : AreChangeCounts (length p.net) [] p.done

-- the lines before this one tell changes that begin a run, and it tells none that may come next
pub record HasMisfit (p : Progress) (journal : List ℕ) (line : ℕ) : Type 0 where
  pub before : List (List ℕ)
  pub text : List ℕ
  pub after : List (List ℕ)
  pub all : line_texts journal ≡ journal_header ∷ before ++ text ∷ after
  pub number : line ≡ length before + 2
  pub changes : List Change
  pub replayed : AreReplayed p before changes
  pub misfit : IsMisfit p text changes

-- where a journal stands, and how many changes are made on each router by the lines up to there
abbrev pub IsPlace : Progress → List ℕ → Place → Type 0
IsPlace p journal (Reached k) = HasReached p journal k
IsPlace p journal (Departs line) = LacksHeader p journal line ⊎ HasMisfit p journal line
