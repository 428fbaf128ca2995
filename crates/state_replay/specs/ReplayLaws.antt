-- The laws of journals.
use Rattle.std.specs.Prelude.{◌≡◌, ℕ, List}
use Rattle.net_model.specs.Network.{Network}
use Rattle.net_model.specs.Refusals.{NamesAscend}
use Rattle.igp_theory.specs.Changes.{Change}
use Rattle.igp_theory.specs.Phases.{all_old}
use Rattle.igp_theory.specs.Timetables.{IsRun, router_times}
use Rattle.state_replay.specs.Journals.{BeginRun, MayComeNext, IsPlace, progress}
use Rattle.state_replay.specs.declared.place.Place.{Place}

-- a journal stands at one place, with one count of each router
abbrev pub OnePlaceLaw : Type 0
OnePlaceLaw =
    (net : Network) (ranks journal : List ℕ) (one other : Place) (done made : List ℕ) → NamesAscend net →
    IsPlace (progress net ranks done) journal one → IsPlace (progress net ranks made) journal other → (one ≡ other) × (done ≡ made)

-- where changes begin a run and none may come next, they are the whole run
abbrev pub SomeNextLaw : Type 0
SomeNextLaw =
    (n : ℕ) (ranks : List ℕ) (changes : List Change) → BeginRun n ranks changes →
    ((c : Change) → MayComeNext n ranks changes c → ⊥) → IsRun n (router_times all_old ranks) changes
