-- How the rows of a part are made.
use Rattle.std.specs.Prelude.{◌≡◌, ℕ, ◌<◌, ◌⊎◌, Bool, List, All, length, map, slice_index_or, Contains}
use Rattle.igp_theory.specs.declared.phase.Phase.{Phase}
use Rattle.order_core.specs.Marks.{IsMarked}
use Rattle.loop_finder.specs.Parts.{PhaseHops, ClassPart, StepsOf, hops_of, no_hops}
use Rattle.rib_mix.specs.Answers.{IsAlikeAt}
use Rattle.loop_finder.specs.Mixes.{ClassIn, Mix, class_in, migration_in}

-- the marked ones of some routers are among others
abbrev pub HasMarked : List Bool → List ℕ → List ℕ → Type 0
HasMarked marks others routers = (h : ℕ) → Contains routers h → IsMarked marks h → Contains others h

-- the marked ones of some routers
pub record AreKept (routers : List ℕ) (marks : List Bool) (kept : List ℕ) : Type 0 where
  pub from : (h : ℕ) → Contains kept h → Contains routers h
  pub all : HasMarked marks kept routers

-- a row has all hops of a router to marked ones, where it's marked itself
abbrev pub HasHops : ClassIn → List Bool → ℕ → PhaseHops → Type 0
HasHops c marks u row = (phase : Phase) (h : ℕ) → StepsOf c u phase h → IsMarked marks u → IsMarked marks h → Contains (hops_of row phase) h

-- rows have those of all routers
pub record HaveHops (c : ClassIn) (marks : List Bool) (rows : List PhaseHops) : Type 0 where
  pub many : length rows ≡ length marks
  pub each : (u : ℕ) → u < length marks → HasHops c marks u (slice_index_or rows u no_hops)

-- the hops of a router in each phase: only such, and all from a marked router to a marked one
pub record IsRowOf (c : ClassIn) (marks : List Bool) (u : ℕ) (row : PhaseHops) : Type 0 where
  pub steps : (phase : Phase) (h : ℕ) → Contains (hops_of row phase) h → StepsOf c u phase h
  pub all : HasHops c marks u row

-- those of the first routers
pub record AreFirstRows (c : ClassIn) (marks : List Bool) (n : ℕ) (rows : List PhaseHops) : Type 0 where
  pub many : length rows ≡ n
  pub each : (u : ℕ) → u < n → IsRowOf c marks u (slice_index_or rows u no_hops)

-- those of all routers
abbrev pub AreRowsOf : ClassIn → List Bool → List PhaseHops → Type 0
AreRowsOf c marks rows = AreFirstRows c marks (length marks) rows

-- a row has a hop in Old or in New
abbrev pub HasRowHop : PhaseHops → Type 0
HasRowHop row = (0 < length row.old) ⊎ (0 < length row.new)

-- router u has a hop by its row of a class, and does the same for another class
pub record ActsAlikeAt (m : Mix) (row : PhaseHops) (u own other : ℕ) : Type 0 where
  pub hop : HasRowHop row
  pub alike : IsAlikeAt (migration_in m) m.classes u own other

-- each marked router does so
abbrev pub ServeAlike : Mix → List Bool → List PhaseHops → ℕ → ℕ → Type 0
ServeAlike m marks rows own other =
    (u : ℕ) → u < length m.net → IsMarked marks u → ActsAlikeAt m (slice_index_or rows u no_hops) u own other

-- a part has the steps of a class between marked routers: its rows have all hops, or these routers do the same for both classes
pub data Serves (m : Mix) (marks : List Bool) (part : ClassPart) (atom : ℕ) : Type 0 where
  by_hops : HaveHops (class_in m atom) marks part.rows → Serves m marks part atom
  by_likeness : ServeAlike m marks part.rows part.atom atom → Serves m marks part atom

-- one of some parts has them
pub record HasEarlierHops (m : Mix) (marks : List Bool) (parts : List ClassPart) (atom : ℕ) : Type 0 where
  pub earlier : ClassPart
  pub among : Contains parts earlier
  pub serves : Serves m marks earlier atom

-- the rows at some places
abbrev pub placed_rows : List PhaseHops → List ℕ → List PhaseHops
placed_rows own places = map (λ k. slice_index_or own k no_hops) places

-- the first row has no hops, and there is one at each of some places
pub record ArePlaced (own : List PhaseHops) (places : List ℕ) : Type 0 where
  pub some : 0 < length own
  pub bare : slice_index_or own 0 no_hops ≡ no_hops
  pub each : All (λ k. k < length own) places
