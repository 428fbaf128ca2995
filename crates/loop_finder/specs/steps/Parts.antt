-- A part in two states, and what its rows are of.
use Rattle.std.specs.Prelude.{◌≡◌, ℕ, ◌<◌, ◌⊎◌, List, [], ◌∷◌, ◌++◌, length, slice_index_or, All, Contains}
use Rattle.igp_theory.specs.Phases.{State, state_in}
use Rattle.igp_theory.specs.declared.phase.Phase.{Phase}
use Rattle.loop_finder.specs.Parts.{PhaseHops, hops_of, no_hops, ClassPart, part_hops}

-- router u has no hops by some rows
abbrev pub IsBareIn : List PhaseHops → ℕ → Type 0
IsBareIn rows u = (phase : Phase) (h : ℕ) → ¬ Contains (hops_of (slice_index_or rows u no_hops) phase) h

-- some of the first n routers, with all for which something doesn't hold
pub record AreAllBut (Is : ℕ → Type 0) (n : ℕ) (routers : List ℕ) : Type 0 where
  pub below : All (λ u. u < n) routers
  pub whole : (u : ℕ) → u < n → Contains routers u ⊎ Is u

-- a router is added at the end, or something holds
abbrev pub AddsUnless : Type 0 → ℕ → List ℕ → List ℕ → Type 0
AddsUnless Holds u old new = (new ≡ old ++ u ∷ []) ⊎ ((new ≡ old) × Holds)

-- the routers that have hops by some rows
abbrev pub AreSteppers : List PhaseHops → List ℕ → Type 0
AreSteppers rows routers = AreAllBut (IsBareIn rows) (length rows) routers

-- the steps of a part in one of two states
abbrev pub PartStep : ClassPart → List Phase → List Phase → ℕ → ℕ → Type 0
PartStep part first last u h = Contains (part_hops part u (state_in first u)) h ⊎ Contains (part_hops part u (state_in last u)) h

-- two states and a part
pub record PartState : Type 0 where
  pub part : ClassPart
  pub first : List Phase
  pub last : List Phase
  pub routers : ℕ

-- they are of so many routers
pub record IsPartState (c : PartState) : Type 0 where
  pub rows : length c.part.rows ≡ c.routers
  pub first_phases : length c.first ≡ c.routers
  pub last_phases : length c.last ≡ c.routers

-- two states of n routers differ at router u alone
abbrev pub DifferAt : ℕ → ℕ → State → State → Type 0
DifferAt n u before after = (v : ℕ) → v < n → ¬ (v ≡ u) → after v ≡ before v
