-- How a part is cut by the layers of its routers.
use Rattle.std.specs.Prelude.{◌≡◌, ℕ, ◌<◌, ◌⊎◌, List, length, slice_index, slice_index_or, Contains}
use Rattle.igp_theory.specs.declared.phase.Phase.{Phase}
use Rattle.loop_finder.specs.Parts.{ClassPart, PhaseHops, no_hops, part_hops}
use Rattle.loop_finder.specs.steps.Returns.{layer_in}

-- a hop of router u leads to a lower layer, or stays in its layer and is kept
abbrev pub IsCut : List ℕ → ℕ → List ℕ → ℕ → Type 0
IsCut layers u kept h = (layer_in layers h < layer_in layers u) ⊎ ((layer_in layers h ≡ layer_in layers u) × Contains kept h)

-- so do some hops
abbrev pub AreCutHops : List ℕ → ℕ → List ℕ → List ℕ → Type 0
AreCutHops layers u hops kept = (h : ℕ) → Contains hops h → IsCut layers u kept h

-- the place of the piece of router u's layer
abbrev pub owner_in : List ℕ → List ℕ → ℕ → ℕ
owner_in layers owners u = slice_index owners (layer_in layers u)

-- a step stays in the layer of router u, and is in the piece of the layer, at one of some places
pub record StaysIn (layers owners places : List ℕ) (pieces : List ClassPart) (u : ℕ) (phase : Phase) (h : ℕ) : Type 0 where
  pub level : layer_in layers h ≡ layer_in layers u
  pub among : Contains places (owner_in layers owners u)
  pub kept : (d : ClassPart) → Contains (part_hops (slice_index_or pieces (owner_in layers owners u) d) u phase) h

-- each step of router u does so, or leads to a lower layer
abbrev pub IsCutAt : List ℕ → List ℕ → List ℕ → List ClassPart → ClassPart → ℕ → Type 0
IsCutAt layers owners places pieces part u = (phase : Phase) (h : ℕ) → Contains (part_hops part u phase) h
    → (layer_in layers h < layer_in layers u) ⊎ StaysIn layers owners places pieces u phase h

-- router u's row is that of some rows, where it is in a layer
abbrev pub IsRowIn : List ℕ → ℕ → List PhaseHops → ℕ → PhaseHops → Type 0
IsRowIn layers layer rows u own = layer_in layers u ≡ layer → own ≡ slice_index_or rows u no_hops

-- so are those of the first n routers
pub record AreRowsIn (layers : List ℕ) (layer : ℕ) (rows : List PhaseHops) (n : ℕ) (own : List PhaseHops) : Type 0 where
  pub many : length own ≡ n
  pub each : (u : ℕ) → u < n → IsRowIn layers layer rows u (slice_index_or own u no_hops)
