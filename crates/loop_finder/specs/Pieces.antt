-- The pieces of parts, and that each walk by which a part's steps return is one over the steps of a piece.
use Rattle.std.specs.Prelude.{◌≡◌, ℕ, ◌<◌, List, [], ◌∷◌, length, slice_index_or, All, Contains}
use Rattle.igp_theory.specs.States.{Follows}
use Rattle.igp_theory.specs.declared.phase.Phase.{Phase}
use Rattle.loop_finder.specs.Parts.{ClassPart, part_hops}
use Rattle.loop_finder.specs.Watches.{IsWatch}
use Rattle.loop_finder.specs.declared.pieces.Pieces.{Pieces}

-- the steps of a part in any phase
abbrev pub PartEver : ClassPart → ℕ → ℕ → Type 0
PartEver part u h = (phase : Phase) × Contains (part_hops part u phase) h

-- a piece has each step of a part on walks from router u back to it
abbrev pub HasReturnsOf : ClassPart → ClassPart → ℕ → Type 0
HasReturnsOf piece part u = (x y : ℕ) (front back : List ℕ) (phase : Phase) → Follows (PartEver part) u front x
    → Contains (part_hops part x phase) y → Follows (PartEver part) y back u → Contains (part_hops piece x phase) y

-- so does one of some pieces, at one of these places
pub record IsInPiece (pieces : List ClassPart) (part : ClassPart) (places : List ℕ) (u : ℕ) : Type 0 where
  pub place : ℕ
  pub among : Contains places place
  pub has : (d : ClassPart) → HasReturnsOf (slice_index_or pieces place d) part u

-- a part is made of the pieces at some places: for each router to which a walk over its steps returns one has the steps of these walks
pub record IsMadeOf (pieces : List ClassPart) (part : ClassPart) (places : List ℕ) : Type 0 where
  pub below : All (λ p. p < length pieces) places
  pub each : (u h : ℕ) (hops : List ℕ) → Follows (PartEver part) u (h ∷ hops) u → IsInPiece pieces part places u

-- the first n parts are so
pub record AreMadeOf (pieces parts : List ClassPart) (n : ℕ) (made : List (List ℕ)) : Type 0 where
  pub many : length made ≡ n
  pub each : (p : ℕ) → p < n → (d : ClassPart) → IsMadeOf pieces (slice_index_or parts p d) (slice_index_or made p [])

-- the pieces of parts over n routers
pub record ArePieces (parts : List ClassPart) (n : ℕ) (pieces : Pieces) : Type 0 where
  pub rows : All (λ (piece : ClassPart). length piece.rows ≡ n) pieces.all.items
  pub made : AreMadeOf pieces.all.items parts (length parts) pieces.made.items
  pub watch : IsWatch pieces.all.items n pieces.watch.items
