-- Refusals that are kept, one check after the other.
use Rattle.std.specs.Prelude.{◌≡◌, ◌≢◌, ℕ, ◌<◌, ◌≤◌, List, [], ◌∷◌, ◌++◌, Result, Ok, Err}
use Rattle.net_model.specs.Refusals.{IsAbove, place_of}
use Rattle.net_model.specs.declared.refusal.LimitWhat.{LimitWhat}
use Rattle.net_model.specs.declared.refusal.NetRefusal.{NetRefusal}
use Rattle.net_model.specs.declared.refusal.NetRefusal.TheVariants.{Limit, OutOfMemory}
use Rattle.network_survey.specs.AllRefusals.{IsRefusedEarlier}
use Rattle.network_survey.specs.Listings.{ListsAll}

-- the refusal of a check comes to those before
abbrev pub KeepsRefusal : {T : Type 0} → Result T NetRefusal → List NetRefusal → List NetRefusal → Type 0
KeepsRefusal (Ok _) old new = new ≡ old
KeepsRefusal (Err refusal) old new = (refusal ≢ OutOfMemory) × (new ≡ old ++ refusal ∷ [])

-- a refusal of which P holds, of a place before this one
pub record IsAbovePlace (P : NetRefusal → Type 0) (place : ℕ) (refusal : NetRefusal) : Type 0 where
  pub above : place_of refusal < place
  pub holds : P refusal

-- all of them, in their order
abbrev pub ListsAbove : (NetRefusal → Type 0) → ℕ → List NetRefusal → Type 0
ListsAbove P place = ListsAll IsRefusedEarlier (IsAbovePlace P place)

-- a number above its limit is refused, and no other
abbrev pub IsChecked : LimitWhat → ℕ → ℕ → Result (Unit {0}) NetRefusal → Type 0
IsChecked what number most (Ok _) = number ≤ most
IsChecked what number most (Err refusal) = IsAbove most number number × (refusal ≡ Limit what number)
