-- Lists that are made place by place.
use Rattle.std.proofs.lemmas.Grind.{common_steps}
use Rattle.std.proofs.Common.{◌≡◌, ℕ, ◌+◌, ◌<◌, List, [], ◌∷◌, ◌++◌, length, get_or, arith}
use Rattle.std.proofs.lemmas.List.{get_or_append_left, get_or_push}

-- a list with one element more, each of which is what is asked for at its place
pub made_more : {X : Type 0} (P : ℕ → X → Type 0) (d : X) (old new : List X) (x : X) (i : ℕ) → length old ≡ i → ((k : ℕ) → k < i → P k (get_or old k d))
    → new ≡ old ++ x ∷ [] → P i x → record { count : length new ≡ i + 1; each : (k : ℕ) → k < i + 1 → P k (get_or new k d) }
made_more P d old new x i count each is here = grind (arith, common_steps, get_or_append_left, get_or_push)
