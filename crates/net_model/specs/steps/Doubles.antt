-- Neighbors of one name in a list of configurations.
use Rattle.std.specs.Prelude.{◌≡◌, ℕ, ◌+◌, ◌<◌, List, length, slice_index_or}
use Rattle.net_model.specs.Configuration.{Configuration}
use Rattle.net_model.specs.declared.refusal.NetRefusal.{NetRefusal}
use Rattle.net_model.specs.declared.refusal.NetRefusal.TheVariants.{TwoNames, OutOfMemory}

-- the configuration at place k and the one after it have one name
abbrev pub IsDouble : List Configuration → ℕ → Type 0
IsDouble configs k =
    (d : Configuration) → (slice_index_or configs k d).name ≡ (slice_index_or configs (k + 1) d).name

-- this is so at no place whose next is below n
abbrev pub NoDoubles : List Configuration → ℕ → Type 0
NoDoubles configs n = (k : ℕ) → k + 1 < n → IsDouble configs k → ⊥

-- this is so at place k, and at no place before it
pub record IsFirstDouble (configs : List Configuration) (k : ℕ) : Type 0 where
  pub within : k + 1 < length configs
  pub double : IsDouble configs k
  pub none_before : NoDoubles configs (k + 1)

-- the refusal is that two configurations have this name, or want of memory
abbrev pub IsTwoNames : List ℕ → NetRefusal → Type 0
IsTwoNames name (TwoNames least) = least ≡ name
IsTwoNames name OutOfMemory = Unit {0}
IsTwoNames name _ = ⊥
