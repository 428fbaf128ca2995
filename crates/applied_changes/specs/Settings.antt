-- Distances that are set one after the other, each by the lines of its process.
use Rattle.std.specs.Prelude.{◌≡◌, ◌≢◌, ◌⊎◌, ◌≤◌, ℕ, List, [], ◌∷◌, if◌then◌else◌, is_some}
use Rattle.net_model.specs.Configuration.{Configuration}
use Rattle.net_model.specs.declared.bounds.TheConstants.{ISIS_DISTANCE, MOST_DISTANCE}
use Rattle.step_scripts.specs.Scripts.{distance_line, isis_head, ospf_distance_lines}
use Rattle.applied_changes.specs.AppliedTexts.{with_distances}

-- the distance of IS-IS is set, or that of OSPF
pub data Setting : Type 0 where
  isis_at : ℕ → Setting
  ospf_at : ℕ → Setting

-- the lines that set it; without the process there is none
abbrev pub setting_lines : Configuration → Setting → List (List ℕ)
setting_lines c (isis_at distance) = if c.isis then isis_head c.tag ∷ distance_line distance ∷ [] else []
setting_lines c (ospf_at distance) = ospf_distance_lines distance c.process

-- the configuration with it
abbrev pub with_setting : Setting → Configuration → Configuration
with_setting (isis_at distance) c = if c.isis then with_distances c.distances.ospf distance c else c
with_setting (ospf_at distance) c = if is_some c.process then with_distances distance c.distances.isis c else c

-- and with all of some, the first one first
abbrev pub with_settings : List Setting → Configuration → Configuration
with_settings [] c = c
with_settings (s ∷ settings) c = with_settings settings (with_setting s c)

-- a distance of OSPF that a line may give: from 1 to the greatest, and not that of IS-IS
pub record IsOspfAllowed (distance : ℕ) : Type 0 where
  pub some : 1 ≤ distance
  pub most : distance ≤ MOST_DISTANCE
  pub apart : distance ≢ ISIS_DISTANCE

-- lines may set it: one of IS-IS is its own during a migration, or the greatest
abbrev pub IsAllowed : Setting → Type 0
IsAllowed (isis_at distance) = (distance ≡ ISIS_DISTANCE) ⊎ (distance ≡ MOST_DISTANCE)
IsAllowed (ospf_at distance) = IsOspfAllowed distance
