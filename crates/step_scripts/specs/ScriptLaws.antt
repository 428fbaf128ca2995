-- The laws of scripts.
use Rattle.std.specs.Prelude.{◌≡◌, ℕ, ◌+◌, ◌^◌, ◌<◌, ◌&&◌, not, Bool, List, ◌++◌, Some, filter, length, slice_get, slice_index, take}
use Rattle.std.specs.Char.{is_ascii_digit}
use Rattle.std.specs.List.{flat_map}
use Rattle.net_model.specs.Network.{Network}
use Rattle.order_core.specs.Rankings.{flat_of}
use Rattle.igp_theory.specs.Changes.{Change, changed}
use Rattle.igp_theory.specs.Waves.{run_along}
use Rattle.step_scripts.specs.declared.version.Version.{Version}
use Rattle.step_scripts.specs.Scripts.{change_comment, change_lines, change_parts, name_on, scripted, script_lines, is_comment}

-- a script begins with the parts for the first k changes of the flat run, and their lines, comments apart, are those
-- that make these changes
pub record IsFrontOfScript (version : Version) (net : Network) (ranks : List ℕ) (k : ℕ) : Type 0 where
  pub rest : List (List ℕ)
  pub whole : script_lines version net ranks ≡ change_parts (scripted version net ranks) 0 (take k (run_along (flat_of ranks))) ++ rest
  pub lines :
      filter (λ (line : List ℕ). not (is_comment line)) (change_parts (scripted version net ranks) 0 (take k (run_along (flat_of ranks))))
      ≡ flat_map (change_lines net) (take k (run_along (flat_of ranks)))

-- that is so of every k
abbrev pub ScriptFrontLaw : Type 0
ScriptFrontLaw = (version : Version) (net : Network) (ranks : List ℕ) (k : ℕ) → IsFrontOfScript version net ranks k

-- the comment of a change: an exclamation mark, a blank, and then a digit
abbrev pub is_change_comment : List ℕ → Bool
is_change_comment line = is_comment line && is_ascii_digit (slice_index line 2)

-- for each change of a run there is a comment, the one at the same place, with the change's number from 1 and its router's name
pub record AreNumberedComments (net : Network) (run : List Change) (comments : List (List ℕ)) : Type 0 where
  pub as_many : length comments ≡ length run
  pub each :
      (k : ℕ) (c : Change) → slice_get run k ≡ Some c →
      slice_get comments k ≡ Some (change_comment (k + 1) (name_on net (changed c)))

-- so it is of the comments of changes that stand in a script, in the order of its lines, for the changes of its flat run, of
-- which there are fewer than 2^64
abbrev pub ScriptCommentsLaw : Type 0
ScriptCommentsLaw =
    (version : Version) (net : Network) (ranks : List ℕ) → length (run_along (flat_of ranks)) < 2 ^ 64 →
    AreNumberedComments net (run_along (flat_of ranks)) (filter is_change_comment (script_lines version net ranks))
