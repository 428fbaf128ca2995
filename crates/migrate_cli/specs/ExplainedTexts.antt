-- Texts that explain what another line of them says.
use Rattle.std.specs.Prelude.{◌≡◌, ℕ, List, ◌++◌}

-- a text tells something behind what it begins with
pub record TellsBehind (Told : List ℕ → Type 0) (first text : List ℕ) : Type 0 where
  pub behind : List ℕ
  pub told : Told behind
  pub text_is : text ≡ first ++ behind
