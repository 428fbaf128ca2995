-- The words of a call that are refused.
use Rattle.std.specs.Prelude.{ℕ, List, []}
use Rattle.migrate_words.specs.Asked.{AreTaken, HasValueOff}

-- the words are refused, and this is what more is said of them: the command line doesn't take them; or a value of them is off,
-- and nothing more is said
pub data AreRefused (words : List (List ℕ)) : List ℕ → Type 0 where
  not_taken : (detail : List ℕ) → (AreTaken words → ⊥) → AreRefused words detail
  value_off : HasValueOff words → AreRefused words []
