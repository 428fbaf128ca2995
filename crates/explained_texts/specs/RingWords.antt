-- The routers of a ring with their tags, as words.
use Rattle.std.specs.Prelude.{ℕ, ◌++◌, List, [], ◌∷◌}
use Rattle.order_core.specs.declared.turn.Turn.{Turn}
use Rattle.printed_lines.specs.Words.{router_word}
use Rattle.refutation_check.specs.TreeLines.{letter_of}

-- a router, a colon (58) and the letter of its tag
abbrev pub tagged_word : List (List ℕ) → Turn → List ℕ
tagged_word names turn = router_word names turn.router ++ 58 ∷ letter_of turn.tag ∷ []
