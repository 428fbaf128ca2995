-- The words of a line, by its pieces between blanks.
use Rattle.std.proofs.lemmas.Bool.Decides.{nat_tests}
use Rattle.std.proofs.Common.{◌≡◌, ◌≤◌, ℕ, arith, Bool, true, false, ◌||◌, List, [], ◌∷◌, cond, filter, length, nat_lt, refl, ap}
use Rattle.std.specs.List.{list_any}
use Rattle.text_survey.specs.ActingForms.{is_policy}

policy_cases : (piece : List ℕ) (t b : Bool) (rest : List (List ℕ)) → nat_lt 0 (length piece) ≡ t → list_any is_policy rest ≡ b →
    list_any is_policy (cond t (piece ∷ rest) rest) ≡ (is_policy piece || b)
policy_cases piece true b rest is h = ap (λ (c : Bool). is_policy piece || c) h
policy_cases [] false b rest is h = h
policy_cases (x ∷ xs) false b rest is h = let none : length (x ∷ xs) ≤ 0 = grind (arith, nat_tests) in absurd (omega (arith, none))

-- a piece without a byte names no policy
pub policy_pieces : (pieces : List (List ℕ)) → list_any is_policy (filter (λ (piece : List ℕ). nat_lt 0 (length piece)) pieces) ≡ list_any is_policy pieces
policy_pieces [] = refl
policy_pieces (piece ∷ pieces) =
    policy_cases piece (nat_lt 0 (length piece)) (list_any is_policy pieces) (filter (λ p. nat_lt 0 (length p)) pieces) refl (policy_pieces pieces)
