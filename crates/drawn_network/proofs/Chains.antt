-- A text that grows piece by piece.
use Rattle.std.proofs.Common.{◌≡◌, ◌∙◌, ℕ, List, ◌++◌, ap, append_assoc}

-- a second piece
pub two_pieces : (start mid end one two : List ℕ) → mid ≡ start ++ one → end ≡ mid ++ two → end ≡ start ++ (one ++ two)
two_pieces start mid end one two first second = second ∙ ap (λ (l : List ℕ). l ++ two) first ∙ append_assoc start one two

-- and the last one
pub last_piece : (start mid one two : List ℕ) → mid ≡ start ++ one → mid ++ two ≡ start ++ (one ++ two)
last_piece start mid one two first = ap (λ (l : List ℕ). l ++ two) first ∙ append_assoc start one two
