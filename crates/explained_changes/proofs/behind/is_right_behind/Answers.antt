use Rattle.std.proofs.Common.{◌≡◌, ◌+◌, ◌-◌, ◌==◌, ℕ, Bool, MatchBool, inl, inr, subst, sym}
use Rattle.std.proofs.lemmas.Bool.Decides.{eqb_tells}
use Rattle.order_core.specs.Rankings.{rank_of}
use Rattle.explained_changes.specs.ChangeReasonTexts.{IsRightBehind}
use Rattle.explained_changes.proofs.AskedLists.{behind_is_before, right_behind}
use Rattle.explained_changes.proofs.behind.is_right_behind.Goals as goal

-- what is decided by whether two numbers are one
by_numbers : (a b : ℕ) (P : Type 0) → (a ≡ b → P) → (P → a ≡ b) → MatchBool (a == b) P (¬ P)
by_numbers a b P there back = elim (eqb_tells a b) [
  | inl same ↦ subst (λ (t : Bool). MatchBool t P (¬ P)) (sym same.0) (there same.1)
  | inr apart ↦ subst (λ (t : Bool). MatchBool t P (¬ P)) (sym apart.0) (λ p. apart.1 (back p))
]

pub returns-then-item-eq1 : goal.returns-then-item-eq1
returns-then-item-eq1 c =
    let ranks = c.args.ranks.now in
    let i = c.args.item in
    by_numbers (rank_of ranks (i - 1) + 1) (rank_of ranks i) (IsRightBehind ranks i) (right_behind ranks i c.if-item-eq1.true)
    (behind_is_before ranks i)
