-- Marks that are taken one after another.
use Rattle.std.proofs.lemmas.Grind.{common_steps}
use Rattle.std.proofs.Common.{◌≡◌, ℕ, ◌+◌, ◌<◌, ◌≤◌, Bool, true, false, List, [], ◌∷◌, length, set, arith, subst, sym, ◌∙◌}
use Rattle.std.proofs.Common.{inl, inr}
use Rattle.std.proofs.lemmas.List.{get_or-set_other, get_or-set_same, length-set}
use Rattle.std.proofs.lemmas.List.Sums.{sum_by-set, count_by-le-length}
use Rattle.std.proofs.lemmas.Bool.{false≢true}
use Rattle.std.proofs.lemmas.Bool.Decides.{eqb_tells}
use Rattle.std.specs.Bool.{OnFalse, OnTrue}
use Rattle.igp_theory.specs.States.{Follows}
use Rattle.order_core.specs.Marks.{IsMarked, marked_count}
use Rattle.loop_finder.specs.steps.Live.{AreBounded}

-- a router without a mark, once another's is taken: it is that one, or had none
unmarked_before : (marks : List Bool) (u r : ℕ) → (¬ IsMarked (set marks u false) r) → ¬ (r ≡ u) → ¬ IsMarked marks r
unmarked_before marks u r bare apart marked = bare (get_or-set_other marks u r false false apart ∙ marked)

-- one mark less
pub marked_count-set : (marks : List Bool) (u : ℕ) → u < length marks → IsMarked marks u → marked_count (set marks u false) + 1 ≡ marked_count marks
marked_count-set marks u within marked = grind (arith, common_steps, sum_by-set)

-- where each router that steps on is marked, no list of steps leads on from another
pub bounded_first : (step : ℕ → ℕ → Type 0) (marks : List Bool) → ((u h : ℕ) → step u h → IsMarked marks u) → AreBounded step marks
bounded_first step marks all u [] last bare follows = omega (arith, count_by-le-length (λ (b : Bool). b) marks)
bounded_first step marks all u (h ∷ hops) last bare follows = absurd (bare (all u h follows.0))

-- a mark that is there once another is taken was there
pub marked_before : (marks : List Bool) (u r : ℕ) → u < length marks → IsMarked (set marks u false) r → IsMarked marks r
marked_before marks u r within marked = grind (arith, common_steps, eqb_tells, get_or-set_other, get_or-set_same, false≢true)

-- a mark stays where another router is marked too
pub still_marked : (marks : List Bool) (r u : ℕ) → r < length marks → IsMarked marks u → IsMarked (set marks r true) u
still_marked marks r u within marked = grind (arith, common_steps, eqb_tells, get_or-set_other, get_or-set_same)

-- where a router steps to no marked one, its mark can be taken
pub bounded_more : (step : ℕ → ℕ → Type 0) (marks : List Bool) (u : ℕ) → u < length marks → IsMarked marks u → ((h : ℕ) → step u h → ¬ IsMarked marks h) →
    AreBounded step marks → AreBounded step (set marks u false)
bounded_more step marks u within marked stuck bounded r hops last bare follows = elim (eqb_tells r u) [
  | inl same ↦ at_u hops (subst (λ (x : ℕ). Follows step x hops last) same.1 follows)
  | inr apart ↦
      let few : length hops + marked_count marks ≤ length marks = bounded r hops last (unmarked_before marks u r bare apart.1) follows in
      omega (arith, few, fewer, many)
]
  where
    fewer : marked_count (set marks u false) + 1 ≡ marked_count marks
    fewer = marked_count-set marks u within marked

    many : length (set marks u false) ≡ length marks
    many = length-set marks u false

    at_u : (hops : List ℕ) → Follows step u hops last → length hops + marked_count (set marks u false) ≤ length (set marks u false)
    at_u [] follows = omega (arith, fewer, many, count_by-le-length (λ (b : Bool). b) marks)
    at_u (h ∷ rest) follows =
        let few : length rest + marked_count marks ≤ length marks = bounded h rest last (stuck h follows.0) follows.1 in
        omega (arith, few, fewer, many)

-- marks were taken, of routers that step to no marked one
pub record IsStripped (step : ℕ → ℕ → Type 0) (start marks : List Bool) : Type 0 where
  pub bounded : AreBounded step marks
  pub no_more : marked_count marks ≤ marked_count start

-- one more, where that is so of it
pub IsStripped-by : (step : ℕ → ℕ → Type 0) (start old new : List Bool) (u : ℕ) (taken : Bool) → u < length old → OnFalse taken (new ≡ old) →
    OnTrue taken (new ≡ set old u false)
    → OnTrue taken (IsMarked old u) → OnTrue taken ((h : ℕ) → step u h → ¬ IsMarked old h) → IsStripped step start old → IsStripped step start new
IsStripped-by step start old new u true within same is marked stuck before =
    let less : marked_count (set old u false) + 1 ≡ marked_count old = marked_count-set old u within marked in
    subst (λ (marks : List Bool). IsStripped step start marks) (sym is) (record {
      bounded = bounded_more step old u within marked stuck before.bounded;
      no_more = omega (arith, less, before.no_more);
    })
IsStripped-by step start old new u false within same is marked stuck before = subst (λ (marks : List Bool). IsStripped step start marks) (sym same) before
