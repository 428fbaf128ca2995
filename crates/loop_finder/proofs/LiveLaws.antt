-- Marked routers are the live ones, and where none is marked no list of steps returns.
use Rattle.std.proofs.lemmas.Grind.{common_steps}
use Rattle.std.proofs.Common.{◌≡◌, ℕ, zero, suc, ◌+◌, ◌<◌, ◌≤◌, Bool, List, [], ◌∷◌, ◌++◌, length, get_or, arith, refl, sym, ap, subst, inl, inr}
use Rattle.std.proofs.lemmas.Bool.{false≢true, cases_lt}
use Rattle.std.proofs.lemmas.List.{get_or_default, get_or_past, length-append}
use Rattle.igp_theory.specs.Loops.{IsLive}
use Rattle.igp_theory.specs.States.{Follows}
use Rattle.order_core.specs.Marks.{IsMarked, marked_count}
use Rattle.loop_finder.specs.steps.Live.{AreBounded}
use Rattle.loop_finder.specs.steps.Walks.{IsWalk, ReturnsNever}
use Rattle.loop_finder.proofs.LowestSteps.{marked_cases}
use Rattle.loop_finder.proofs.Peeling.{marked_count-set}

-- a marked router is one of those that there are marks for
pub marked_below : (marks : List Bool) (u : ℕ) → IsMarked marks u → u < length marks
marked_below marks u marked = grind (arith, common_steps, cases_lt, false≢true, get_or_past)

-- lists of steps, one after the other
pub follows_append : (step : ℕ → ℕ → Type 0) (u : ℕ) (xs : List ℕ) (v : ℕ) (ys : List ℕ) (w : ℕ) → Follows step u xs v → Follows step v ys w →
    Follows step u (xs ++ ys) w
follows_append step u [] v ys w one two = subst (λ (x : ℕ). Follows step x ys w) (sym one) two
follows_append step u (x ∷ xs) v ys w one two = (one.0, follows_append step x xs v ys w one.1 two)

-- a list of so many steps at least, from u back to u
record LongReturn (step : ℕ → ℕ → Type 0) (u k : ℕ) : Type 0 where
  pub hops : List ℕ
  pub follows : Follows step u hops u
  pub many : k ≤ length hops

-- a list of steps that returns can be gone again and again
long_return : (step : ℕ → ℕ → Type 0) (u h : ℕ) (hops : List ℕ) → Follows step u (h ∷ hops) u → (k : ℕ) → LongReturn step u k
long_return step u h hops returns zero = record { hops = []; follows = refl; many = omega arith }
long_return step u h hops returns (suc k) =
    let rest : LongReturn step u k = long_return step u h hops returns k in
    record {
      hops = (h ∷ hops) ++ rest.hops;
      follows = follows_append step u (h ∷ hops) u rest.hops u returns rest.follows;
      many = let e : length ((h ∷ hops) ++ rest.hops) ≡ length (h ∷ hops) + length rest.hops = length-append (h ∷ hops) rest.hops in
          omega (arith, e, rest.many);
    }

-- where no router is marked no list of steps returns
pub returns_never : (step : ℕ → ℕ → Type 0) (marks : List Bool) → AreBounded step marks → ((q : ℕ) → ¬ IsMarked marks q) → ReturnsNever step
returns_never step marks bounded bare u h hops returns =
    let long : LongReturn step u (suc (length marks)) = long_return step u h hops returns (suc (length marks)) in
    let few : length long.hops + marked_count marks ≤ length marks = bounded u long.hops u (bare u) long.follows in
    omega (arith, few, long.many)

-- where some router is marked each live one is
pub marked_from_live : (step : ℕ → ℕ → Type 0) (marks : List Bool) (s : ℕ) → AreBounded step marks → IsMarked marks s → (u : ℕ) →
    IsLive step (length marks) u → IsMarked marks u
marked_from_live step marks s bounded some u live = elim (marked_cases marks u) [
  | inl marked ↦ marked
  | inr bare ↦
      let few : length live.hops + marked_count marks ≤ length marks = bounded u live.hops live.last bare live.follows in
      absurd (omega (arith, few, live.many, marked_count-set marks s (marked_below marks s some) some))
]

-- what holds of each router of a path holds of the one after each, where a router of the path comes after the last one
pub next_on_path : (P : ℕ → Type 0) (path : List ℕ) (place k : ℕ) → place < length path → ((j : ℕ) → j < length path → P (get_or path j 0)) →
    P (get_or path (suc k) (get_or path place 0))
next_on_path P path place k within all = elim (cases_lt (suc k) (length path)) [
  | inl more ↦ rw (get_or_default path (suc k) (get_or path place 0) 0 more) (all (suc k) more)
  | inr past ↦ rw (get_or_past path (suc k) (get_or path place 0) past) (all place within)
]

-- from each router of a walk that returns lists of steps of any length lead on
pub live_on_walk : (step : ℕ → ℕ → Type 0) (marks : List Bool) (start : ℕ) (path : List ℕ) (place : ℕ) → IsWalk step marks start path place →
    (n k : ℕ) → k < length path → IsLive step n (get_or path k 0)
live_on_walk step marks start path place walk zero k within = record { hops = []; last = get_or path k 0; many = refl; follows = refl }
live_on_walk step marks start path place walk (suc n) k within =
    let rest : IsLive step n (get_or path (suc k) (get_or path place 0)) =
    next_on_path (λ (h : ℕ). IsLive step n h) path place k walk.within (λ j inside. live_on_walk step marks start path place walk n j inside) in
    record {
      hops = get_or path (suc k) (get_or path place 0) ∷ rest.hops;
      last = rest.last;
      many = ap suc rest.many;
      follows = ((walk.goes k within).steps, rest.follows);
    }
