-- Routers that are reached one after another.
use Rattle.std.proofs.lemmas.Grind.{common_steps}
use Rattle.std.proofs.Common.{◌≡◌, ℕ, suc, ◌+◌, ◌<◌, ◌≤◌, Bool, true, false, List, [], ◌∷◌, ◌++◌, length, get_or, set, Contains, inl, inr, arith, refl}
use Rattle.std.proofs.Common.{sym, ◌∙◌, subst}
use Rattle.std.proofs.lemmas.Bool.Decides.{eqb_tells}
use Rattle.std.proofs.lemmas.List.{get_or-set_other, length-set, length_push, append_assoc, get_or_default}
use Rattle.std.proofs.lemmas.List.Elements.{All-nil, All-push, Contains-append_left, Contains-push}
use Rattle.std.proofs.lemmas.List.Sums.{sum_by-set, count_by-le-length}
use Rattle.igp_theory.specs.States.{Follows}
use Rattle.order_core.specs.Marks.{IsMarked, marked_count}
use Rattle.loop_finder.specs.Returns.{NeverReturnsTo}
use Rattle.loop_finder.specs.steps.Returns.{AreReached, ReachesMore}

-- where no router is marked, none is counted
none_counted : (marks : List Bool) → ((r : ℕ) → ¬ IsMarked marks r) → marked_count marks ≡ 0
none_counted [] bare = refl
none_counted (true ∷ marks) bare = absurd (bare 0 refl)
none_counted (false ∷ marks) bare = let rest : marked_count marks ≡ 0 = none_counted marks (λ r. bare (suc r)) in omega (arith, rest)

-- at first none is reached
pub AreReached-none : (goal : ℕ) (marks : List Bool) (reached : List ℕ) → ((r : ℕ) → ¬ IsMarked marks r) → reached ≡ [] → AreReached goal marks reached
AreReached-none goal marks reached bare none = grind (arith, common_steps, All-nil, none_counted)

-- one more mark
one_more : (marks : List Bool) (r : ℕ) → r < length marks → get_or marks r false ≡ false → marked_count (set marks r true) ≡ marked_count marks + 1
one_more marks r within bare = grind (arith, common_steps, sum_by-set)

-- fewer routers are reached than there are
pub reached_short : (marks : List Bool) (reached : List ℕ) (r : ℕ) → length reached ≡ marked_count marks → r < length marks →
    get_or marks r false ≡ false → length reached < length marks
reached_short marks reached r count within bare =
    omega (arith, count, one_more marks r within bare, count_by-le-length (λ (b : Bool). b) (set marks r true), length-set marks r true)

-- a router that isn't the goal is reached
pub AreReached-more : (goal : ℕ) (marks : List Bool) (reached : List ℕ) (r : ℕ) → AreReached goal marks reached → r < length marks →
    get_or marks r false ≡ false → (¬ (r ≡ goal)) → AreReached goal (set marks r true) (reached ++ r ∷ [])
AreReached-more goal marks reached r are within bare apart = record {
  listed = λ u marked. elim (eqb_tells u r) [
    | inl same ↦ subst (λ (x : ℕ). Contains (reached ++ r ∷ []) x) (sym same.1) (Contains-push reached r)
    | inr other ↦ Contains-append_left reached (r ∷ []) u (are.listed u (sym (get_or-set_other marks r u true false other.1) ∙ marked))
  ];
  within = All-push (λ u. u < length (set marks r true)) reached r
      (λ k d inside. let less : get_or reached k d < length marks = are.within k d inside in omega (arith, less, length-set marks r true))
      (omega (arith, within, length-set marks r true));
  count = omega (arith, are.count, one_more marks r within bare, length_push reached r);
  apart = λ marked. are.apart (sym (get_or-set_other marks r goal true false (λ same. apart (sym same))) ∙ marked);
}

-- first some are reached, then others
pub ReachesMore-then : (marks marks' marks'' : List Bool) (reached reached' reached'' : List ℕ) → ReachesMore marks reached marks' reached' →
    ReachesMore marks' reached' marks'' reached'' → ReachesMore marks reached marks'' reached''
ReachesMore-then marks marks' marks'' reached reached' reached'' one two = grind (arith, common_steps, append_assoc)

-- where a list of steps ends at a router of so many, it begins at one
begins_inside : (step : ℕ → ℕ → Type 0) (n goal : ℕ) → goal < n → ((u h : ℕ) → step u h → u < n) → (u : ℕ) (hops : List ℕ) → Follows step u hops goal → u < n
begins_inside step n goal within inside u [] same = omega (arith, within, same)
begins_inside step n goal within inside u (h ∷ hops) follows = inside u h follows.0

-- from a marked router only marked routers are reached, where each marked router steps to marked ones
stays_marked : (step : ℕ → ℕ → Type 0) (n goal : ℕ) (marks : List Bool) → goal < n → ((u h : ℕ) → step u h → u < n) →
    ((u h : ℕ) → IsMarked marks u → step u h → h < n → IsMarked marks h)
    → (u : ℕ) (hops : List ℕ) → IsMarked marks u → Follows step u hops goal → IsMarked marks goal
stays_marked step n goal marks within inside closed u [] marked same = subst (λ (x : ℕ). IsMarked marks x) same marked
stays_marked step n goal marks within inside closed u (h ∷ hops) marked follows =
    stays_marked step n goal marks within inside closed h hops (closed u h marked follows.0 (begins_inside step n goal within inside h hops follows.1))
    follows.1

-- where the hops of the goal and of all routers reached are marked, no list of steps returns to the goal
pub never_returns : (step : ℕ → ℕ → Type 0) (n goal : ℕ) (marks : List Bool) (reached : List ℕ) (place : ℕ) → goal < n → length marks ≡ n →
    ((u h : ℕ) → step u h → u < n) → AreReached goal marks reached → length reached ≤ place → ((h : ℕ) → step goal h → h < length marks → IsMarked marks h)
    → ((k : ℕ) → k < place → (h : ℕ) → step (get_or reached k 0) h → h < length marks → IsMarked marks h) → NeverReturnsTo step goal
never_returns step n goal marks reached place within many inside are whole first spread h hops follows =
    are.apart (stays_marked step n goal marks within inside closed h hops
    (first h follows.0 (omega (arith, many, begins_inside step n goal within inside h hops follows.1))) follows.1)
  where
    closed : (u v : ℕ) → IsMarked marks u → step u v → v < n → IsMarked marks v
    closed u v marked steps below =
        let among : Contains reached u = are.listed u marked in
        let is : get_or reached among.0 0 ≡ u = get_or_default reached among.0 0 u among.1 ∙ among.2 in
        spread among.0 (omega (arith, among.1, whole)) v (subst (λ (x : ℕ). step x v) (sym is) steps) (omega (arith, below, many))

-- no non-empty list of steps leads from router u to the goal
abbrev pub NeverLeadsTo : (ℕ → ℕ → Type 0) → ℕ → ℕ → Type 0
NeverLeadsTo step u goal = (h : ℕ) (hops : List ℕ) → Follows step u (h ∷ hops) goal → ⊥

-- none leads from a router that steps to one alone, which isn't the goal, where none leads from that
pub never_over : (step : ℕ → ℕ → Type 0) (goal u hop : ℕ) → ((h : ℕ) → step u h → hop ≡ h) → ¬ (hop ≡ goal) → NeverLeadsTo step hop goal →
    NeverLeadsTo step u goal
never_over step goal u hop only apart never h [] follows = apart (only h follows.0 ∙ follows.1)
never_over step goal u hop only apart never h (next ∷ hops) follows =
    never next hops (subst (λ (x : ℕ). Follows step x (next ∷ hops) goal) (sym (only h follows.0)) follows.1)

-- a list of fewer than two has its first one alone
pub only_first : (xs : List ℕ) (h : ℕ) → length xs < 2 → Contains xs h → get_or xs 0 0 ≡ h
only_first xs h few among = grind (arith, common_steps, get_or_default)
