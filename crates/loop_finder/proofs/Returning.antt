-- Lists of steps that return, and the routers that they pass.
use Rattle.std.proofs.Common.{◌≡◌, ℕ, ◌<◌, List, [], ◌∷◌, ◌++◌, length, ◌⊎◌, inl, inr, refl, sym, subst}
use Rattle.std.proofs.lemmas.Bool.Decides.{eqb_tells}
use Rattle.igp_theory.specs.Forwarding.{MustForward, Steps, HasStep}
use Rattle.igp_theory.specs.Migrations.{Migration}
use Rattle.igp_theory.specs.Phases.{State}
use Rattle.igp_theory.specs.States.{StepsIn, Follows, IsSoundAt}
use Rattle.igp_theory.specs.declared.phase.Phase.{Phase}
use Rattle.igp_theory.proofs.SameTables.{follows_over}
use Rattle.loop_finder.specs.Returns.{NeverReturnsTo}
use Rattle.loop_finder.proofs.LiveLaws.{follows_append}

-- Steps that can be returned from

-- in a list of steps that returns each step can be returned from
pub returning : (step ever kept : ℕ → ℕ → Type 0) → ((x y : ℕ) → step x y → ever x y) →
    ((x y : ℕ) (hops : List ℕ) → step x y → Follows ever y hops x → kept x y)
    → (u x : ℕ) (front rest : List ℕ) → Follows step u front x → Follows step x rest u → Follows kept x rest u
returning step ever kept over keeps u x front [] into out = out
returning step ever kept over keeps u x front (y ∷ rest) into out = (
  keeps x y (rest ++ front) out.0 (follows_append ever y rest u front x (follows_over over y rest u out.1) (follows_over over u front x into)),
  returning step ever kept over keeps u y (front ++ y ∷ []) rest (follows_append step u front x (y ∷ []) y into (out.0, refl)) out.1,
)

-- a list of steps that isn't empty
pub record Returns (step : ℕ → ℕ → Type 0) (u : ℕ) : Type 0 where
  pub first : ℕ
  pub rest : List ℕ
  pub follows : Follows step u (first ∷ rest) u

-- where a step leads from u to h, and steps lead back, steps return to h too
pub follows_on : (step : ℕ → ℕ → Type 0) (u h : ℕ) (hops : List ℕ) → step u h → Follows step h hops u → Returns step h
follows_on step u h [] steps back = record { first = h; rest = []; follows = (subst (λ (x : ℕ). step x h) (sym back) steps, refl) }
follows_on step u h (x ∷ hops) steps back =
    record { first = x; rest = hops ++ h ∷ []; follows = (back.0, follows_append step x hops u (h ∷ []) h back.1 (steps, refl)) }

-- One router

-- a list of steps from v to w passes u
record Passes (step : ℕ → ℕ → Type 0) (u v w : ℕ) : Type 0 where
  pub front : List ℕ
  pub next : ℕ
  pub back : List ℕ
  pub into : Follows step v front u
  pub out : Follows step u (next ∷ back) w

-- a list of steps passes a router, or it is one of another relation that has the steps of the other routers
passes_or_not : (step other : ℕ → ℕ → Type 0) (u : ℕ) → ((x h : ℕ) → (¬ (x ≡ u)) → step x h → other x h) →
    (v : ℕ) (hops : List ℕ) (w : ℕ) → Follows step v hops w → Passes step u v w ⊎ Follows other v hops w
passes_or_not step other u over v [] w follows = inr follows
passes_or_not step other u over v (h ∷ hops) w follows = elim (eqb_tells v u) [
  | inl same ↦ inl (record { front = []; next = h; back = hops; into = same.1; out = (subst (λ (x : ℕ). step x h) same.1 follows.0, follows.1) })
  | inr apart ↦ elim (passes_or_not step other u over h hops w follows.1) [
    | inl passes ↦ inl (record { front = h ∷ passes.front; next = passes.next; back = passes.back; into = (follows.0, passes.into); out = passes.out })
    | inr rest ↦ inr (over v h apart.1 follows.0, rest)
  ]
]

-- a state stays sound for an address where one router changes, each router has a step afterwards, and no list of steps
-- returns to the router that changed
pub stays_sound : (move : Migration) (a u : ℕ) (before after : State) → ((v : ℕ) → v < length move.net → (¬ (v ≡ u)) → after v ≡ before v)
    → NeverReturnsTo (StepsIn move after a) u → ((v : ℕ) → MustForward move.net a v → HasStep move v (after v) a) → IsSoundAt move before a →
    IsSoundAt move after a
stays_sound move a u before after differ never moves sound = record {
  forwards = moves;
  returns_never = λ v h hops follows. elim (passes_or_not (StepsIn move after a) (StepsIn move before a) u as_before v (h ∷ hops) v follows) [
    | inl passes ↦ never passes.next (passes.back ++ passes.front) (follows_append (StepsIn move after a) u (passes.next ∷ passes.back) v passes.front u
        passes.out passes.into)
    | inr rest ↦ sound.returns_never v h hops rest
  ];
}
  where
    as_before : (x h : ℕ) → (¬ (x ≡ u)) → StepsIn move after a x h → StepsIn move before a x h
    as_before x h apart steps = subst (λ (phase : Phase). Steps move x phase a h) (differ x steps.must.router apart) steps
