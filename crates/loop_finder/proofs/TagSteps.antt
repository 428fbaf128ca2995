-- The turns of a ring, one after another.
use Rattle.std.proofs.lemmas.Grind.{common_steps}
use Rattle.std.proofs.Common.{◌≡◌, ℕ, suc, ◌+◌, ◌<◌, ◌≤◌, ◌⊎◌, inl, inr, List, [], ◌∷◌, ◌++◌, length, get_or, take, arith, sym, ap, ◌∙◌, subst}
use Rattle.std.proofs.lemmas.List.{take_more, take_all, map_push, get_or_default, get_or_past}
use Rattle.igp_theory.specs.Loops.{EachToNext, AroundRing}
use Rattle.igp_theory.specs.declared.phase.Phase.TheVariants.{Old, New}
use Rattle.igp_theory.proofs.LoopLaws.{old_or_new_step}
use Rattle.order_core.specs.Turns.{routers_of}
use Rattle.order_core.specs.declared.turn.Tag.TheVariants as tag
use Rattle.order_core.specs.declared.turn.Turn.{Turn}
use Rattle.loop_finder.specs.steps.Rings.{next_in}
use Rattle.igp_theory.specs.Phases.{state_in}
use Rattle.loop_finder.specs.steps.ClassSteps.{ClassState, StepsBy, ClassStep, IsTagged}
use Rattle.loop_finder.proofs.RingLaws.{each_at, each_to_next_push}

-- a step of one of the states is a step of Old or of New
pub old_or_new : (c : ClassState) (u h : ℕ) → ClassStep c u h → StepsBy c u Old h ⊎ StepsBy c u New h
old_or_new c u h (inl steps) = old_or_new_step (state_in c.first u) steps
old_or_new c u h (inr steps) = old_or_new_step (state_in c.last u) steps

-- only a router of the network steps
pub steps_inside : (c : ClassState) (u h : ℕ) → ClassStep c u h → u < length c.mixture.net
steps_inside c u h it_3 = grind (arith, common_steps)

-- a router that doesn't step in Old steps in New alone
pub tagged_new : (c : ClassState) (u h : ℕ) → (StepsBy c u Old h → ⊥) → StepsBy c u Old h ⊎ StepsBy c u New h
    → IsTagged c (record { router = u; tag = tag.New }) h
tagged_new c u h never some = record { steps = (never, elim some [ inl steps ↦ absurd (never steps) | inr steps ↦ steps ]) }

-- each router of a ring steps to the one after it
pub ring_step : (step : ℕ → ℕ → Type 0) (routers : List ℕ) (place : ℕ) → AroundRing step routers → place < length routers →
    step (get_or routers place 0) (next_in routers place)
ring_step step [] place around within = absurd (omega (arith, within))
ring_step step (r ∷ rest) place around within =
    let e : suc place ≡ place + 1 = omega arith in
    subst (λ (n : ℕ). step (get_or (r ∷ rest) place 0) (get_or (r ∷ rest) n r)) e (each_at step r 0 (r ∷ rest) place around within)

-- each turn has the tag by which it steps to the next one
abbrev pub TagsNext : ClassState → Turn → Turn → Type 0
TagsNext c r s = IsTagged c r s.router

-- a router of a ring that is told by its number alone
abbrev pub numbered : ℕ → Turn
numbered n = record { router = n; tag = tag.Both }

-- the router at a place, the first one after the last
abbrev pub here_in : List ℕ → ℕ → ℕ
here_in routers place = get_or routers place (get_or routers 0 0)

-- the first turns of a ring
pub record IsPartRing (c : ClassState) (routers : List ℕ) (turns : List Turn) (place : ℕ) : Type 0 where
  pub routers_are : routers_of turns ≡ take place routers
  pub tags : EachToNext (TagsNext c) (numbered (here_in routers place)) turns

-- what is next to the last turn is told by its number
next_by_number : (c : ClassState) (f k : Turn) (xs : List Turn) → f.router ≡ k.router → EachToNext (TagsNext c) f xs → EachToNext (TagsNext c) k xs
next_by_number c f k [] same goes = tt
next_by_number c f k (x ∷ []) same goes = subst (λ (n : ℕ). IsTagged c x n) same goes
next_by_number c f k (x ∷ y ∷ rest) same goes = (goes.0, next_by_number c f k (y ∷ rest) same goes.1)

pub IsPartRing-more : (c : ClassState) (routers : List ℕ) (turns : List Turn) (place : ℕ) (turn : Turn) → place < length routers
    → turn.router ≡ get_or routers place 0 → IsTagged c turn (next_in routers place) → IsPartRing c routers turns place →
    IsPartRing c routers (turns ++ turn ∷ []) (place + 1)
IsPartRing-more c routers turns place turn within router tagged part = record {
  routers_are = map_push (λ (r : Turn). r.router) turns turn
      ∙ ap (λ (xs : List ℕ). xs ++ turn.router ∷ []) part.routers_are ∙ ap (λ (n : ℕ). take place routers ++ n ∷ []) router
      ∙ sym (take_more routers place 0 within);
  tags = each_to_next_push (TagsNext c) (numbered (here_in routers (place + 1))) turn turns
      (next_by_number c (numbered (here_in routers place)) turn turns (get_or_default routers place (get_or routers 0 0) 0 within
      ∙ sym router) part.tags) tagged;
}

-- all turns of a ring
pub ring_whole : (c : ClassState) (routers : List ℕ) (turns : List Turn) (place : ℕ) → length routers ≤ place → IsPartRing c routers turns place
    → (routers_of turns ≡ routers) × AroundRing (TagsNext c) turns
ring_whole c routers turns place whole part = (same, around turns same part.tags)
  where
    same : routers_of turns ≡ routers
    same = part.routers_are ∙ take_all place routers whole

    around : (ring : List Turn) → routers_of ring ≡ routers → EachToNext (TagsNext c) (numbered (here_in routers place)) ring → AroundRing (TagsNext c) ring
    around [] is tags = tt
    around (r ∷ rest) is tags =
        let first : get_or (routers_of (r ∷ rest)) 0 0 ≡ get_or routers 0 0 = ap (λ (xs : List ℕ). get_or xs 0 0) is in
        next_by_number c (numbered (here_in routers place)) r (r ∷ rest) (get_or_past routers place (get_or routers 0 0) whole ∙ sym first) tags
