-- How far moves were taken back.
use Rattle.std.proofs.lemmas.Grind.{common_steps}
use Rattle.std.proofs.Common.{◌≡◌, ℕ, ◌+◌, List, [], ◌∷◌, ◌++◌, length, take, refl, ap, arith, length-append}
use Rattle.link_trail.specs.Lists.{LinkedLists}

-- some of the moves of the first value were taken back to the second
pub record IsUndone (initial now : LinkedLists) : Type 0 where
  pub nodes : now.nodes ≡ initial.nodes
  pub rest : List (List (List ℕ))
  pub stages : initial.trail ++ initial.lists ∷ [] ≡ now.trail ++ now.lists ∷ rest
  pub spare : now.spare + length now.trail ≡ initial.spare + length initial.trail

stages-before : {A : Type 0} (trail front : List A) (last x : A) (rest : List A) → trail ++ last ∷ [] ≡ front ++ x ∷ rest →
    take (length front) trail ≡ front
stages-before trail [] last x rest e = refl
stages-before [] (y ∷ front) last x rest e =
    absurd (let k = ap length e in omega (arith, length-append front (x ∷ rest)))
stages-before (t ∷ trail) (y ∷ front) last x rest e =
    let k : trail ++ last ∷ [] ≡ front ++ x ∷ rest = cc in
    let h : t ≡ y = cc in
    let ih = stages-before trail front last x rest k in cc

pub undone-trail : (initial now : LinkedLists) (mark : ℕ) → IsUndone initial now → length now.trail ≡ mark →
    now.trail ≡ take mark initial.trail
undone-trail initial now mark u e = grind (arith, common_steps, stages-before)
