-- The numbers of a router, where routers are ranked and where single changes are.
use Rattle.std.proofs.Common.{◌≡◌, ℕ, ◌+◌, ◌*◌, ◌/◌, ◌<◌, [], ◌∷◌, ◌++◌, map, refl, ap, ◌∙◌, sym}
use Rattle.std.proofs.lemmas.List.{map-append}
use Rattle.order_core.specs.Pairs.{Pair}
use Rattle.order_core.specs.Rankings.{numbers_below}
use Rattle.order_core.proofs.WaveLists.{numbers_more}
use Rattle.igp_theory.specs.Timetables.{change_number}
use Rattle.order_core.specs.declared.turn.Tag.{Tag}
use Rattle.order_core.specs.declared.turn.Turn.{Turn}
use Rattle.igp_theory.specs.Changes.{first, second}
use Rattle.igp_theory.specs.Migrations.{Migration}
use Rattle.igp_theory.specs.TimetableLaws.{MiddleStepsAs, at_first, at_second}
use Rattle.igp_theory.specs.declared.phase.Phase.TheVariants.{Old, New}
use Rattle.plan_theory.specs.Ranked.{change_base, ranked, size_of}
use Rattle.plan_theory.specs.declared.items.Items.{Items}
use Rattle.plan_theory.specs.declared.items.Items.TheVariants.{Routers, Changes}
use Rattle.plan_theory.specs.Numbers.{turn_of}

-- Routers

pub router_names : (items : Items) → items ≡ Routers → (move : Migration) (a : ℕ) (t : Turn) → (ranked items move).names a t
router_names Routers is move a t = tt
router_names Changes is move a t = cc

pub router_ring : (items : Items) → items ≡ Routers → (move : Migration) (u : ℕ) (tag : Tag) →
    (ranked items move).ring (turn_of u tag ∷ []) ≡ turn_of u tag ∷ []
router_ring Routers is move u tag = refl
router_ring Changes is move u tag = cc

pub router_below : (items : Items) → items ≡ Routers → (n u : ℕ) → u < n → u < size_of items n
router_below Routers is n u below = below
router_below Changes is n u below = cc

-- Changes

pub first_names : (items : Items) → items ≡ Changes → (move : Migration) (a u k : ℕ) (tag : Tag) → k ≡ u + u → MiddleStepsAs move u a New →
    (ranked items move).names a (turn_of k tag)
first_names Routers is move a u k tag number as_new = cc
first_names Changes is move a u k tag number as_new = record { change = first u; named = number; switch = at_first as_new }

pub second_names : (items : Items) → items ≡ Changes → (move : Migration) (a u k : ℕ) (tag : Tag) → k ≡ u + u + 1 → MiddleStepsAs move u a Old →
    (MiddleStepsAs move u a New → ⊥) → (ranked items move).names a (turn_of k tag)
second_names Routers is move a u k tag number as_old not_new = cc
second_names Changes is move a u k tag number as_old not_new = record { change = second u; named = number; switch = at_second as_old not_new }

pub change_ring : (items : Items) → items ≡ Changes → (move : Migration) (u k : ℕ) (tag : Tag) → k / 2 ≡ u →
    (ranked items move).ring (turn_of k tag ∷ []) ≡ turn_of u tag ∷ []
change_ring Routers is move u k tag half = cc
change_ring Changes is move u k tag half = ap (λ (v : ℕ). turn_of v tag ∷ []) half

pub change_below : (items : Items) → items ≡ Changes → (n k : ℕ) → k < 2 * n → k < size_of items n
change_below Routers is n k below = cc
change_below Changes is n k below = below

-- The base

-- one router's changes more
pub base_more : (n : ℕ) → change_base n ++ (change_number (first n), change_number (second n)) ∷ [] ≡ change_base (n + 1)
base_more n =
    let pair : ℕ → Pair = λ u. (change_number (first u), change_number (second u)) in
    sym (ap (map pair) (numbers_more n) ∙ map-append pair (numbers_below n) (n ∷ []))
