-- The tags of a ring are determined by its routers.
use Rattle.std.proofs.Common.{arith}
use Rattle.std.proofs.lemmas.Grind.{common_steps}
use Rattle.std.proofs.Common.{◌≡◌, ℕ, ◌↔◌, List, [], ◌∷◌, refl, sym, subst}
use Rattle.order_core.specs.Turns.{routers_of}
use Rattle.order_core.specs.declared.turn.Tag.{Tag}
use Rattle.order_core.specs.declared.turn.Turn.{Turn}
use Rattle.igp_theory.specs.Forwarding.{Steps}
use Rattle.igp_theory.specs.Loops.{IsTagOf, IsTag, EachToNext, AroundRing}
use Rattle.igp_theory.specs.Migrations.{Migration}
use Rattle.igp_theory.specs.declared.phase.Phase.TheVariants as phase

-- two phases have one tag
same_tag : (s t : Tag) (old new : Type 0) → IsTagOf s old new → IsTagOf t old new → s ≡ t
same_tag s t old new one other = grind (arith, common_steps)

-- phases that do the same have the same tag
pub tags_over : (t : Tag) {old new old' new' : Type 0} → old ↔ old' → new ↔ new' → IsTagOf t old new → IsTagOf t old' new'
tags_over t first second is = grind (arith, common_steps)

-- a router has one tag towards the next
same_turn : {move : Migration} {a : ℕ} (r s : Turn) (next other : ℕ) → r.router ≡ s.router → next ≡ other →
    IsTag move a r next → IsTag move a s other → r ≡ s
same_turn {move} {a} r s next other router follows one two =
    let here = subst (λ (h : ℕ). IsTagOf s.tag (Steps move s.router (move.start s.router) a h) (Steps move s.router phase.New a h))
    (sym follows) two.steps in
    let tags = subst (λ (u : ℕ). IsTagOf s.tag (Steps move u (move.start u) a next) (Steps move u phase.New a next)) (sym router) here in
    let tag : r.tag ≡ s.tag = same_tag r.tag s.tag _ _ one.steps tags in
    λ i. record { router = router i; tag = tag i }

-- each router of a ring has its tag towards the next
abbrev pub IsTagTo : Migration → ℕ → Turn → Turn → Type 0
IsTagTo move a r s = IsTag move a r s.router

abbrev pub AreTagged : Migration → ℕ → List Turn → Type 0
AreTagged move a ring = AroundRing (IsTagTo move a) ring

same_turns : (move : Migration) (a : ℕ) (first second : Turn) (ring other : List Turn) →
    first.router ≡ second.router → routers_of ring ≡ routers_of other →
    EachToNext (IsTagTo move a) first ring → EachToNext (IsTagTo move a) second other → ring ≡ other
same_turns move a first second [] [] begins routers one two = refl
same_turns move a first second [] (s ∷ other) begins routers one two = cc
same_turns move a first second (r ∷ ring) [] begins routers one two = cc
same_turns move a first second (r ∷ []) (s ∷ []) begins routers one two =
    let router : r.router ≡ s.router = cc in
    let same : r ≡ s = same_turn r s first.router second.router router begins one two in
    cc
same_turns move a first second (r ∷ []) (s ∷ t ∷ other) begins routers one two = cc
same_turns move a first second (r ∷ q ∷ ring) (s ∷ []) begins routers one two = cc
same_turns move a first second (r ∷ q ∷ ring) (s ∷ t ∷ other) begins routers one two =
    let router : r.router ≡ s.router = cc in
    let next : q.router ≡ t.router = cc in
    let others : routers_of (q ∷ ring) ≡ routers_of (t ∷ other) = cc in
    let same : r ≡ s = same_turn r s q.router t.router router next one.0 two.0 in
    let rest : q ∷ ring ≡ t ∷ other = same_turns move a first second (q ∷ ring) (t ∷ other) begins others one.1 two.1 in
    cc

-- rings of the same routers have the same tags
pub same_tagged : (move : Migration) (a : ℕ) (ring other : List Turn) → routers_of ring ≡ routers_of other →
    AreTagged move a ring → AreTagged move a other → ring ≡ other
same_tagged move a [] [] routers one two = refl
same_tagged move a [] (s ∷ other) routers one two = cc
same_tagged move a (r ∷ ring) [] routers one two = cc
same_tagged move a (r ∷ ring) (s ∷ other) routers one two =
    let begins : r.router ≡ s.router = cc in
    same_turns move a r s (r ∷ ring) (s ∷ other) begins routers one two
