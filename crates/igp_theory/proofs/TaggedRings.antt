-- A ring of steps has tags.
use Rattle.std.proofs.Common.{◌≡◌, ℕ, ◌⊎◌, inl, inr, List, [], ◌∷◌, refl, ap, subst}
use Rattle.order_core.specs.Turns.{routers_of}
use Rattle.order_core.specs.declared.turn.Tag.{Tag}
use Rattle.order_core.specs.declared.turn.Tag.TheVariants as tag
use Rattle.order_core.specs.declared.turn.Turn.{Turn}
use Rattle.igp_theory.specs.Forwarding.{Steps}
use Rattle.igp_theory.specs.LoopLaws.{IsFromStart}
use Rattle.igp_theory.specs.Loops.{IsTagOf, IsTag, EachToNext, AroundRing}
use Rattle.igp_theory.specs.Migrations.{Migration}
use Rattle.igp_theory.specs.Phases.{State}
use Rattle.igp_theory.specs.States.{StepsIn}
use Rattle.igp_theory.specs.declared.phase.Phase.{Phase}
use Rattle.igp_theory.specs.declared.phase.Phase.TheVariants.{New}
use Rattle.igp_theory.proofs.LoopLaws.{start_or_new_step}
use Rattle.igp_theory.proofs.Tags.{IsTagTo, AreTagged}

-- a router that steps to h in some phase has a tag towards it, so what holds for no tag holds not
tag_towards : {move : Migration} {u a h : ℕ} {start : Phase} → Steps move u start a h ⊎ Steps move u New a h →
    ((t : Tag) → IsTagOf t (Steps move u start a h) (Steps move u New a h) → ⊥) → ⊥
tag_towards (inl one) none = none tag.Old (one, λ two. none tag.Both (one, two))
tag_towards (inr two) none = none tag.New ((λ one. none tag.Both (one, two)), two)

-- turns of some routers with their tags
record TaggedTurns (move : Migration) (a : ℕ) (first : Turn) (routers : List ℕ) : Type 0 where
  turns : List Turn
  same : routers_of turns ≡ routers
  tags : EachToNext (IsTagTo move a) first turns

one_more : {move : Migration} {a : ℕ} (first : Turn) (u v : ℕ) (rest : List ℕ) (t : Tag) →
    IsTagOf t (Steps move u (move.start u) a v) (Steps move u New a v) → TaggedTurns move a first (v ∷ rest) →
    TaggedTurns move a first (u ∷ v ∷ rest)
one_more {move} {a} first u v rest t is others = more others.turns others.same others.tags
  where
    more : (turns : List Turn) → routers_of turns ≡ v ∷ rest → EachToNext (IsTagTo move a) first turns →
        TaggedTurns move a first (u ∷ v ∷ rest)
    more [] same tags = cc
    more (s ∷ turns) same tags =
        let next : v ≡ s.router = cc in
        record {
          turns = record { router = u; tag = t } ∷ s ∷ turns;
          same = ap (λ (l : List ℕ). u ∷ l) same;
          tags = (record { steps = subst (λ (h : ℕ). IsTagOf t (Steps move u (move.start u) a h) (Steps move u New a h)) next is }, tags);
        }

-- it can't be that the routers have no tags
tagged_turns : (move : Migration) (state : State) (a : ℕ) (first : Turn) (routers : List ℕ) → IsFromStart move state →
    EachToNext (StepsIn move state a) first.router routers → (TaggedTurns move a first routers → ⊥) → ⊥
tagged_turns move state a first [] from goes none = none (record { turns = []; same = refl; tags = tt })
tagged_turns move state a first (u ∷ []) from goes none =
    tag_towards (start_or_new_step (move.start u) (state u) (from u goes.must.router) goes)
    (λ t is. none (record { turns = record { router = u; tag = t } ∷ []; same = refl; tags = record { steps = is } }))
tagged_turns move state a first (u ∷ v ∷ rest) from goes none =
    tag_towards (start_or_new_step (move.start u) (state u) (from u goes.0.must.router) goes.0)
    (λ t is. tagged_turns move state a first (v ∷ rest) from goes.1 (λ others. none (one_more first u v rest t is others)))

-- the first element of a ring may be told by its router alone
other_first : (move : Migration) (a : ℕ) (first other : Turn) (ring : List Turn) → first.router ≡ other.router →
    EachToNext (IsTagTo move a) first ring → EachToNext (IsTagTo move a) other ring
other_first move a first other [] same tags = tt
other_first move a first other (r ∷ []) same tags = subst (λ (h : ℕ). IsTag move a r h) same tags
other_first move a first other (r ∷ s ∷ rest) same tags = (tags.0, other_first move a first other (s ∷ rest) same tags.1)

-- a ring of turns with their tags, of these routers
pub record TaggedRing (move : Migration) (a : ℕ) (routers : List ℕ) : Type 0 where
  pub ring : List Turn
  pub same : routers_of ring ≡ routers
  pub tags : AreTagged move a ring

close_ring : {move : Migration} {a : ℕ} (u : ℕ) (rest : List ℕ) →
    TaggedTurns move a (record { router = u; tag = tag.Both }) (u ∷ rest) →
    TaggedRing move a (u ∷ rest)
close_ring {move} {a} u rest turns = close turns.turns turns.same turns.tags
  where
    close : (ring : List Turn) → routers_of ring ≡ u ∷ rest → EachToNext (IsTagTo move a) (record { router = u; tag = tag.Both }) ring →
        TaggedRing move a (u ∷ rest)
    close [] same tags = cc
    close (t ∷ ring) same tags =
        let first : u ≡ t.router = cc in
        record { ring = t ∷ ring; same = same; tags = other_first move a (record { router = u; tag = tag.Both }) t (t ∷ ring) first tags }

pub tagged_ring : (move : Migration) (state : State) (a u : ℕ) (rest : List ℕ) → IsFromStart move state →
    AroundRing (StepsIn move state a) (u ∷ rest) → (TaggedRing move a (u ∷ rest) → ⊥) → ⊥
tagged_ring move state a u rest from goes none =
    tagged_turns move state a (record { router = u; tag = tag.Both }) (u ∷ rest) from goes (λ turns. none (close_ring u rest turns))
