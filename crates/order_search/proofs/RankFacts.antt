-- What a layered list tells of the pairs that lead from one router to another, and of turns that break it.
use Rattle.std.proofs.lemmas.Grind.{common_steps}
use Rattle.std.proofs.Common.{◌≢◌, ℕ, suc, ◌<◌, ◌≤◌, inl, inr, List, [], ◌∷◌, arith, subst, sym, ap}
use Rattle.std.specs.List.{All, AllPairs, Contains, filter}
use Rattle.std.proofs.lemmas.List.Elements.{All-map, All-filter, All-contains}
use Rattle.order_core.specs.Pairs.{Pair, IsPath, Leads}
use Rattle.order_core.specs.Rankings.{KeepsPairs, rank_of}
use Rattle.order_core.specs.Turns.{old_routers, new_routers, child_pairs, is_old, is_new, RanksSomeOldFirst}
use Rattle.order_core.specs.declared.turn.Turn.{Turn}
use Rattle.order_core.specs.declared.turn.Tag.{Tag}
use Rattle.order_core.specs.declared.turn.Tag.TheVariants.{Old, New, Both}
use Rattle.precedence_set.proofs.LayerFacts.{layers_keep}
use Rattle.order_search.specs.Meanings.{Meaning, Break}
use Rattle.order_search.specs.Places.{IsLayered}
use Rattle.order_search.proofs.Turned.{All-grid, in_front}

-- where pairs are kept, ranks rise along a path
rank_along : (ranks : List ℕ) (pairs : List Pair) → KeepsPairs ranks pairs → (path : List ℕ) (x y : ℕ) → IsPath pairs x path y →
    rank_of ranks x ≤ rank_of ranks y
rank_along ranks pairs keeps [] x y onward = omega (arith, ap (rank_of ranks) onward)
rank_along ranks pairs keeps (w ∷ path) x y onward =
    omega (arith, keeps (x, w) onward.0, rank_along ranks pairs keeps path w y onward.1)

pub rank_rises : (ranks : List ℕ) (pairs : List Pair) → KeepsPairs ranks pairs → (x y : ℕ) → Leads pairs x y → rank_of ranks x < rank_of ranks y
rank_rises ranks pairs keeps x y leads =
    omega (arith, keeps (x, leads.next) leads.first, rank_along ranks pairs keeps leads.path leads.next y leads.onward)

-- what holds of the routers of all turns holds of the Old ones and of the New ones
pub All-old : (P : ℕ → Type 0) (turns : List Turn) → All (λ (t : Turn). P t.router) turns → All P (old_routers turns)
All-old P turns all = All-map P (λ (t : Turn). t.router) (filter (λ (t : Turn). is_old t.tag) turns)
    (All-filter (λ (t : Turn). is_old t.tag) (λ (t : Turn). P t.router) turns all)

pub All-new : (P : ℕ → Type 0) (turns : List Turn) → All (λ (t : Turn). P t.router) turns → All P (new_routers turns)
All-new P turns all = All-map P (λ (t : Turn). t.router) (filter (λ (t : Turn). is_new t.tag) turns)
    (All-filter (λ (t : Turn). is_new t.tag) (λ (t : Turn). P t.router) turns all)

-- one turn more in front: its router is no other turn's
one_more : (t : Turn) (turns : List Turn) → All (λ (s : Turn). t.router ≢ s.router) turns → (u : ℕ) →
    (Contains (old_routers turns) u → Contains (new_routers turns) u → ⊥) → (g : Tag) →
    Contains (old_routers (record { router = t.router; tag = g } ∷ turns)) u →
    Contains (new_routers (record { router = t.router; tag = g } ∷ turns)) u → ⊥
one_more t turns others u rest Old old new = elim (in_front t.router u (old_routers turns) old) [
  | inl same ↦ All-contains (λ (v : ℕ). t.router ≢ v) (new_routers turns) u (All-new (λ (v : ℕ). t.router ≢ v) turns others) new same
  | inr later ↦ rest later new
]
one_more t turns others u rest New old new = elim (in_front t.router u (new_routers turns) new) [
  | inl same ↦ All-contains (λ (v : ℕ). t.router ≢ v) (old_routers turns) u (All-old (λ (v : ℕ). t.router ≢ v) turns others) old same
  | inr later ↦ rest old later
]
one_more t turns others u rest Both old new = rest old new

-- no router has an Old turn and a New one
old_not_new : (turns : List Turn) → AllPairs (λ (s t : Turn). s.router ≢ t.router) turns → (u : ℕ) → Contains (old_routers turns) u →
    Contains (new_routers turns) u → ⊥
old_not_new [] apart u old new = omega (arith, old.1)
old_not_new (t ∷ turns) apart u old new =
    one_more t turns (λ k d in' same. apart 0 (suc k) d (omega arith) (omega (arith, in')) same) u
    (old_not_new turns (λ i j d lt in' same. apart (suc i) (suc j) d (omega (arith, lt)) (omega (arith, in')) same) u) t.tag old new

-- what a pair needs to be a child's
abbrev pub MayBeChild : ℕ → List Pair → Pair → Type 0
MayBeChild n pairs p = (p.0 < n) × (p.1 < n) × (p.0 ≢ p.1) × (¬ Leads pairs p.0 p.1)

-- each pair of a branch's children may be one: in the layered list that was asked its second router is in no later wave
pub kids_may : (m : Meaning) (pairs : List Pair) (ranks : List ℕ) (address : ℕ) (turns : List Turn) → IsLayered m.size pairs ranks →
    Break m ranks address turns → All (MayBeChild m.size pairs) (child_pairs turns)
kids_may m pairs ranks address turns layered told =
    let keeps = layers_keep m.size pairs ranks layered.below layered.layers in
    All-grid (MayBeChild m.size pairs) (old_routers turns) (new_routers turns) (λ u v has_u has_v. (
      All-contains (λ (x : ℕ). x < m.size) (old_routers turns) u (All-old (λ (x : ℕ). x < m.size) turns told.below) has_u,
      All-contains (λ (x : ℕ). x < m.size) (new_routers turns) v (All-new (λ (x : ℕ). x < m.size) turns told.below) has_v,
      (λ same. old_not_new turns told.distinct u has_u (subst (λ (x : ℕ). Contains (new_routers turns) x) (sym same) has_v)),
      (λ leads. omega (arith, rank_rises ranks pairs keeps u v leads, told.no_later u v has_u has_v)),
    ))

-- the ranking that was asked isn't good: no New turn's router is in a later wave than an Old turn's
pub not_good : (m : Meaning) (ranks : List ℕ) (address : ℕ) (turns : List Turn) → Break m ranks address turns →
    (m.good ranks → RanksSomeOldFirst ranks turns) → ¬ m.good ranks
not_good m ranks address turns told decides is_good = grind (arith, common_steps)
