-- The waves of the rest that a search finds: a router that is New at the start is in no pair, so it stands in the first wave, beside
-- another one where not all are New; and no chain of two or more has it.
use Rattle.std.proofs.lemmas.Grind.{common_steps}
use Rattle.std.proofs.Common.{◌≡◌, ◌≢◌, ◌⊎◌, inl, inr, ◌<◌, ◌≤◌, ◌∷◌, ◌++◌, true, ℕ, suc, zero, List, [], All, Contains, IsTrue, length, get_or, arith, ap, refl, subst, sym, ◌∙◌}
use Rattle.std.proofs.lemmas.Bool.{cases_lt}
use Rattle.std.proofs.lemmas.List.{get_or_default}
use Rattle.std.proofs.lemmas.List.Elements.{All-contains, Contains-push_cases}
use Rattle.igp_theory.specs.Forwarding.{Steps}
use Rattle.igp_theory.specs.Loops.{IsLoop}
use Rattle.igp_theory.specs.Migrations.{Migration, started}
use Rattle.igp_theory.specs.Phases.{state_in}
use Rattle.igp_theory.specs.declared.phase.Phase.{Phase}
use Rattle.igp_theory.specs.declared.phase.Phase.TheVariants.{Old, New}
use Rattle.igp_theory.proofs.LoopLaws.{new_turn, old_turn}
use Rattle.igp_theory.proofs.Rings.{around_at}
use Rattle.live_replan.specs.RestLaws.{AreRestWaves, KeepsChain, LeadWithNew}
use Rattle.live_replan.specs.RestTexts.{has_rest, is_left}
use Rattle.live_replan.proofs.RestFacts.{rest_waves}
use Rattle.order_core.specs.Pairs.{Pair}
use Rattle.order_core.specs.Rankings.{IsRanking, rank_of}
use Rattle.order_core.specs.Turns.{new_routers, old_routers}
use Rattle.order_core.specs.declared.turn.Tag.{Tag}
use Rattle.order_core.specs.declared.turn.Tag.TheVariants as tag
use Rattle.order_core.specs.declared.turn.Turn.{Turn}
use Rattle.igp_theory.specs.Loops.{IsTag, IsTagOf}
use Rattle.order_search.specs.Answers.{AreFoundWaves, FoundWaves}
use Rattle.order_search.specs.Meanings.{Meaning}
use Rattle.order_search.specs.Places.{IsFoundNode, LeadsToRanking}
use Rattle.order_search.specs.Trees.{Place}
use Rattle.order_search.specs.declared.tree.Node.{Node}
use Rattle.order_search.specs.declared.tree.Node.TheVariants.{Branch, Leaf, Unvisited}
use Rattle.plan_theory.specs.WavesMeaning.{waves_meaning}
use Rattle.wave_oracle.proofs.TreeNodes.{Fill-each}
use Rattle.wave_oracle.proofs.WavesAsTexts.{found_one_of_each}

-- ---- branches of the trail are loops ----

abbrev IsLoopBranch : Migration → Node → Type 0
IsLoopBranch move (Branch address turns) = IsLoop move address turns
IsLoopBranch move (Leaf cycle) = Unit {0}
IsLoopBranch move Unvisited = Unit {0}

loop_branch : (move : Migration) (place : Place) (node : Node) → IsFoundNode (waves_meaning move) place node → IsLoopBranch move node
loop_branch move place node is = grind (arith, common_steps)

abbrev IsAnyPlace : Place → Type 0
IsAnyPlace place = Unit {0}

trail_loop : (move : Migration) (place : Place) (ranks : List ℕ) (trail : List Node) (address : ℕ) (turns : List Turn) →
    LeadsToRanking (waves_meaning move) place ranks trail → Contains trail (Branch address turns) → IsLoop move address turns
trail_loop move place ranks trail address turns leads has =
    let m : Meaning = waves_meaning move in
    let all : All (IsLoopBranch move) leads.before = Fill-each (IsFoundNode m) IsAnyPlace (IsLoopBranch move)
    (λ at node fine is. (loop_branch move at node is, λ k d within. tt)) (m.base ∷ []) (place ∷ leads.later) leads.before leads.stands.fills
    (λ k d within. tt) in
    let among : Contains (leads.before ++ Unvisited ∷ []) (Branch address turns) =
    subst (λ (nodes : List Node). Contains nodes (Branch address turns)) leads.ends has in
    elim (Contains-push_cases leads.before Unvisited (Branch address turns) among) [
      | inl old ↦ All-contains (IsLoopBranch move) leads.before (Branch address turns) all old
      | inr same ↦ cc
    ]

-- ---- a router that is New at the start is tagged Both ----

-- a router in whose phase of the start packets take the steps of New isn't tagged otherwise
same_not_old : {A B : Type 0} (g : Tag) → g ≡ tag.Old → (A → B) → IsTagOf g A B → ⊥
same_not_old g is both steps = grind (arith, common_steps)

same_not_new : {A B : Type 0} (g : Tag) → g ≡ tag.New → (B → A) → IsTagOf g A B → ⊥
same_not_new g is both steps = grind (arith, common_steps)

module _ (move : Migration) (a : ℕ) (ring : List Turn) (loops : IsLoop move a ring) where
  old_not_new : (u : ℕ) → Contains (old_routers ring) u → move.start u ≢ New
  old_not_new u among new =
      let turn = old_turn ring u among in
      let step = around_at (λ (r s : Turn). IsTag move a r s.router) ring turn.turn loops.tags turn.among in
      same_not_old turn.turn.tag turn.tagged
      (λ steps. subst (λ (phase : Phase). Steps move turn.turn.router phase a step.0.router)
      (ap move.start turn.router ∙ new) steps) step.1.steps

  new_not_new : (u : ℕ) → Contains (new_routers ring) u → move.start u ≢ New
  new_not_new u among new =
      let turn = new_turn ring u among in
      let step = around_at (λ (r s : Turn). IsTag move a r s.router) ring turn.turn loops.tags turn.among in
      same_not_new turn.turn.tag turn.tagged
      (λ steps. subst (λ (phase : Phase). Steps move turn.turn.router phase a step.0.router)
      (sym (ap move.start turn.router ∙ new)) steps) step.1.steps

-- ---- what is found ----

left_or_new : (phase : Phase) → (phase ≢ New) → is_left phase ≡ true
left_or_new phase not = grind (arith, common_steps)

module _ (move : Migration) (start : List Phase) (each : length start ≡ length move.net) (budget : ℕ) (found : FoundWaves)
    (are : AreFoundWaves (waves_meaning (started (state_in start) move)) budget found) where
  abbrev from : Migration
  from = started (state_in start) move

  abbrev ranks : List ℕ
  ranks = found.ranks

  -- neither router of a pair is New at the start
  pair_first : (p : Pair) → Contains found.pairs p → state_in start p.0 ≢ New
  pair_first p has = elim (are.turned p has) [
    | inl base ↦ absurd (omega (arith, base.1))
    | inr turned ↦ old_not_new from turned.address turned.turns
        (trail_loop from found.pairs ranks found.trail turned.address turned.turns are.leads turned.branch) p.0 turned.old
  ]

  pair_second : (p : Pair) → Contains found.pairs p → state_in start p.1 ≢ New
  pair_second p has = elim (are.turned p has) [
    | inl base ↦ absurd (omega (arith, base.1))
    | inr turned ↦ new_not_new from turned.address turned.turns
        (trail_loop from found.pairs ranks found.trail turned.address turned.turns are.leads turned.branch) p.1 turned.new
  ]

  long : length ranks ≡ length move.net
  long = are.leads.layered.layers.whole

  -- of a router of the network the phase is in the list
  at_start : (u : ℕ) → u < length ranks → get_or start u New ≡ state_in start u
  at_start u below = get_or_default start u New Old (omega (arith, below, long, each))

  has_left : (u : ℕ) → u < length ranks → state_in start u ≢ New → has_rest start u ≡ true
  has_left u below not = ap is_left (at_start u below) ∙ left_or_new (state_in start u) not

  pair_below : (u v : ℕ) → Contains found.pairs (u, v) → u < length ranks
  pair_below u v has =
      let both = All-contains (λ (p : Pair). (p.0 < length move.net) × (p.1 < length move.net)) found.pairs (u, v) are.leads.layered.below has in
      let first = both.0 in
      omega (arith, first, long)

  new_first : (u : ℕ) → u < length ranks → get_or start u New ≡ New → rank_of ranks u ≡ 0
  new_first u below new = elim (are.leads.layered.layers.each u (omega (arith, below, long))) [
    | inl none ↦ none.0
    | inr high ↦ absurd (pair_second (high.0, u) high.1.before (sym (at_start u below) ∙ new))
  ]

  -- from a router with something left to do one goes back to such a router of the first wave
  beside_by : (n u : ℕ) → rank_of ranks u ≡ n → u < length ranks → IsTrue (has_rest start u) →
      (v : ℕ) × (v < length ranks) × IsTrue (has_rest start v) × (rank_of ranks v ≡ 0)
  beside_by zero u rank below left = (u, below, left, rank)
  beside_by (suc n) u rank below left = elim (are.leads.layered.layers.each u (omega (arith, below, long))) [
    | inl none ↦ absurd (let first = none.0 in omega (arith, first, rank))
    | inr high ↦
        let q : ℕ = high.0 in
        let within : q < length ranks = pair_below q u high.1.before in
        let one = high.2 in
        beside_by n q (omega (arith, one, rank)) within (has_left q within (pair_first (q, u) high.1.before))
  ]

  lead : LeadWithNew start ranks
  lead = record { first = new_first; beside = λ u below left. beside_by (rank_of ranks u) u refl below left }

  -- each router of a chain of two or more is in a pair
  keeps : KeepsChain start found.chain
  keeps many k d within = subst (λ (u : ℕ). IsTrue (has_rest start u)) (get_or_default found.chain k 0 d within)
      (by_place (cases_lt (suc k) (length found.chain)))
    where
      at_last : (j : ℕ) → j < length found.chain → length found.chain ≤ suc j → IsTrue (has_rest start (get_or found.chain j 0))
      at_last zero inside last = absurd (omega (arith, many, last))
      at_last (suc j) inside last =
          let pair = are.neighbors j inside in
          let both = All-contains (λ (p : Pair). (p.0 < length move.net) × (p.1 < length move.net)) found.pairs
          (get_or found.chain j 0, get_or found.chain (suc j) 0) are.leads.layered.below pair in
          let second = both.1 in
          has_left (get_or found.chain (suc j) 0) (omega (arith, second, long)) (pair_second (get_or found.chain j 0, get_or found.chain (suc j) 0) pair)

      by_place : (suc k < length found.chain) ⊎ (length found.chain ≤ suc k) → IsTrue (has_rest start (get_or found.chain k 0))
      by_place (inl more) =
          let pair = are.neighbors k more in
          let below = pair_below (get_or found.chain k 0) (get_or found.chain (suc k) 0) pair in
          has_left (get_or found.chain k 0) below (pair_first (get_or found.chain k 0, get_or found.chain (suc k) 0) pair)
      by_place (inr last) = at_last k within last

  -- so what is printed are the waves of the routers with something left to do
  pub found_rest_waves : (u : ℕ) → u < length move.net → IsTrue (has_rest start u) → AreRestWaves start ranks found.chain
  found_rest_waves u below left =
      rest_waves start ranks (subst (λ (n : ℕ). IsRanking n ranks) (sym long) are.is_good.waves) lead u (omega (arith, below, long)) left found.chain
      (found_one_of_each (waves_meaning from) budget found are) keeps
