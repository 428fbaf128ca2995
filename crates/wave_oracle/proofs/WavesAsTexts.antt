-- The waves that a search finds: their chain has one router of each, and each two neighbors of it are tagged in one loop.
use Rattle.std.proofs.Common.{◌≡◌, ℕ, suc, ◌<◌, ap, inl, inr, List, [], ◌∷◌, ◌++◌, length, get_or, All, Contains, arith}
use Rattle.std.proofs.Common.{subst, sym, ◌∙◌}
use Rattle.std.proofs.lemmas.Bool.{cases_lt}
use Rattle.std.proofs.lemmas.List.Elements.{All-contains, Contains-push_cases}
use Rattle.order_core.specs.Pairs.{Pair, AreBelow}
use Rattle.order_core.specs.Rankings.{wave_count, wave_of}
use Rattle.order_core.specs.declared.turn.Turn.{Turn}
use Rattle.order_core.proofs.WaveLists.{wave_routers}
use Rattle.igp_theory.specs.Migrations.{Migration}
use Rattle.order_search.specs.Answers.{FoundWaves, AreFoundWaves}
use Rattle.order_search.specs.Meanings.{Meaning}
use Rattle.order_search.specs.Places.{IsFoundNode, LeadsToRanking}
use Rattle.net_model.proofs.Members.{Contains-map}
use Rattle.igp_theory.specs.Changes.{first, second}
use Rattle.igp_theory.specs.Timetables.{change_number}
use Rattle.order_core.specs.Rankings.{numbers_below}
use Rattle.plan_theory.specs.WavesMeaning.{changes_meaning, waves_meaning}
use Rattle.order_search.specs.Trees.{Place, Real}
use Rattle.order_search.specs.declared.tree.Node.{Node}
use Rattle.order_search.specs.declared.tree.Node.TheVariants.{Branch, Leaf, Unvisited}
use Rattle.order_search.specs.Layers.{IsChain}
use Rattle.step_scripts.specs.WavesTexts.{AreOneOfEach, waves_in}
use Rattle.step_scripts.proofs.TextFacts.{wave_there, waves_long}
use Rattle.step_scripts.proofs.Zips.{zip_from}
use Rattle.wave_oracle.specs.Chains.{AreTaggedInLoop, IsChangeChain, IsTaggedChain, MustPrecede, of_one_router, of_loop}
use Rattle.wave_oracle.proofs.TreeNodes.{Fill-each}

-- One router of each wave

module _ (n : ℕ) (pairs : List Pair) (ranks chain : List ℕ) (long : length ranks ≡ n) (below : AreBelow n pairs) (is : IsChain pairs ranks chain) where
  -- each router of a chain stands in its wave
  in_wave : (k : ℕ) → k < length chain → Contains (wave_of ranks k) (get_or chain k 0)
  in_wave k within = elim (cases_lt (suc k) (length chain)) [
    | inl more ↦
        let back = (is.back k more).holds in
        let router : get_or chain k 0 < n =
        (All-contains (λ (p : Pair). (p.0 < n) × (p.1 < n)) pairs (get_or chain k 0, get_or chain (suc k) 0) below back.before).0 in
        (wave_routers ranks k (get_or chain k 0)).1 (omega (arith, router, long), back.there)
    | inr end ↦
        let last = (is.last k (omega (arith, end, within))).holds in
        (wave_routers ranks k (get_or chain k 0)).1 (last.within, last.there)
  ]

  -- so it has one router of each wave
  pub chain_one_of_each : AreOneOfEach ranks chain
  chain_one_of_each =
      zip_from (λ (wave : List ℕ) (u : ℕ). Contains wave u) (waves_in ranks) chain [] 0 (waves_long ranks ∙ sym is.one_each)
      (λ k within. let lower : k < wave_count ranks = omega (arith, within, waves_long ranks) in
      subst (λ (wave : List ℕ). Contains wave (get_or chain k 0)) (sym (wave_there ranks k lower)) (in_wave k (omega (arith, lower, is.one_each))))

-- Branches of a trail

-- a branch is real
abbrev IsRealBranch : Real → Node → Type 0
IsRealBranch real (Branch address turns) = real address turns
IsRealBranch real (Leaf cycle) = Unit {0}
IsRealBranch real Unvisited = Unit {0}

real_branch : (m : Meaning) (place : Place) (node : Node) → IsFoundNode m place node → IsRealBranch m.real node
real_branch m place (Branch address turns) is = is.is_node.0
real_branch m place (Leaf cycle) is = tt
real_branch m place Unvisited is = tt

-- nothing is asked of places
abbrev IsPlace : Place → Type 0
IsPlace place = Unit {0}

-- the branches of a trail are real
trail_branch : (m : Meaning) (place : Place) (ranks : List ℕ) (trail : List Node) (address : ℕ) (turns : List Turn) →
    LeadsToRanking m place ranks trail → Contains trail (Branch address turns) → m.real address turns
trail_branch m place ranks trail address turns leads has =
    let all : All (IsRealBranch m.real) leads.before = Fill-each (IsFoundNode m) IsPlace (IsRealBranch m.real)
    (λ place node fine is. (real_branch m place node is, λ k d within. tt)) (m.base ∷ []) (place ∷ leads.later) leads.before leads.stands.fills
    (λ k d within. tt) in
    let among : Contains (leads.before ++ Unvisited ∷ []) (Branch address turns) =
    subst (λ (nodes : List Node). Contains nodes (Branch address turns)) leads.ends has in
    elim (Contains-push_cases leads.before Unvisited (Branch address turns) among) [
      | inl old ↦ All-contains (IsRealBranch m.real) leads.before (Branch address turns) all old
      | inr same ↦ cc
    ]

-- What is found

module _ (m : Meaning) (budget : ℕ) (found : FoundWaves) (are : AreFoundWaves m budget found) where
  pub found_one_of_each : AreOneOfEach found.ranks found.chain
  found_one_of_each =
      let layered = are.leads.layered in
      chain_one_of_each m.size found.pairs found.ranks found.chain layered.layers.whole layered.below are.chained

  pub found_each : length found.ranks ≡ m.size
  found_each = are.leads.layered.layers.whole

-- of routers a pair that is assumed is tagged in a loop of the trail
module _ (move : Migration) (budget : ℕ) (found : FoundWaves) (are : AreFoundWaves (waves_meaning move) budget found) where
  pair_tagged : (pair : Pair) → Contains found.pairs pair → AreTaggedInLoop move pair.0 pair.1
  pair_tagged pair has = elim (are.turned pair has) [
    | inl base ↦ absurd (omega (arith, base.1))
    | inr turned ↦ record {
      address = turned.address;
      ring = turned.turns;
      is_loop = trail_branch (waves_meaning move) found.pairs found.ranks found.trail turned.address turned.turns are.leads turned.branch;
      is_old = turned.old;
      is_new = turned.new;
    }
  ]

  pub found_tagged : IsTaggedChain move found.chain
  found_tagged k within = pair_tagged (get_or found.chain k 0, get_or found.chain (suc k) 0) (are.neighbors k within)

-- and of changes it is, or it is that of one router's changes
module _ (move : Migration) (budget : ℕ) (found : FoundWaves) (are : AreFoundWaves (changes_meaning move) budget found) where
  pair_precedes : (pair : Pair) → Contains found.pairs pair → MustPrecede move pair.0 pair.1
  pair_precedes pair has = elim (are.turned pair has) [
    | inl base ↦
        let its = Contains-map {A = Pair} (λ (u : ℕ). (change_number (first u), change_number (second u))) (numbers_below (length move.net)) pair base in
        of_one_router its.item (ap (λ (p : Pair). p.0) (sym its.gives)) (ap (λ (p : Pair). p.1) (sym its.gives))
    | inr turned ↦ of_loop (record {
      address = turned.address;
      turns = turned.turns;
      is_loop = trail_branch (changes_meaning move) found.pairs found.ranks found.trail turned.address turned.turns are.leads turned.branch;
      is_old = turned.old;
      is_new = turned.new;
    })
  ]

  pub found_precedes : IsChangeChain move found.chain
  found_precedes k within = pair_precedes (get_or found.chain k 0, get_or found.chain (suc k) 0) (are.neighbors k within)
