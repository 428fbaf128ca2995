-- The flat order of a wave list, and its run.
use Rattle.std.proofs.lemmas.Grind.{common_steps}
use Rattle.std.proofs.Common.{◌≡◌, ◌≢◌, ℕ, ◌+◌, ◌*◌, ◌<◌, ◌≤◌, ◌↔◌, inl, inr, if◌then◌else◌, Bool, true, false, List, [], ◌∷◌, length, map, take}
use Rattle.std.proofs.Common.{Contains, arith, refl, sym, ap, ◌∙◌, subst, zero-add}
use Rattle.std.specs.List.{AllPairs, flat_map}
use Rattle.std.proofs.lemmas.Bool.{false≢true}
use Rattle.std.proofs.lemmas.List.{take-map}
use Rattle.std.proofs.lemmas.List.Elements.{Contains-append_left, Contains-append_right, Contains-append_cases}
use Rattle.order_core.specs.Orders.{IsOrder}
use Rattle.order_core.specs.Rankings.{IsRanking, rank_of, wave_count, flat_of, ComesBefore}
use Rattle.order_core.proofs.WaveLists.{flat_is_order, waves_by_rank}
use Rattle.igp_theory.specs.Changes.{Change, first, second, changed}
use Rattle.igp_theory.specs.LoopLaws.{BeginsOld}
use Rattle.igp_theory.specs.Migrations.{Migration}
use Rattle.igp_theory.specs.Phases.{State, all_old}
use Rattle.igp_theory.specs.States.{IsSeamless, changes_of, changes_on, phase_after, state_of}
use Rattle.igp_theory.specs.Timetables.{MayPrecede, IsRun, is_made, left_in, router_times, run_from, state_after}
use Rattle.igp_theory.specs.Waves.{AreSeamlessWaves, run_along}
use Rattle.igp_theory.specs.declared.phase.Phase.{Phase}
use Rattle.igp_theory.specs.declared.phase.Phase.TheVariants.{Old, Middle, New}
use Rattle.net_model.proofs.Members.{Contains-none, Contains-first, Contains-rest, Contains-cases}
use Rattle.igp_theory.proofs.OrderedLists.{contains_one, pairs_none, pairs_more, pairs_first, pairs_rest, pairs_append, pairs_weaker}
use Rattle.igp_theory.proofs.SortedChanges.{precede_apart, first_precedes}
use Rattle.igp_theory.proofs.Switches.{routers_have_times}

-- Changes router by router

-- a list of changes for each router, all of them made on it
abbrev AreOwn : (ℕ → List Change) → Type 0
AreOwn f = (u : ℕ) (c : Change) → Contains (f u) c → changed c ≡ u

own_inside : (f : ℕ → List Change) (order : List ℕ) (c : Change) → AreOwn f → Contains (flat_map f order) c → Contains order (changed c)
own_inside f [] c own inside = absurd (Contains-none c inside)
own_inside f (u ∷ order) c own inside = elim (Contains-append_cases (f u) (flat_map f order) c inside) [
  | inl here ↦ subst (λ (v : ℕ). Contains (u ∷ order) v) (sym (own u c here)) (Contains-first u order)
  | inr there ↦ Contains-rest u order (changed c) (own_inside f order c own there)
]

own_part : (f : ℕ → List Change) (order : List ℕ) (c : Change) → AreOwn f → Contains (flat_map f order) c → Contains (f (changed c)) c
own_part f [] c own inside = absurd (Contains-none c inside)
own_part f (u ∷ order) c own inside = elim (Contains-append_cases (f u) (flat_map f order) c inside) [
  | inl here ↦ subst (λ (v : ℕ). Contains (f v) c) (sym (own u c here)) here
  | inr there ↦ own_part f order c own there
]

inside_whole : (f : ℕ → List Change) (order : List ℕ) (u : ℕ) (c : Change) → Contains order u → Contains (f u) c →
    Contains (flat_map f order) c
inside_whole f [] u c router inside = absurd (Contains-none u router)
inside_whole f (v ∷ order) u c router inside = elim (Contains-cases v order u router) [
  | inl same ↦ Contains-append_left (f v) (flat_map f order) c (subst (λ (w : ℕ). Contains (f w) c) (sym same) inside)
  | inr there ↦ Contains-append_right (f v) (flat_map f order) c (inside_whole f order u c there inside)
]

-- routers in the order of their waves, each once
pub record InWaveOrder (ranks : List ℕ) (u v : ℕ) : Type 0 where
  pub apart : u ≢ v
  pub wave : rank_of ranks u ≤ rank_of ranks v

-- What is left of a router

left_own : (phase : Phase) (u : ℕ) (c : Change) → Contains (left_in phase u) c → changed c ≡ u
left_own phase u c inside = grind (arith, common_steps, Contains-cases, Contains-none, contains_one)

left_or_made : (phase : Phase) (c : Change) → Contains (left_in phase (changed c)) c ↔ (is_made phase c ≡ false)
left_or_made Old (first u) = (λ inside. refl, λ left. Contains-first (first u) (second u ∷ []))
left_or_made Old (second u) = (λ inside. refl, λ left. Contains-rest (first u) (second u ∷ []) (second u) (Contains-first (second u) []))
left_or_made Middle (first u) =
    (λ inside. absurd (let clash : second u ≡ first u = contains_one (second u) (first u) inside in cc), λ left. absurd (false≢true (sym left)))
left_or_made Middle (second u) = (λ inside. refl, λ left. Contains-first (second u) [])
left_or_made New c = (λ inside. absurd (Contains-none c inside), λ left. absurd (false≢true (sym left)))

-- The run from a start along an order of waves

module _ (n : ℕ) (start : State) (ranks order : List ℕ) (lists : IsOrder n order) (turns : AllPairs (InWaveOrder ranks) order) where
  abbrev left_of : ℕ → List Change
  left_of u = left_in (start u) u

  abbrev wave_time : Change → Bool → ℕ
  wave_time c made = if made then 0 else rank_of ranks (changed c) + 1

  all_own : AreOwn left_of
  all_own u c inside = left_own (start u) u c inside

  pub left_time : (c : Change) → is_made (start (changed c)) c ≡ false → router_times start ranks c ≡ rank_of ranks (changed c) + 1
  left_time c left = ap (wave_time c) left

  pub left_where : (c : Change) → (b : Bool) → is_made (start (changed c)) c ≡ b → 0 < router_times start ranks c → is_made (start (changed c)) c ≡ false
  left_where c false is some = is
  left_where c true is some = let none = ap (wave_time c) is in absurd (omega (arith, some, none))

  own_left : (c : Change) → Contains (run_from start order) c → is_made (start (changed c)) c ≡ false
  own_left c inside = (left_or_made (start (changed c)) c).0 (own_part left_of order c all_own inside)

  second_alone : (u : ℕ) → AllPairs (MayPrecede (router_times start ranks)) (second u ∷ [])
  second_alone u = pairs_more (MayPrecede (router_times start ranks)) (second u) [] (λ d none. absurd (Contains-none d none))
      (pairs_none (MayPrecede (router_times start ranks)))

  one_in_turn : (u : ℕ) (phase : Phase) → AllPairs (MayPrecede (router_times start ranks)) (left_in phase u)
  one_in_turn u Old = pairs_more (MayPrecede (router_times start ranks)) (first u) (second u ∷ [])
      (λ d inside. subst (MayPrecede (router_times start ranks) (first u)) (contains_one (second u) d inside)
      (first_precedes (router_times start ranks) u ((routers_have_times n start ranks).in_order u)))
      (second_alone u)
  one_in_turn u Middle = second_alone u
  one_in_turn u New = pairs_none (MayPrecede (router_times start ranks))

  in_turn_along : (rest : List ℕ) → AllPairs (InWaveOrder ranks) rest → AllPairs (MayPrecede (router_times start ranks)) (flat_map left_of rest)
  in_turn_along [] turns = pairs_none (MayPrecede (router_times start ranks))
  in_turn_along (u ∷ rest) turns =
      pairs_append (MayPrecede (router_times start ranks)) (left_of u) (flat_map left_of rest) (one_in_turn u (start u))
      (in_turn_along rest (pairs_rest (InWaveOrder ranks) u rest turns))
      (λ c d here there.
      let own : changed c ≡ u = all_own u c here in
      let turn = pairs_first (InWaveOrder ranks) u rest turns (changed d) (own_inside left_of rest d all_own there) in
      let before : rank_of ranks u ≤ rank_of ranks (changed d) = turn.wave in
      let place : rank_of ranks (changed c) ≡ rank_of ranks u = ap (rank_of ranks) own in
      let one = left_time c ((left_or_made (start (changed c)) c).0 (subst (λ v. Contains (left_of v) c) (sym own) here)) in
      let two = left_time d ((left_or_made (start (changed d)) d).0 (own_part left_of rest d all_own there)) in
      precede_apart (router_times start ranks) c d (λ same. turn.apart (sym own ∙ same)) (omega (arith, before, place, one, two)))

  pub along_is_run : IsRun n (router_times start ranks) (run_from start order)
  along_is_run = record {
    all = λ c. (
      λ inside. (
        (lists.all (changed c)).0 (own_inside left_of order c all_own inside),
        let time = left_time c (own_left c inside) in omega (arith, time),
      ),
      λ left. inside_whole left_of order (changed c) c ((lists.all (changed c)).1 left.0)
          ((left_or_made (start (changed c)) c).1 (left_where c (is_made (start (changed c)) c) refl left.1)),
    );
    in_turn = in_turn_along order turns;
  }

changed_along : (order : List ℕ) → map changed (run_along order) ≡ changes_of order
changed_along [] = refl
changed_along (u ∷ order) = ap (λ (l : List ℕ). u ∷ u ∷ l) (changed_along order)

-- the states along an order are its states
pub states_along : (order : List ℕ) (k u : ℕ) → state_after all_old (take k (run_along order)) u ≡ state_of order k u
states_along order k u =
    ap phase_after (zero-add (changes_on u (map changed (take k (run_along order)))))
    ∙ ap (λ (l : List ℕ). phase_after (changes_on u l)) (sym (take-map changed k (run_along order)) ∙ ap (take k) (changed_along order))

pub run_length : (order : List ℕ) → length (run_along order) ≡ 2 * length order
run_length [] = omega arith
run_length (u ∷ order) = let rest = run_length order in omega (arith, rest)

-- where every router begins in Old the runs from the start and their states are those of orders
pub run_from_old : (start : State) (order : List ℕ) → ((u : ℕ) → start u ≡ Old) → run_from start order ≡ run_along order
run_from_old start order begins = ap (λ (state : State). run_from state order) (λ i u. begins u i)

pub states_from : (start : State) (order : List ℕ) (k u : ℕ) → ((u : ℕ) → start u ≡ Old) →
    state_after start (take k (run_from start order)) u ≡ state_of order k u
states_from start order k u begins =
    ap (λ (state : State). state_after state (take k (run_from state order)) u) (λ i v. begins v i) ∙ states_along order k u

-- The flat order

-- it lists each router once
pub flat_lists : (n : ℕ) (ranks : List ℕ) → IsRanking n ranks → IsOrder n (flat_of ranks)
flat_lists n ranks waves = subst (λ (m : ℕ). IsOrder m (flat_of ranks)) waves.each (flat_is_order ranks)

pub flat_in_turn : (ranks : List ℕ) → AllPairs (InWaveOrder ranks) (flat_of ranks)
flat_in_turn ranks =
    pairs_weaker (ComesBefore ranks) (InWaveOrder ranks) (λ u v before. in_turn u v before) (flat_of ranks) (waves_by_rank ranks (wave_count ranks))
  where
    in_turn : (u v : ℕ) → ComesBefore ranks u v → InWaveOrder ranks u v
    in_turn u v (inl earlier) = record {
      apart = λ same. let e : rank_of ranks u ≡ rank_of ranks v = ap (rank_of ranks) same in omega (arith, earlier, e);
      wave = omega (arith, earlier);
    }
    in_turn u v (inr (same, lower)) = record { apart = λ one. omega (arith, lower, one); wave = omega (arith, same) }

pub flat_is_run : (n : ℕ) (start : State) (ranks : List ℕ) → IsRanking n ranks → IsRun n (router_times start ranks) (run_from start (flat_of ranks))
flat_is_run n start ranks waves = along_is_run n start ranks (flat_of ranks) (flat_lists n ranks waves) (flat_in_turn ranks)

-- where every router begins in Old a seamless wave list, written wave by wave, is a seamless order
pub flat_is_seamless : (move : Migration) (ranks : List ℕ) → BeginsOld move → AreSeamlessWaves move ranks → IsSeamless move (flat_of ranks)
flat_is_seamless move ranks begins seamless = record {
  lists = flat_lists (length move.net) ranks seamless.waves;
  sound = λ k within. seamless.throughout.sound (state_of (flat_of ranks) k) (record {
    run = run_from move.start (flat_of ranks);
    is_run = flat_is_run (length move.net) move.start ranks seamless.waves;
    k = k;
    after = λ u below. sym (states_from move.start (flat_of ranks) k u begins);
  });
}
