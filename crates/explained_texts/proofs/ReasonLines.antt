-- What the finder tells of a list with a router one wave earlier, and the line of it.
use Rattle.std.proofs.Common.{◌≡◌, ◌≢◌, ◌∙◌, ℕ, ◌+◌, ◌-◌, ◌^◌, ◌<◌, ◌≤◌, inl, inr, List, All, Contains, length, arith, ap, refl, subst, sym}
use Rattle.std.proofs.Common.{◌↔◌, ◌++◌, Bool, true, false, ◌==◌, ◌&&◌, eq-eqb, eqb-true, drop, get_or, take}
use Rattle.std.proofs.Common.{Option, None, Some, IfNone, IfSome, IsNone}
use Rattle.std.proofs.lemmas.Bool.{cases_lt, false≢true}
use Rattle.std.proofs.lemmas.List.{get_or-set_other, get_or-set_same, get_or_past, take-append-le, take_all}
use Rattle.std.proofs.lemmas.List.Elements.{All-contains, Contains-get_or}
use Rattle.order_core.specs.Rankings.{IsRanking, flat_of, rank_of}
use Rattle.order_core.specs.Turns.{is_old, old_routers}
use Rattle.order_core.specs.declared.turn.Tag.{Tag}
use Rattle.order_core.specs.declared.turn.Tag.TheVariants.{Old, New, Both}
use Rattle.order_core.specs.declared.turn.Turn.{Turn}
use Rattle.order_core.proofs.WaveLists.{count_le_length, rank_below_count}
use Rattle.igp_theory.specs.Loops.{Fault as WholeFault, IsLoop, loop, missing}
use Rattle.igp_theory.specs.Migrations.{Migration, started}
use Rattle.igp_theory.specs.Phases.{all_old, state_in}
use Rattle.igp_theory.specs.Timetables.{IsSoundThroughout, IsTimetable, Timetable, router_times}
use Rattle.igp_theory.specs.WaveFaults.{IsTimesFault}
use Rattle.igp_theory.proofs.FlatOrders.{flat_lists}
use Rattle.igp_theory.proofs.LoopLaws.{loop_inside, old_listed, old_turn}
use Rattle.igp_theory.proofs.Switches.{routers_have_times}
use Rattle.loop_finder.specs.Faults.{Finding, searched, told, told_fault}
use Rattle.loop_finder.specs.Mixes.{Listing}
use Rattle.loop_finder.specs.Times.{times_in}
use Rattle.loop_finder.specs.declared.fault.Fault.{Fault}
use Rattle.loop_finder.specs.declared.times.ChangeWaves.{ChangeWaves}
use Rattle.rib_mix.specs.Mixture.{migration_of}
use Rattle.explained_waves.specs.Reasons.{MayBeEarlier, one_earlier}
use Rattle.explained_waves.proofs.Reasons.{fault_reason}
use Rattle.explained_texts.specs.ReasonTexts.{KeepsLater}
use Rattle.explained_texts.specs.AskedLists.{AskedList}
use Rattle.explained_texts.specs.steps.Asking.{IsListAsked, is_old_of}

-- ---- the ranks of the list ----

module _ (ranks : List ℕ) (v : ℕ) where
  pub rank_there : v < length ranks → 0 < rank_of ranks v → rank_of (one_earlier ranks v) v + 1 ≡ rank_of ranks v
  rank_there within later =
      let set = get_or-set_same ranks v (rank_of ranks v - 1) 0 within in omega (arith, set, later)

  pub rank_else : (u : ℕ) → u ≢ v → rank_of (one_earlier ranks v) u ≡ rank_of ranks u
  rank_else u other = get_or-set_other ranks v u (rank_of ranks v - 1) 0 other

-- ---- what is searched ----

module _ {O N : Type 0} (old : Listing O) (new : Listing N) (list : AskedList O N) (finding : Finding O N) (room : ℕ)
    (asked : IsListAsked old new list finding room) (times : List ChangeWaves) (v : ℕ)
    (are : times_in times ≡ router_times all_old (one_earlier list.ranks v)) where
  abbrev move : Migration
  move = migration_of old new list.mixture

  same_search : searched old new finding ≡ move
  same_search = λ i. started (asked.start_is i) (migration_of old new (asked.mixture_is i))

  pub have_table : IsTimetable (length finding.mixture.net) (state_in finding.start) (times_in times)
  have_table =
      subst (IsTimetable (length finding.mixture.net) (state_in finding.start)) (sym are)
      (subst (λ start. IsTimetable (length finding.mixture.net) start (router_times all_old (one_earlier list.ranks v)))
      (sym asked.start_is) (routers_have_times (length finding.mixture.net) all_old (one_earlier list.ranks v)))

  pub free_earlier : IsSoundThroughout (searched old new finding) (times_in times) → MayBeEarlier move list.ranks v
  free_earlier sound =
      subst (IsSoundThroughout move) are (subst (λ (m : Migration). IsSoundThroughout m (times_in times)) same_search sound)

  pub kept_later : (w : ℕ) (fault : WholeFault) → IsTimesFault (searched old new finding) (times_in times) w fault →
      KeepsLater move list.ranks v fault
  kept_later w fault is =
      let there : IsTimesFault move (router_times all_old (one_earlier list.ranks v)) w fault =
      subst (λ (time : Timetable). IsTimesFault move time w fault) are
      (subst (λ (m : Migration). IsTimesFault m (times_in times) w fault) same_search is) in
      let why = fault_reason move list.ranks v asked.sound w fault there in
      record {
        told = subst (λ k. IsTimesFault move (router_times all_old (one_earlier list.ranks v)) k fault) why.0 there;
        reason = why.1;
      }

  -- what the finder answers: none, or the fault with the number of its wave
  pub free_told : (found : Option (ℕ × Fault)) → (IsNone found ↔ IsSoundThroughout (searched old new finding) (times_in times)) →
      IfNone (told found) (MayBeEarlier move list.ranks v)
  free_told None is = free_earlier (is.0 refl)
  free_told (Some found) is = tt

  pub kept_told : (found : Option (ℕ × Fault)) (ring : List Turn) →
      IfSome found (λ f. IsTimesFault (searched old new finding) (times_in times) f.0 (told_fault f.1 ring)) →
      IfSome (told found) (λ fault. KeepsLater move list.ranks v (told_fault fault ring))
  kept_told None ring is = tt
  kept_told (Some found) ring is = kept_later found.0 (told_fault found.1 ring) is

-- a list whose elements are written anew is the new one
pub written : {A : Type 0} (n : ℕ) (new old : List A) → length new ≡ n → take n (new ++ drop (length new) old) ≡ new
written n new old many = let within : n ≤ length new = omega (arith, many) in rw take-append-le (take_all n new (omega (arith, many)))

-- ---- the ring of a reason ----

module _ (move : Migration) (ranks : List ℕ) (v : ℕ) where
  pub never_missing : (a u : ℕ) → ¬ KeepsLater move ranks v (missing a u)
  never_missing a u keeps = Prim.cc keeps.reason.is

  module _ (a : ℕ) (ring : List Turn) (keeps : KeepsLater move ranks v (loop a ring)) where
    ring_is : keeps.reason.ring ≡ ring
    ring_is = let is = keeps.reason.is in cc

    address_is : keeps.reason.address ≡ a
    address_is = let is = keeps.reason.is in cc

    pub some_before : (u : ℕ) × Contains (old_routers ring) u × (rank_of ranks u + 1 ≡ rank_of ranks v)
    some_before = (
      keeps.reason.after,
      subst (λ (l : List Turn). Contains (old_routers l) keeps.reason.after) ring_is keeps.reason.is_old,
      keeps.reason.just_before,
    )

    pub all_inside : All (λ (turn : Turn). turn.router < length move.net) ring
    all_inside = loop_inside move a ring
        (subst (λ (l : List Turn). IsLoop move a l) ring_is (subst (λ b. IsLoop move b keeps.reason.ring) address_is keeps.reason.is_loop))

-- ---- a router tagged Old ----

both_hold : (a b : Bool) → (a && b) ≡ true → (a ≡ true) × (b ≡ true)
both_hold true true is = (refl, refl)
both_hold true false is = absurd (false≢true is)
both_hold false b is = absurd (false≢true is)

tag_is_old : (t : Tag) → is_old t ≡ true → t ≡ Old
tag_is_old Old is = refl
tag_is_old New is = absurd (false≢true is)
tag_is_old Both is = absurd (false≢true is)

pub old_there : (ring : List Turn) (u k : ℕ) (d : Turn) → k < length ring → is_old_of u (get_or ring k d) ≡ true → Contains (old_routers ring) u
old_there ring u k d below is =
    let turn = get_or ring k d in
    let both = both_hold (turn.router == u) (is_old turn.tag) is in
    subst (Contains (old_routers ring)) (eqb-true turn.router u both.0)
    (old_listed ring turn (Contains-get_or ring k d below) (tag_is_old turn.tag both.1))

pub none_old : (ring : List Turn) (u k : ℕ) → length ring ≤ k → All (λ (t : Turn). is_old_of u t ≡ false) (take k ring) →
    ¬ Contains (old_routers ring) u
none_old ring u k whole none there =
    let one = old_turn ring u there in
    let all : All (λ (t : Turn). is_old_of u t ≡ false) ring = subst (All (λ (t : Turn). is_old_of u t ≡ false)) (take_all k ring whole) none in
    let is : is_old_of u one.turn ≡ false = All-contains (λ (t : Turn). is_old_of u t ≡ false) ring one.turn all one.among in
    false≢true (sym is ∙ ap (λ (t : Tag). (one.turn.router == u) && is_old t) one.tagged
    ∙ ap (λ (v : ℕ). (v == u) && true) one.router ∙ ap (λ (b : Bool). b && true) (eq-eqb u u refl))

-- ---- the ranks of a wave list ----

module _ (n : ℕ) (ranks : List ℕ) (short : length ranks < 2 ^ 32) (ranking : IsRanking n ranks) where
  pub few_ranks : (u : ℕ) → rank_of ranks u + 1 < 2 ^ 32
  few_ranks u = elim (cases_lt u (length ranks)) [
    | inl within ↦
        let below = rank_below_count ranks (rank_of ranks u) (Contains-get_or ranks u 0 within) in
        let few = count_le_length n ranks ranking in
        omega (arith, below, few, short)
    | inr past ↦
        let none : rank_of ranks u ≡ 0 = get_or_past ranks u 0 past in
        omega (arith, none)
  ]

  pub flat_inside : (k d : ℕ) → k < length (flat_of ranks) → get_or (flat_of ranks) k d < length ranks
  flat_inside k d within =
      let each = ranking.each in
      let below = ((flat_lists n ranks ranking).all (get_or (flat_of ranks) k d)).0 (Contains-get_or (flat_of ranks) k d within) in
      omega (arith, each, below)

-- it is one of those of the ring
pub old_inside : (ring : List Turn) (n : ℕ) → All (λ (t : Turn). t.router < n) ring → (u : ℕ) → Contains (old_routers ring) u → u < n
old_inside ring n inside u there =
    let one = old_turn ring u there in
    subst (λ v. v < n) one.router (All-contains (λ (t : Turn). t.router < n) ring one.turn inside one.among)
