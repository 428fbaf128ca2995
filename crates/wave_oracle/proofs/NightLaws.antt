-- What the finder of a night tells between sound ends, and what its oracle means.
use Rattle.std.proofs.Common.{◌≡◌, ◌≢◌, ℕ, ◌+◌, ◌*◌, ◌^◌, ◌<◌, ◌≤◌, inl, inr, List, length, All, AllPairs, Contains, refl, sym, ap, ◌∙◌, subst, arith}
use Rattle.std.proofs.lemmas.Bool.{cases_lt}
use Rattle.std.proofs.lemmas.List.{get_or-map, get_or_past, length-map}
use Rattle.std.proofs.lemmas.List.FromFn.{length-range_with_len}
use Rattle.std.proofs.lemmas.List.Elements.{All-contains_itself, All-map, All-nil, All-weaker, Contains-get_or}
use Rattle.igp_theory.specs.Changes.{first, second}
use Rattle.igp_theory.specs.Forwarding.{MustForward}
use Rattle.igp_theory.specs.LoopLaws.{AreSoundEnds}
use Rattle.igp_theory.specs.Loops.{IsLoop, loop}
use Rattle.igp_theory.specs.Migrations.{Migration, started}
use Rattle.igp_theory.specs.Phases.{State, state_in}
use Rattle.igp_theory.specs.TimetableLaws.{IsLoopOfWave}
use Rattle.igp_theory.specs.Timetables.{IsSoundThroughout, IsTimetable, Timetable, change_number}
use Rattle.igp_theory.specs.WaveFaults.{IsTimesFault}
use Rattle.igp_theory.specs.declared.phase.Phase.{Phase}
use Rattle.igp_theory.proofs.LoopLaws.{loop_inside}
use Rattle.igp_theory.proofs.LoopsDecide.{times_fault_between_ends}
use Rattle.order_core.specs.Pairs.{Pair}
use Rattle.order_core.specs.Rankings.{IsRanking, KeepsPairs, numbers_below, rank_of}
use Rattle.order_core.specs.Turns.{routers_of}
use Rattle.order_core.specs.declared.turn.Tag.TheVariants as tag
use Rattle.order_core.specs.declared.turn.Turn.{Turn}
use Rattle.order_core.proofs.DistinctLists.{length-le_from_distinct}
use Rattle.order_core.proofs.WaveLists.{count_le_length, numbers_are_below, rank_below_count}
use Rattle.rib_mix.specs.Mixture.{Mixture, migration_of}
use Rattle.loop_finder.specs.Faults.{searched, told_fault}
use Rattle.loop_finder.specs.Mixes.{Listing}
use Rattle.loop_finder.specs.Times.{times_in}
use Rattle.loop_finder.specs.declared.fault.Fault.{Fault}
use Rattle.loop_finder.specs.declared.fault.Fault.TheVariants.{Loop, Missing}
use Rattle.loop_finder.specs.declared.times.ChangeWaves.{ChangeWaves}
use Rattle.order_search.specs.Meanings.{Break, IsBase, Meaning, SameMeaning}
use Rattle.order_search.proofs.RisingPairs.{IsBase-rising}
use Rattle.order_search.proofs.SameMeanings.{SameMeaning-itself}
use Rattle.plan_theory.specs.Ranked.{CanRank, base_of, change_base, ranked, size_of}
use Rattle.plan_theory.specs.WavesMeaning.{night_meaning}
use Rattle.plan_theory.specs.declared.items.Items.{Items}
use Rattle.plan_theory.specs.declared.items.Items.TheVariants.{Routers, Changes}
use Rattle.plan_theory.proofs.ItemsServe.{items_ask, items_serve, ranked_base, ranked_size}
use Rattle.plan_theory.proofs.WaveBreaks.{fault_breaks, no_missing_step}
use Rattle.plan_theory.specs.Numbers.{AreNumbered}
use Rattle.plan_theory.proofs.NumberedTurns.{turns_must}
use Rattle.wave_oracle.specs.Nights.{IsNightFinder, Night, NightParts, can_from, night_move, night_start}
use Rattle.wave_oracle.specs.steps.ToldLoops.{IsToldLoop}
use Rattle.wave_oracle.specs.steps.RankedTimes.{times_from}

-- Numbers

pub night_size : (items : Items) (move : Migration) → (night_meaning items move).size ≡ size_of items (length move.net)
night_size Routers move = refl
night_size Changes move = refl

pub night_base : (items : Items) (move : Migration) → (night_meaning items move).base ≡ base_of items (length move.net)
night_base Routers move = refl
night_base Changes move = refl

-- the pairs that every ranking keeps are a base
base_of_is : (items : Items) (n : ℕ) → IsBase (size_of items n) (base_of items n)
base_of_is Routers n = IsBase-rising n (base_of Routers n) (omega arith) (All-nil (λ (p : Pair). (p.0 < p.1) × (p.1 < n)))
base_of_is Changes n =
    let pair : ℕ → Pair = λ u. (change_number (first u), change_number (second u)) in
    let long = length-map (numbers_below n) pair in
    let many = length-range_with_len 0 n in
    IsBase-rising (2 * n) (change_base n) (omega (arith, long, many))
    (All-map (λ (p : Pair). (p.0 < p.1) × (p.1 < 2 * n)) pair (numbers_below n)
    (All-weaker (Contains (numbers_below n)) (λ (u : ℕ). ((pair u).0 < (pair u).1) × ((pair u).1 < 2 * n))
    (λ u inside. let below = (numbers_are_below n u).0 inside in (omega arith, omega (arith, below)))
    (numbers_below n) (All-contains_itself (numbers_below n))))

pub night_base_is : (items : Items) (move : Migration) → IsBase (night_meaning items move).size (night_meaning items move).base
night_base_is Routers move = base_of_is Routers (length move.net)
night_base_is Changes move = base_of_is Changes (length move.net)

-- Timetables

pub times_by_start : (items : Items) (move : Migration) (start : List Phase) (ranks : List ℕ) → move.start ≡ night_start items start →
    times_from items (state_in start) ranks ≡ (ranked items move).times ranks
times_by_start Routers move start ranks begins = ap (λ s. times_from Routers s ranks) (sym begins)
times_by_start Changes move start ranks begins = refl

-- Between sound ends

module _ (items : Items) (move : Migration) (can : CanRank items move) (ranks : List ℕ) (waves : IsRanking (size_of items (length move.net)) ranks)
    (keeps : KeepsPairs ranks (base_of items (length move.net))) where
  pub night_table : IsTimetable (length move.net) move.start ((ranked items move).times ranks)
  night_table = (items_serve items move can).table ranks (subst (λ (n : ℕ). IsRanking n ranks) (sym (ranked_size items move)) waves)
      (subst (KeepsPairs ranks) (sym (ranked_base items move)) keeps)

  pub night_good : IsSoundThroughout move ((ranked items move).times ranks) → (night_meaning items move).good ranks
  night_good sound = ((items_ask items move).good ranks).1 (record {
    waves = subst (λ (n : ℕ). IsRanking n ranks) (sym (ranked_size items move)) waves;
    keeps = subst (KeepsPairs ranks) (sym (ranked_base items move)) keeps;
    throughout = sound;
  })

  module _ (ends : AreSoundEnds move) (w : ℕ) where
    -- what is told is a loop
    pub night_told : (fault : Fault) (ring : List Turn) → IsTimesFault move ((ranked items move).times ranks) w (told_fault fault ring) →
        IsToldLoop fault
    night_told (Loop a) ring told = tt
    night_told (Missing a u) ring told =
        no_missing_step move (ranked items move) (items_serve items move can) (night_meaning items move) (items_ask items move) ranks night_table
        ends w a u told

    module _ (a : ℕ) (ring : List Turn) (told : IsTimesFault move ((ranked items move).times ranks) w (loop a ring)) where
      pub told_loop : IsLoop move a ring
      told_loop =
          let of : IsLoopOfWave move ((ranked items move).times ranks) w (loop a ring) =
          times_fault_between_ends move ((ranked items move).times ranks) ends night_table w (loop a ring) told in
          let same : loop a ring ≡ loop of.address of.ring = of.is in
          let address : of.address ≡ a = cc in
          let turns : of.ring ≡ ring = cc in
          subst (λ (b : ℕ). IsLoop move b ring) address (subst (IsLoop move of.address) turns of.is_loop)

      -- so each of its routers has to pass packets on, and there are no more of them than of the network
      pub told_must : All (λ (t : Turn). MustForward move.net a t.router) ring
      told_must = turns_must move a ring told_loop.tags

      pub told_few : length ring ≤ length move.net
      told_few =
          let long = length-map ring (λ (t : Turn). t.router) in
          let few = length-le_from_distinct (routers_of ring) (length move.net) distinct
          (All-map (λ (u : ℕ). u < length move.net) (λ (t : Turn). t.router) ring (loop_inside move a ring told_loop)) in
          omega (arith, long, few)
        where
          distinct : AllPairs (λ (u v : ℕ). u ≢ v) (routers_of ring)
          distinct i j d before within same =
              let long = length-map ring (λ (t : Turn). t.router) in
              let none : Turn = record { router = d; tag = tag.Old } in
              let one = get_or-map (λ (t : Turn). t.router) ring i none d (omega (arith, before, within, long)) in
              let two = get_or-map (λ (t : Turn). t.router) ring j none d (omega (arith, within, long)) in
              told_loop.distinct i j none before (omega (arith, within, long)) (sym one ∙ same ∙ two)

      -- its turns break the ranking, each by the number that it has to name
      pub told_breaks_night : (numbered : List Turn) → AreNumbered items move a ring numbered → Break (night_meaning items move) ranks a numbered
      told_breaks_night numbered is =
          fault_breaks move (ranked items move) (items_serve items move can) (night_meaning items move) (items_ask items move) ranks night_table
          ends w a numbered
          (subst (λ (ts : List Turn). IsTimesFault move ((ranked items move).times ranks) w (loop a ts)) (sym is.ring) told) is.named

-- Its oracle

module _ {O N : Type 0} (old : Listing O) (new : Listing N) where
  -- what is told of a night is told of another with what is mixed, what is ranked and the start the same
  pub over_same : (one other : Night O N) → other.mixture ≡ one.mixture → other.items ≡ one.items → other.start ≡ one.start →
      (P : Items → Migration → Type 0) → P other.items (night_move old new other) → P one.items (night_move old new one)
  over_same one other mixture items start P has =
      subst (λ (m : Mixture O N). P one.items (started (night_start one.items one.start) (migration_of old new m))) mixture
      (subst (λ (s : List Phase). P one.items (started (night_start one.items s) (migration_of old new other.mixture))) start
      (subst (λ (i : Items). P i (started (night_start i other.start) (migration_of old new other.mixture))) items has))

  -- what is meant stays where what is mixed, what is ranked and the start do
  pub night_stays : (one other : Night O N) → other.mixture ≡ one.mixture → other.items ≡ one.items → other.start ≡ one.start →
      SameMeaning (night_meaning one.items (night_move old new one)) (night_meaning other.items (night_move old new other))
  night_stays one other mixture items start =
      let meaning : Items → List Phase → Mixture O N → Meaning = λ i s m. night_meaning i (started (night_start i s) (migration_of old new m)) in
      let first : Meaning = meaning one.items one.start one.mixture in
      subst (λ (i : Items). SameMeaning first (meaning i other.start other.mixture)) (sym items)
      (subst (λ (s : List Phase). SameMeaning first (meaning one.items s other.mixture)) (sym start)
      (subst (λ (m : Mixture O N). SameMeaning first (meaning one.items one.start m)) (sym mixture) (SameMeaning-itself first)))

-- Its finder

module _ {O N : Type 0} (old : Listing O) (new : Listing N) (p : NightParts O N) (is : IsNightFinder p) (P : Migration → Type 0) where
  -- what the finder of faults tells from its start is told of the night, and the other way
  pub over_start : P (searched old new p.finding) → P (started (night_start p.items p.start) (migration_of old new p.mixture))
  over_start has =
      subst (λ (s : State). P (started s (migration_of old new p.mixture))) is.begins
      (subst (λ (m : Mixture O N). P (started (state_in p.finding.start) (migration_of old new m))) is.same has)

  pub over_found : P (started (night_start p.items p.start) (migration_of old new p.mixture)) → P (searched old new p.finding)
  over_found has =
      subst (λ (m : Mixture O N). P (started (state_in p.finding.start) (migration_of old new m))) (sym is.same)
      (subst (λ (s : State). P (started s (migration_of old new p.mixture))) (sym is.begins) has)

module _ {O N : Type 0} (old : Listing O) (new : Listing N) (p : NightParts O N) (is : IsNightFinder p) (ranks : List ℕ)
    (times : List ChangeWaves) (filled : times_in times ≡ times_from p.items (state_in p.start) ranks) where
  abbrev move_here : Migration
  move_here = started (night_start p.items p.start) (migration_of old new p.mixture)

  times_are : times_in times ≡ (ranked p.items move_here).times ranks
  times_are = filled ∙ times_by_start p.items move_here p.start ranks refl

  module _ (P : Migration → Timetable → Type 0) where
    -- what the finder of faults tells of its timetable is told of the ranking
    pub over_ranking : P (searched old new p.finding) (times_in times) → P move_here ((ranked p.items move_here).times ranks)
    over_ranking has = subst (P move_here) times_are (over_start old new p is (λ m. P m (times_in times)) has)

    -- and the other way
    pub over_times : P move_here ((ranked p.items move_here).times ranks) → P (searched old new p.finding) (times_in times)
    over_times has = over_found old new p is (λ m. P m (times_in times)) (subst (P move_here) (sym times_are) has)

  pub table_here : IsRanking (size_of p.items (length p.mixture.net)) ranks → KeepsPairs ranks (base_of p.items (length p.mixture.net)) →
      IsTimetable (length p.finding.mixture.net) (state_in p.finding.start) (times_in times)
  table_here waves keeps =
      over_times (λ m t. IsTimetable (length m.net) m.start t)
      (night_table p.items move_here (can_from old new p.items p.start p.mixture) ranks waves keeps)

-- a rank is far below 2 ^ 32
pub night_rank_fits : (n : ℕ) (ranks : List ℕ) (k : ℕ) → n ≤ 1000 → IsRanking n ranks → rank_of ranks k + 1 < 2 ^ 32
night_rank_fits n ranks k few ranking = elim (cases_lt k (length ranks)) [
  | inl within ↦
      let count = rank_below_count ranks (rank_of ranks k) (Contains-get_or ranks k 0 within) in
      omega (arith, count, count_le_length n ranks ranking, few)
  | inr past ↦ let none : rank_of ranks k ≡ 0 = get_or_past ranks k 0 past in omega (arith, none)
]
