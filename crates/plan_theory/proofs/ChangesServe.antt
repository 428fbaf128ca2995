-- The numbers of single changes serve, where every router begins in Old.
use Rattle.std.proofs.Common.{◌≡◌, ℕ, ◌+◌, ◌*◌, ◌/◌, ◌<◌, ◌≤◌, inl, inr, List, length, map, get_or, Contains, refl, sym, ap, ◌∙◌, subst, arith}
use Rattle.std.specs.List.{AllPairs}
use Rattle.std.proofs.lemmas.Bool.{cases_lt}
use Rattle.std.proofs.lemmas.List.{get_or-map, get_or_default, get_or_past, length-map}
use Rattle.net_model.proofs.Members.{Contains-map, Contains-in_map}
use Rattle.order_core.specs.Orders.{IsOrder}
use Rattle.order_core.specs.Pairs.{Pair}
use Rattle.order_core.specs.Rankings.{IsRanking, KeepsPair, KeepsPairs, numbers_below, rank_of}
use Rattle.order_core.specs.declared.turn.Turn.{Turn}
use Rattle.order_core.proofs.WaveLists.{numbers_are_below}
use Rattle.igp_theory.specs.Changes.{Change, first, second, changed}
use Rattle.igp_theory.specs.LoopLaws.{BeginsOld}
use Rattle.igp_theory.specs.Loops.{IsTag}
use Rattle.igp_theory.specs.Migrations.{Migration}
use Rattle.igp_theory.specs.TimetableLaws.{IsSwitch, SwitchesIn}
use Rattle.igp_theory.specs.Timetables.{IsTimetable, IsRun, MayPrecede, change_number, change_times}
use Rattle.igp_theory.specs.Waves.{AreOnes}
use Rattle.igp_theory.proofs.OnesRuns.{order_has_ones, same_in_turn}
use Rattle.igp_theory.proofs.OnesWaves.{rank_tells}
use Rattle.igp_theory.proofs.Switches.{change_switches, one_switch}
use Rattle.igp_theory.proofs.Timetables.{before_old}
use Rattle.plan_theory.specs.Ranked.{ListsAllChanges, NamesSwitch, by_router, change_base, changes_ranked}
use Rattle.plan_theory.proofs.Serving.{Serves}

-- The numbers of changes

number_by_two : (c : Change) → change_number c / 2 ≡ changed c
number_by_two (first u) = omega arith
number_by_two (second u) = omega arith

number_below : (n : ℕ) (c : Change) → change_number c / 2 < n → change_number c < 2 * n
number_below n (first u) below = omega (arith, below)
number_below n (second u) below = omega (arith, below)

one_change : (c d : Change) → change_number c ≡ change_number d → c ≡ d
one_change (first u) (first v) same = ap first (omega (arith, same))
one_change (second u) (second v) same = ap second (omega (arith, same))
one_change (first u) (second v) same = absurd (omega (arith, same))
one_change (second u) (first v) same = absurd (omega (arith, same))

-- the change of a number
change_at : (k : ℕ) → (c : Change) × (change_number c ≡ k)
change_at k = elim (cases_lt (k / 2 + k / 2) k) [
  | inl odd ↦ (second (k / 2), omega (arith, odd))
  | inr even ↦ (first (k / 2), omega (arith, even))
]

-- The timetable of a ranking

-- the base asks of each router that its first change comes before its second
in_base : (n u : ℕ) → u < n → Contains {X = Pair} (change_base n) (change_number (first u), change_number (second u))
in_base n u below = Contains-in_map {A = Pair} (λ v. (change_number (first v), change_number (second v))) (numbers_below n) u ((numbers_are_below n u).1 below)

in_order : (n : ℕ) (ranks : List ℕ) → IsRanking (2 * n) ranks → KeepsPairs ranks (change_base n) → (u : ℕ) →
    change_times ranks (first u) ≤ change_times ranks (second u)
in_order n ranks waves keeps u = elim (cases_lt u n) [
  | inl below ↦ let rises = keeps (change_number (first u), change_number (second u)) (in_base n u below) in omega (arith, rises)
  | inr past ↦
      let many = waves.each in
      let one : rank_of ranks (u + u) ≡ 0 = get_or_past ranks (u + u) 0 (omega (arith, many, past)) in
      omega (arith, one)
]

changes_have_times : (move : Migration) (ranks : List ℕ) → BeginsOld move → IsRanking (2 * length move.net) ranks →
    KeepsPairs ranks (change_base (length move.net)) → IsTimetable (length move.net) move.start (change_times ranks)
changes_have_times move ranks begins waves keeps = record {
  in_order = in_order (length move.net) ranks waves keeps;
  begins = λ u below. before_old (change_times ranks) 1 u (omega arith) (omega arith) ∙ sym (begins u);
}

-- Names

named_router : (move : Migration) (a : ℕ) (t : Turn) (names : NamesSwitch move a t) → t.router / 2 ≡ changed names.change
named_router move a t names = ap (λ k. k / 2) names.named ∙ number_by_two names.change

named_switched : (move : Migration) (ranks : List ℕ) (a : ℕ) (t : Turn) (next : ℕ) → BeginsOld move →
    IsTimetable (length move.net) move.start (change_times ranks) → NamesSwitch move a t → IsTag move a (by_router t) next →
    SwitchesIn move (change_times ranks) a (by_router t) next (rank_of ranks t.router + 1)
named_switched move ranks a t next begins table names tagged =
    subst (λ k. SwitchesIn move (change_times ranks) a (by_router t) next (rank_of ranks k + 1)) (sym names.named)
    (change_switches move ranks a (by_router t) next names.change (begins (t.router / 2)) tagged (table.in_order (t.router / 2))
    (subst (λ u. IsSwitch move u a names.change) (sym (named_router move a t names)) names.switch))

one_named : (move : Migration) (a : ℕ) (s t : Turn) → NamesSwitch move a s → NamesSwitch move a t → s.router / 2 ≡ t.router / 2 → s.router ≡ t.router
one_named move a s t one two same =
    let routers : changed one.change ≡ changed two.change = sym (named_router move a s one) ∙ same ∙ named_router move a t two in
    let changes : one.change ≡ two.change =
    one_switch move (changed two.change) a one.change two.change (subst (λ u. IsSwitch move u a one.change) routers one.switch) two.switch in
    one.named ∙ ap change_number changes ∙ sym two.named

-- The ranking of a list of all changes

module _ (n : ℕ) (run : List Change) (is : ListsAllChanges n run) where
  abbrev order : List ℕ
  order = map change_number run

  number_at : (k : ℕ) (d : Change) → k < length run → get_or order k 0 ≡ change_number (get_or run k d)
  number_at k d within = get_or-map change_number run k d 0 within

  run_is_order : IsOrder (2 * n) order
  run_is_order = record {
    once = λ i j d before within same.
        let long = length-map run change_number in
        let c : Change = get_or run i (first 0) in
        let e : Change = get_or run j (first 0) in
        let apart = is.in_turn i j (first 0) before (omega (arith, within, long)) in
        let one = get_or-map change_number run i (first 0) d (omega (arith, before, within, long)) in
        let two = get_or-map change_number run j (first 0) d (omega (arith, within, long)) in
        apart.other (one_change c e (sym one ∙ same ∙ two));
    all = λ k. (
      λ inside.
          let given = Contains-map change_number run k inside in
          let below = ((is.all given.item).0 given.among).0 in
          subst (λ j. j < 2 * n) given.gives (number_below n given.item (omega (arith, below, number_by_two given.item))),
      λ below.
          let c = change_at k in
          subst (Contains order) c.1 (Contains-in_map change_number run c.0
          ((is.all c.0).1 (let by = number_by_two c.0 in let number = c.1 in omega (arith, by, number, below), omega arith))),
    );
  }

  module _ (ranks : List ℕ) (ones : AreOnes order ranks) where
    -- a change is ranked at its place
    rank_at : (k : ℕ) (d : Change) → k < length run → rank_of ranks (change_number (get_or run k d)) ≡ k
    rank_at k d within =
        let long = length-map run change_number in
        ap (rank_of ranks) (sym (number_at k d within)) ∙ ones.places k (omega (arith, within, long))

    keeps_base : KeepsPairs ranks (change_base n)
    keeps_base pair has =
        let given = Contains-map {A = Pair} (λ v. (change_number (first v), change_number (second v))) (numbers_below n) pair has in
        subst (KeepsPair ranks) given.gives (rises given.item ((numbers_are_below n given.item).0 given.among))
      where
        rises : (u : ℕ) → u < n → rank_of ranks (change_number (first u)) < rank_of ranks (change_number (second u))
        rises u below =
            let one = (is.all (first u)).1 (below, omega arith) in
            let two = (is.all (second u)).1 (below, omega arith) in
            let first_place = ap (λ c. rank_of ranks (change_number c)) (sym one.2) ∙ rank_at one.0 (first u) one.1 in
            let second_place = ap (λ c. rank_of ranks (change_number c)) (sym two.2) ∙ rank_at two.0 (second u) two.1 in
            elim (cases_lt one.0 two.0) [
              | inl before ↦ omega (arith, before, first_place, second_place)
              | inr behind ↦ absurd (elim (cases_lt two.0 one.0) [
                | inl earlier ↦
                    let turn = is.in_turn two.0 one.0 (first u) earlier one.1 in
                    turn.half u (get_or_default run two.0 (first u) (second u) two.1 ∙ two.2) one.2
                | inr equal ↦
                    let same : one.0 ≡ two.0 = omega (arith, behind, equal) in
                    let clash : first u ≡ second u = sym one.2 ∙ get_or_default run one.0 (first u) (second u) one.1
                    ∙ ap (λ k. get_or run k (second u)) same ∙ two.2 in
                    cc
              ])
            ]

    run_in_turn : AllPairs (MayPrecede (change_times ranks)) run
    run_in_turn i j d before within =
        let turn = is.in_turn i j d before within in
        let one = rank_at i d (omega (arith, before, within)) in
        let two = rank_at j d within in
        record { other = turn.other; wave = omega (arith, before, one, two); half = turn.half }

    only_run : (other : List Change) → IsRun n (change_times ranks) other → other ≡ run
    only_run other also =
        same_in_turn (MayPrecede (change_times ranks)) other run also.in_turn run_in_turn
        (λ c d left right one two.
        let up = one.wave in
        let down = two.wave in
        let c_below = ((also.all c).0 left).0 in
        let d_below = ((also.all d).0 right).0 in
        one.other (one_change c d (rank_tells (2 * n) order ranks (change_number c) (change_number d) run_is_order ones
        (number_below n c (omega (arith, c_below, number_by_two c))) (number_below n d (omega (arith, d_below, number_by_two d)))
        (omega (arith, up, down)))))
        (λ c inside. (is.all c).1 (((also.all c).0 inside).0, omega arith))
        (λ c inside. (also.all c).1 (((is.all c).0 inside).0, omega arith))

pub changes_serve : (move : Migration) → BeginsOld move → Serves move (changes_ranked move)
changes_serve move begins = record {
  router = λ k. k / 2;
  ring_is = λ turns. refl;
  inside = λ a t names below. subst (λ k. k < 2 * length move.net) (sym names.named)
      (number_below (length move.net) names.change (subst (λ k. k / 2 < length move.net) names.named below));
  one = one_named move;
  table = λ ranks waves keeps. changes_have_times move ranks begins waves keeps;
  switched = λ ranks a t next table names tagged. named_switched move ranks a t next begins table names tagged;
  ranked = λ run listed.
      let ones = order_has_ones (2 * length move.net) (map change_number run) (run_is_order (length move.net) run listed) in
      record {
        ranks = ones.0;
        waves = ones.2;
        keeps = keeps_base (length move.net) run listed ones.0 ones.1;
        only = only_run (length move.net) run listed ones.0 ones.1;
      };
}
