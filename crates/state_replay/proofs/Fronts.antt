-- Changes that begin a run: what they are by themselves, without the run.
use Rattle.std.proofs.lemmas.Grind.{common_steps}
use Rattle.std.proofs.Common.{◌≡◌, ◌≢◌, ℕ, ◌<◌, ◌⊎◌, inl, inr, List, [], ◌∷◌, ◌++◌, Contains, AllPairs, refl, sym, subst}
use Rattle.std.proofs.Common.{append_assoc, append-nil, arith}
use Rattle.std.proofs.lemmas.Bool.{cases_lt, cases_eq}
use Rattle.std.proofs.lemmas.List.Elements.{Contains-append_left, Contains-append_right, Contains-append_cases}
use Rattle.net_model.proofs.Members.{Contains-none, Contains-first, Contains-rest, Contains-cases}
use Rattle.order_core.specs.Rankings.{IsRanking, rank_of, flat_of}
use Rattle.igp_theory.specs.Changes.{Change, first, second, changed}
use Rattle.igp_theory.specs.Phases.{all_old}
use Rattle.igp_theory.specs.Timetables.{MayPrecede, IsRun, router_times}
use Rattle.igp_theory.specs.Waves.{run_along}
use Rattle.igp_theory.proofs.FlatOrders.{flat_is_run}
use Rattle.igp_theory.proofs.OrderedLists.{pairs_none, pairs_more, pairs_first, pairs_rest, pairs_append, pairs_across, pairs_front}
use Rattle.state_replay.specs.Journals.{BeginRun, MayComeNext}

-- ---- which changes are made ----

pub same_or_not : (c d : Change) → (c ≡ d) ⊎ (c ≢ d)
same_or_not c d = grind (arith, common_steps, cases_eq)

pub made_or_not : (c : Change) (changes : List Change) → Contains changes c ⊎ (Contains changes c → ⊥)
made_or_not c [] = inr (Contains-none c)
made_or_not c (d ∷ changes) = elim (same_or_not d c) [
  | inl same ↦ inl (subst (λ (e : Change). Contains (d ∷ changes) e) same (Contains-first d changes))
  | inr apart ↦ elim (made_or_not c changes) [
    | inl there ↦ inl (Contains-rest d changes c there)
    | inr absent ↦ inr (λ inside. elim (Contains-cases d changes c inside) [ inl same ↦ apart same | inr there ↦ absent there ])
  ]
]

-- the changes of a list that aren't made, in its order
record Unmade (R : Change → Change → Type 0) (made all : List Change) : Type 0 where
  rest : List Change
  among : (c : Change) → Contains rest c → Contains all c
  unmade : (c : Change) → Contains rest c → Contains made c → ⊥
  whole : (c : Change) → Contains all c → (Contains made c → ⊥) → Contains rest c
  in_turn : AllPairs R rest

unmade_of : (R : Change → Change → Type 0) (made all : List Change) → AllPairs R all → Unmade R made all
unmade_of R made [] pairs = record {
  rest = [];
  among = λ c inside. inside;
  unmade = λ c inside. absurd (Contains-none c inside);
  whole = λ c inside not. inside;
  in_turn = pairs_none R;
}
unmade_of R made (d ∷ all) pairs =
    let others : Unmade R made all = unmade_of R made all (pairs_rest R d all pairs) in
    elim (made_or_not d made) [
      | inl there ↦ record {
        rest = others.rest;
        among = λ c inside. Contains-rest d all c (others.among c inside);
        unmade = others.unmade;
        whole = λ c inside not. elim (Contains-cases d all c inside) [
          | inl same ↦ absurd (not (subst (λ (e : Change). Contains made e) same there))
          | inr later ↦ others.whole c later not
        ];
        in_turn = others.in_turn;
      }
      | inr absent ↦ record {
        rest = d ∷ others.rest;
        among = λ c inside. elim (Contains-cases d others.rest c inside) [
          | inl same ↦ subst (λ (e : Change). Contains (d ∷ all) e) same (Contains-first d all)
          | inr later ↦ Contains-rest d all c (others.among c later)
        ];
        unmade = λ c inside. elim (Contains-cases d others.rest c inside) [
          | inl same ↦ subst (λ (e : Change). Contains made e → ⊥) same absent
          | inr later ↦ others.unmade c later
        ];
        whole = λ c inside not. elim (Contains-cases d all c inside) [
          | inl same ↦ subst (λ (e : Change). Contains (d ∷ others.rest) e) same (Contains-first d others.rest)
          | inr later ↦ Contains-rest d others.rest c (others.whole c later not)
        ];
        in_turn = pairs_more R d others.rest (λ c inside. pairs_first R d all pairs c (others.among c inside)) others.in_turn;
      }
    ]

-- ---- changes that begin a run ----

-- changes of the routers in turn: with a change each one of an earlier wave, and with a second change the first one
pub record AreInFront (n : ℕ) (ranks : List ℕ) (changes : List Change) : Type 0 where
  pub in_turn : AllPairs (MayPrecede (router_times all_old ranks)) changes
  pub below : (c : Change) → Contains changes c → changed c < n
  pub earlier : (c d : Change) → Contains changes c → changed d < n → rank_of ranks (changed d) < rank_of ranks (changed c) → Contains changes d
  pub halves : (u : ℕ) → Contains changes (second u) → Contains changes (first u)

pub front_of_run : (n : ℕ) (ranks : List ℕ) (changes : List Change) → BeginRun n ranks changes → AreInFront n ranks changes
front_of_run n ranks changes begin =
    let across = pairs_across (MayPrecede (router_times all_old ranks)) changes begin.rest begin.is_run.in_turn in
    let inside : (c : Change) → Contains changes c → changed c < n =
    λ c here. ((begin.is_run.all c).0 (Contains-append_left changes begin.rest c here)).0 in
    record {
      in_turn = pairs_front (MayPrecede (router_times all_old ranks)) changes begin.rest begin.is_run.in_turn;
      below = inside;
      earlier = λ c d here below lower. elim (Contains-append_cases changes begin.rest d ((begin.is_run.all d).1 (below, omega arith))) [
        | inl made ↦ made
        | inr later ↦ let wave = (across c d here later).wave in absurd (omega (arith, wave, lower))
      ];
      halves = λ u here. elim (Contains-append_cases changes begin.rest (first u) ((begin.is_run.all (first u)).1 (inside (second u) here, omega arith))) [
        | inl made ↦ made
        | inr later ↦ absurd ((across (second u) (first u) here later).half u refl refl)
      ];
    }

-- a change that is made may precede one that isn't
pub precede : {n : ℕ} {ranks : List ℕ} {changes : List Change} → AreInFront n ranks changes → (c d : Change) → Contains changes c →
    (Contains changes d → ⊥) → changed d < n → MayPrecede (router_times all_old ranks) c d
precede {ranks = ranks} {changes = changes} front c d here absent below = record {
  other = λ same. absent (subst (λ (e : Change). Contains changes e) same here);
  wave = elim (cases_lt (rank_of ranks (changed d)) (rank_of ranks (changed c))) [
    | inl lower ↦ absurd (absent (front.earlier c d here below lower))
    | inr up ↦ omega (arith, up)
  ];
  half = λ u is same.
      absent (subst (λ (e : Change). Contains changes e) (sym same) (front.halves u (subst (λ (e : Change). Contains changes e) is here)));
}

pub run_of_front : (n : ℕ) (ranks : List ℕ) (changes : List Change) → IsRanking n ranks → AreInFront n ranks changes → BeginRun n ranks changes
run_of_front n ranks changes ranking front =
    let along : IsRun n (router_times all_old ranks) (run_along (flat_of ranks)) = flat_is_run n all_old ranks ranking in
    let others : Unmade (MayPrecede (router_times all_old ranks)) changes (run_along (flat_of ranks)) =
    unmade_of (MayPrecede (router_times all_old ranks)) changes (run_along (flat_of ranks)) along.in_turn in
    record {
      rest = others.rest;
      is_run = record {
        all = λ c. (
          λ inside. elim (Contains-append_cases changes others.rest c inside) [
            | inl made ↦ (front.below c made, omega arith)
            | inr later ↦ (along.all c).0 (others.among c later)
          ],
          λ left. elim (made_or_not c changes) [
            | inl made ↦ Contains-append_left changes others.rest c made
            | inr absent ↦ Contains-append_right changes others.rest c (others.whole c ((along.all c).1 left) absent)
          ],
        );
        in_turn = pairs_append (MayPrecede (router_times all_old ranks)) changes others.rest front.in_turn others.in_turn
            (λ c d here later. precede front c d here (others.unmade d later) ((along.all d).0 (others.among d later)).0);
      };
    }

-- fewer changes begin a run too
pub begin_fewer : (n : ℕ) (ranks : List ℕ) (changes more : List Change) → BeginRun n ranks (changes ++ more) → BeginRun n ranks changes
begin_fewer n ranks changes more begin = record {
  rest = more ++ begin.rest;
  is_run = subst (λ (run : List Change). IsRun n (router_times all_old ranks) run) (append_assoc changes more begin.rest) begin.is_run;
}

-- where no change may come next the run is whole
pub whole_run : (n : ℕ) (ranks : List ℕ) (changes : List Change) → BeginRun n ranks changes →
    ((c : Change) → MayComeNext n ranks changes c → ⊥) →
    IsRun n (router_times all_old ranks) changes
whole_run n ranks changes begin none = by_rest begin.rest begin.is_run
  where
    by_rest : (rest : List Change) → IsRun n (router_times all_old ranks) (changes ++ rest) → IsRun n (router_times all_old ranks) changes
    by_rest [] is = subst (λ (run : List Change). IsRun n (router_times all_old ranks) run) (append-nil changes) is
    by_rest (c ∷ rest) is =
        absurd (none c (record {
          rest = rest;
          is_run = subst (λ (run : List Change). IsRun n (router_times all_old ranks) run) (sym (append_assoc changes (c ∷ []) rest)) is;
        }))
