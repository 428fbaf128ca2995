-- The changes of the first n routers that pass a test, in turn: each is put behind all that are of no later wave.
use Rattle.std.proofs.lemmas.Grind.{common_steps}
use Rattle.std.proofs.Common.{◌≡◌, ◌≢◌, ℕ, zero, suc, ◌<◌, ◌≤◌, ◌↔◌, ◌⊎◌, inl, inr, Bool, true, false, List, [], ◌∷◌, Contains}
use Rattle.std.proofs.Common.{arith, refl, sym, ap, ◌∙◌, subst}
use Rattle.std.specs.List.{AllPairs}
use Rattle.std.proofs.lemmas.Bool.{cases_lt, cases_eq, false≢true}
use Rattle.igp_theory.specs.Timetables.{Timetable, MayPrecede}
use Rattle.igp_theory.specs.Changes.{Change, first, second, changed}
use Rattle.net_model.proofs.Members.{Contains-none, Contains-first, Contains-rest, Contains-cases}
use Rattle.igp_theory.proofs.OrderedLists.{pairs_none, pairs_more, pairs_first, pairs_rest}

-- some changes in turn
pub record Listed (time : Timetable) (P : Change → Type 0) : Type 0 where
  pub list : List Change
  pub contains : (c : Change) → Contains list c ↔ P c
  pub in_turn : AllPairs (MayPrecede time) list

-- a change finds its place beside another one
record Fits (time : Timetable) (c d : Change) : Type 0 where
  behind : time d ≤ time c → MayPrecede time d c
  ahead : time c < time d → MayPrecede time c d

-- changes of different routers
pub precede_apart : (time : Timetable) (c d : Change) → changed c ≢ changed d → time c ≤ time d → MayPrecede time c d
precede_apart time c d apart wave = grind (arith, common_steps)

fits_apart : (time : Timetable) (c d : Change) → changed c ≢ changed d → Fits time c d
fits_apart time c d apart = grind (arith, common_steps, precede_apart)

-- a router's two
pub first_precedes : (time : Timetable) (u : ℕ) → time (first u) ≤ time (second u) → MayPrecede time (first u) (second u)
first_precedes time u turn = record { other = λ same. cc; wave = turn; half = λ v is_second. absurd (halves is_second) }
  where
    halves : {v : ℕ} → first u ≡ second v → ⊥
    halves same = cc

-- one more change
listed_more : {time : Timetable} (c : Change) (ds : List Change) → AllPairs (MayPrecede time) ds →
    ((d : Change) → Contains ds d → Fits time c d) → Listed time (λ d. (c ≡ d) ⊎ Contains ds d)
listed_more {time} c [] turns fits = record {
  list = c ∷ [];
  contains = λ d. (
    λ inside. Contains-cases c [] d inside,
    λ either. elim either [
      | inl same ↦ subst (Contains (c ∷ [])) same (Contains-first c [])
      | inr none ↦ absurd (Contains-none d none)
    ],
  );
  in_turn = pairs_more (MayPrecede time) c [] (λ d none. absurd (Contains-none d none)) (pairs_none (MayPrecede time));
}
listed_more {time} c (d ∷ ds) turns fits = elim (cases_lt (time c) (time d)) [
  | inl early ↦ record {
    list = c ∷ d ∷ ds;
    contains = λ x. (
      λ inside. Contains-cases c (d ∷ ds) x inside,
      λ either. elim either [
        | inl same ↦ subst (Contains (c ∷ d ∷ ds)) same (Contains-first c (d ∷ ds))
        | inr there ↦ Contains-rest c (d ∷ ds) x there
      ],
    );
    in_turn = pairs_more (MayPrecede time) c (d ∷ ds) (λ x inside. (fits x inside).ahead (elim (Contains-cases d ds x inside) [
      | inl same ↦ subst (λ y. time c < time y) same early
      | inr later ↦ let wave = (pairs_first (MayPrecede time) d ds turns x later).wave in omega (arith, wave, early)
    ])) turns;
  }
  | inr late ↦
      let rest : Listed time (λ x. (c ≡ x) ⊎ Contains ds x) =
      listed_more c ds (pairs_rest (MayPrecede time) d ds turns) (λ x inside. fits x (Contains-rest d ds x inside)) in
      record {
        list = d ∷ rest.list;
        contains = λ x. (
          λ inside. elim (Contains-cases d rest.list x inside) [
            | inl same ↦ inr (subst (Contains (d ∷ ds)) same (Contains-first d ds))
            | inr later ↦ elim ((rest.contains x).0 later) [
              | inl same ↦ inl same
              | inr among ↦ inr (Contains-rest d ds x among)
            ]
          ],
          λ either. elim either [
            | inl same ↦ Contains-rest d rest.list x ((rest.contains x).1 (inl same))
            | inr inside ↦ elim (Contains-cases d ds x inside) [
              | inl same ↦ subst (Contains (d ∷ rest.list)) same (Contains-first d rest.list)
              | inr later ↦ Contains-rest d rest.list x ((rest.contains x).1 (inr later))
            ]
          ],
        );
        in_turn = pairs_more (MayPrecede time) d rest.list (λ x inside. elim ((rest.contains x).0 inside) [
          | inl same ↦ subst (MayPrecede time d) same ((fits d (Contains-first d ds)).behind late)
          | inr later ↦ pairs_first (MayPrecede time) d ds turns x later
        ]) rest.in_turn;
      }
]

-- what is listed, in other words
listed_as : {time : Timetable} {P Q : Change → Type 0} → ((c : Change) → P c ↔ Q c) → Listed time P → Listed time Q
listed_as same listed = grind (arith, common_steps)

-- one more change where it passes a test
listed_where : {time : Timetable} {P : Change → Type 0} (test : Change → Bool) (c : Change) → Listed time P →
    ((d : Change) → P d → Fits time c d) → Listed time (λ d. ((c ≡ d) × (test d ≡ true)) ⊎ P d)
listed_where {time} {P} test c listed fits = by (test c) refl
  where
    by : (b : Bool) → test c ≡ b → Listed time (λ d. ((c ≡ d) × (test d ≡ true)) ⊎ P d)
    by true is = listed_as (λ d. (
      λ either. elim either [
        | inl same ↦ inl (same, ap test (sym same) ∙ is)
        | inr inside ↦ inr ((listed.contains d).0 inside)
      ],
      λ either. elim either [
        | inl one ↦ inl one.0
        | inr among ↦ inr ((listed.contains d).1 among)
      ],
    )) (listed_more c listed.list listed.in_turn (λ d inside. fits d ((listed.contains d).0 inside)))
    by false is = listed_as (λ d. (
      inr,
      λ either. elim either [
        | inl one ↦ absurd (false≢true (sym is ∙ ap test one.0 ∙ one.1))
        | inr among ↦ among
      ],
    )) listed

-- a change of one of the first n routers passes
abbrev pub Passes : ℕ → (Change → Bool) → Change → Type 0
Passes n test c = (changed c < n) × (test c ≡ true)

-- so does one of them, or the first one of the next router
abbrev WithFirst : ℕ → (Change → Bool) → Change → Type 0
WithFirst n test c = ((first n ≡ c) × (test c ≡ true)) ⊎ Passes n test c

pub listed_passing : (time : Timetable) (n : ℕ) (test : Change → Bool) → ((u : ℕ) → time (first u) ≤ time (second u)) → Listed time (Passes n test)
listed_passing time zero test turn = record {
  list = [];
  contains = λ c. (λ none. absurd (Contains-none c none), λ passes. absurd (let below = passes.0 in omega (arith, below)));
  in_turn = pairs_none (MayPrecede time);
}
listed_passing time (suc n) test turn = listed_as parts
    (listed_where test (second n) (with_first (listed_passing time n test turn)) behind_first)
  where
    with_first : Listed time (Passes n test) → Listed time (WithFirst n test)
    with_first others = listed_where test (first n) others
        (λ c passes. fits_apart time (first n) c (λ same. let below = passes.0 in omega (arith, below, same)))

    behind_first : (c : Change) → WithFirst n test c → Fits time (second n) c
    behind_first c (inl one) = subst (Fits time (second n)) one.0 (record {
      behind = λ early. first_precedes time n (turn n);
      ahead = λ late. absurd (let before = turn n in omega (arith, before, late));
    })
    behind_first c (inr passes) = fits_apart time (second n) c (λ same. let below = passes.0 in omega (arith, below, same))

    own : (c : Change) → changed c ≡ n → (second n ≡ c) ⊎ (first n ≡ c)
    own (first u) same = inr (ap first (sym same))
    own (second u) same = inl (ap second (sym same))

    parts : (c : Change) → (((second n ≡ c) × (test c ≡ true)) ⊎ WithFirst n test c) ↔ Passes (suc n) test c
    parts c = (
      λ either. elim either [
        | inl two ↦ (let same = ap changed two.0 in omega (arith, same), two.1)
        | inr (inl one) ↦ (let same = ap changed one.0 in omega (arith, same), one.1)
        | inr (inr passes) ↦ (let below = passes.0 in omega (arith, below), passes.1)
      ],
      λ passes. elim (cases_eq (changed c) n) [
        | inl same ↦ elim (own c same) [
          | inl two ↦ inl (two, passes.1)
          | inr one ↦ inr (inl (one, passes.1))
        ]
        | inr apart ↦ inr (inr (let below = passes.0 in omega (arith, below, apart), passes.1))
      ],
    )
