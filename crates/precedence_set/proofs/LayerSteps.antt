-- Layers with one pair more: where it moves no router, and where it moves its second router alone.
use Rattle.std.proofs.lemmas.Grind.{common_steps}
use Rattle.std.proofs.Common.{◌≡◌, ◌≢◌, ℕ, ◌+◌, ◌<◌, ◌≤◌, inl, inr, List, [], ◌∷◌, ◌++◌, length, length-set, set, take}
use Rattle.std.proofs.Common.{Option, None, arith, subst, sym, ap, ◌∙◌}
use Rattle.std.specs.List.{Contains}
use Rattle.std.proofs.lemmas.Bool.{cases_eq}
use Rattle.std.proofs.lemmas.List.{get_or-set_same, get_or-set_other, get_or_default}
use Rattle.std.proofs.lemmas.List.Elements.{Contains-append_left, Contains-push, Contains-push_cases}
use Rattle.link_trail.specs.Lists.{first_node, list_at}
use Rattle.order_core.specs.Pairs.{Pair}
use Rattle.order_core.specs.Rankings.{rank_of}
use Rattle.precedence_set.specs.Layers.{AreLayers, IsLayerOf}
use Rattle.precedence_set.specs.Successors.{AreSuccessors}
use Rattle.precedence_set.specs.steps.Walking.{IsFirstFrom}
use Rattle.precedence_set.proofs.SuccessorFacts.{IsFirstFrom-first}

-- a router whose list has no first pair is before none
pub none_after : (n : ℕ) (pairs : List Pair) (lists : List (List ℕ)) (v : ℕ) (first : Option ℕ) → AreSuccessors n pairs lists → v < n →
    first ≡ first_node (list_at lists v) → first ≡ None → (w : ℕ) → ¬ Contains pairs (v, w)
none_after n pairs lists v first successors v_in e none w has =
    let walk = subst (λ (o : Option ℕ). IsFirstFrom pairs v 0 o) none (IsFirstFrom-first n pairs lists v first successors v_in e) in
    let here = get_or_default pairs has.0 (0, 0) (v, w) has.1 ∙ has.2 in
    walk has.0 (omega arith) has.1 (ap (λ (p : Pair). p.0) here)

-- a pair whose first router has the lower layer moves no router
pub AreLayers-kept : (n : ℕ) (pairs : List Pair) (layers : List ℕ) (u v : ℕ) → AreLayers n pairs layers → rank_of layers u < rank_of layers v →
    AreLayers n (pairs ++ (u, v) ∷ []) layers
AreLayers-kept n pairs layers u v are lower = record {
  whole = are.whole;
  each = λ w w_in. elim (are.each w w_in) [
    | inl none ↦ inl (
      none.0,
      λ q has. elim (Contains-push_cases pairs (u, v) (q, w) has) [
        | inl old ↦ none.1 q old
        | inr new ↦
            let at : rank_of layers v ≡ rank_of layers w = ap (λ (p : Pair). rank_of layers p.1) new in
            omega (arith, at, lower, none.0)
      ],
    )
    | inr above ↦
        let x : ℕ = above.0 in
        inr (
          x,
          record {
            before = Contains-append_left pairs ((u, v) ∷ []) (x, w) above.1.before;
            highest = λ q has. elim (Contains-push_cases pairs (u, v) (q, w) has) [
              | inl old ↦ above.1.highest q old
              | inr new ↦
                  let at : rank_of layers v ≡ rank_of layers w = ap (λ (p : Pair). rank_of layers p.1) new in
                  let from : rank_of layers u ≡ rank_of layers q = ap (λ (p : Pair). rank_of layers p.0) new in
                  omega (arith, at, from, lower, above.2)
            ];
          },
          above.2,
        )
  ];
}

-- a pair whose second router has no lower layer, and is before none, moves that router alone, over the first
pub AreLayers-moved : (n : ℕ) (pairs : List Pair) (layers : List ℕ) (u v : ℕ) → AreLayers n pairs layers → v < n → u ≢ v →
    rank_of layers v ≤ rank_of layers u → ((w : ℕ) → ¬ Contains pairs (v, w)) →
    AreLayers n (pairs ++ (u, v) ∷ []) (set layers v (rank_of layers u + 1))
AreLayers-moved n pairs layers u v are v_in differ le last = record {
  whole = length-set layers v (rank_of layers u + 1) ∙ are.whole;
  each = λ w w_in. elim (cases_eq w v) [
    | inl same ↦ subst (λ (y : ℕ). IsLayerOf more moved y (rank_of moved y)) (sym same) at_v
    | inr apart ↦ at_other w w_in apart
  ];
}
  where
    more : List Pair
    more = pairs ++ (u, v) ∷ []

    moved : List ℕ
    moved = set layers v (rank_of layers u + 1)

    here : rank_of moved v ≡ rank_of layers u + 1
    here = get_or-set_same layers v (rank_of layers u + 1) 0 (omega (arith, v_in, are.whole))

    other : (w : ℕ) → w ≢ v → rank_of moved w ≡ rank_of layers w
    other w apart = get_or-set_other layers v w (rank_of layers u + 1) 0 apart

    -- what is before some router isn't v
    before : (q w : ℕ) → Contains pairs (q, w) → rank_of moved q ≡ rank_of layers q
    before q w has = other q (λ same. last w (subst (λ (y : ℕ). Contains pairs (y, w)) same has))

    at_v : IsLayerOf more moved v (rank_of moved v)
    at_v = inr (
      u,
      record {
        before = Contains-push pairs (u, v);
        highest = λ q has. elim (Contains-push_cases pairs (u, v) (q, v) has) [
          | inl old ↦ elim (are.each v v_in) [
            | inl none ↦ absurd (none.1 q old)
            | inr above ↦ omega (arith, above.2, above.1.highest q old, le, before q v old, other u differ)
          ]
          | inr new ↦
              let from : rank_of moved u ≡ rank_of moved q = ap (λ (p : Pair). rank_of moved p.0) new in
              omega (arith, from)
        ];
      },
      omega (arith, here, other u differ),
    )

    at_other : (w : ℕ) → w < n → w ≢ v → IsLayerOf more moved w (rank_of moved w)
    at_other w w_in apart = elim (are.each w w_in) [
      | inl none ↦ inl (
        omega (arith, none.0, other w apart),
        λ q has. elim (Contains-push_cases pairs (u, v) (q, w) has) [
          | inl old ↦ none.1 q old
          | inr new ↦ apart (sym (ap (λ (p : Pair). p.1) new))
        ],
      )
      | inr above ↦
          let x : ℕ = above.0 in
          inr (
            x,
            record {
              before = Contains-append_left pairs ((u, v) ∷ []) (x, w) above.1.before;
              highest = λ q has. elim (Contains-push_cases pairs (u, v) (q, w) has) [
                | inl old ↦ omega (arith, before q w old, before x w above.1.before, above.1.highest q old)
                | inr new ↦ absurd (apart (sym (ap (λ (p : Pair). p.1) new)))
              ];
            },
            omega (arith, above.2, other w apart, before x w above.1.before),
          )
    ]

-- layers of the first pairs of some room are those of the first pairs of the same room
pub are_fresh : (n count : ℕ) (room items : List Pair) (layers : List ℕ) → items ≡ room → length layers ≡ n →
    AreLayers (length layers) (take count items) layers → AreLayers n (take count room) layers
are_fresh n count room items layers same long are = grind (arith, common_steps)
