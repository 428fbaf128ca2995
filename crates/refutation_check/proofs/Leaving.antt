-- The way down and up a path: one branch deeper, past a last child, on to a next child.
use Rattle.std.proofs.lemmas.Grind.{common_steps}
use Rattle.std.proofs.Common.{◌≡◌, ℕ, ◌-◌, ◌<◌, Bool, List, [], ◌∷◌, ◌++◌, length, get_or, take, drop, map, reverse, All, Contains}
use Rattle.std.proofs.Common.{cond, arith, sym, ap, ◌∙◌, subst, length-append}
use Rattle.std.proofs.lemmas.List.{get_or_append_left}
use Rattle.std.proofs.lemmas.List.Elements.{All-push, All-drop, All-contains, Contains-push, Contains-get_or, All-filter, All-map}
use Rattle.std.specs.List.{filter}
use Rattle.net_model.proofs.Members.{Contains-flat_map, Contains-map}
use Rattle.order_core.specs.Pairs.{Pair, AreBelow}
use Rattle.order_core.specs.Turns.{is_old, is_new, old_routers, new_routers, child_pairs}
use Rattle.order_core.specs.declared.turn.Turn.{Turn}
use Rattle.order_search.specs.Trees.{Place}
use Rattle.refutation_check.specs.steps.Walks.{GoesAlong, pairs_along, places_after, places_from}
use Rattle.refutation_check.proofs.OpenPlaces.{entered, last_child, along_more, along_back, reverse-push}

-- the places behind the path are those behind the one from which the way began
pub record IsWayUp (routers : ℕ) (pairs : List Pair) (cursors first : List (List Pair)) : Type 0 where
  pub after : places_after (reverse cursors) ≡ places_after (reverse first)
  pub along : GoesAlong routers pairs cursors

-- pairs of routers below a number, as the members of a list are
abbrev IsBelow : ℕ → Pair → Type 0
IsBelow n p = (p.0 < n) × (p.1 < n)

-- the children of turns below a number assume pairs below it
pub children_below : (n : ℕ) (turns : List Turn) → All (λ (t : Turn). t.router < n) turns → AreBelow n (child_pairs turns)
children_below n turns below = λ k d within. each (get_or (child_pairs turns) k d) (Contains-get_or (child_pairs turns) k d within)
  where
    olds_in : All (λ (u : ℕ). u < n) (old_routers turns)
    olds_in = All-map (λ (u : ℕ). u < n) (λ (t : Turn). t.router) (filter (λ (t : Turn). is_old t.tag) turns)
        (All-filter (λ (t : Turn). is_old t.tag) (λ (t : Turn). t.router < n) turns below)

    news_in : All (λ (u : ℕ). u < n) (new_routers turns)
    news_in = All-map (λ (u : ℕ). u < n) (λ (t : Turn). t.router) (filter (λ (t : Turn). is_new t.tag) turns)
        (All-filter (λ (t : Turn). is_new t.tag) (λ (t : Turn). t.router < n) turns below)

    each : (p : Pair) → Contains (child_pairs turns) p → IsBelow n p
    each p has =
        let in_row = Contains-flat_map (λ (u : ℕ). map (λ (v : ℕ). (u, v)) (new_routers turns)) (old_routers turns) p has in
        let given = Contains-map (λ (v : ℕ). (in_row.item, v)) (new_routers turns) p in_row.inside in
        subst (IsBelow n) given.gives (
          All-contains (λ (u : ℕ). u < n) (old_routers turns) in_row.item olds_in in_row.among,
          All-contains (λ (u : ℕ). u < n)
              (new_routers turns) given.item news_in given.among,
        )

-- one branch deeper
pub deeper : (n : ℕ) (pairs after : List Pair) (cursors more : List (List Pair)) (c : List Pair) → GoesAlong n pairs cursors →
    0 < length c → AreBelow n c →
    after ≡ pairs ++ take 1 c → more ≡ cursors ++ c ∷ [] → GoesAlong n after more
deeper n pairs after cursors more c goes some below assumed pushed =
    grind (arith, common_steps, All-push, along_more, reverse-push)

pub deeper_left : (is_open : Bool) (cursors more : List (List Pair)) (c children : List Pair) (place : Place) (left : List Place) → c ≡ children →
    0 < length c → more ≡ cursors ++ c ∷ []
    → cond is_open (places_from (reverse cursors)) [] ≡ place ∷ left →
    cond is_open (places_from (reverse more)) [] ≡ map (λ (p : Pair). place ++ p ∷ []) children ++ left
deeper_left is_open cursors more c children place left is some pushed first = grind (arith, common_steps, entered, reverse-push)

module _ (n : ℕ) (pairs : List Pair) (cursors fewer first : List (List Pair)) (c : List Pair) (way : IsWayUp n pairs cursors first)
    (popped : cursors ≡ fewer ++ c ∷ []) (some : 0 < length c) where
  turned : reverse cursors ≡ c ∷ reverse fewer
  turned = ap (λ (l : List (List Pair)). reverse l) popped ∙ reverse-push fewer c

  pub popped_below : AreBelow n c
  popped_below =
      All-contains (λ (left : List Pair). AreBelow n left) cursors c way.along.below
      (subst (λ (l : List (List Pair)). Contains l c) (sym popped) (Contains-push fewer c))

  taken : (after : List Pair) → after ≡ take (length pairs - 1) pairs → GoesAlong n after fewer
  taken after back = record {
    along = back ∙ along_back c (reverse fewer) pairs some (way.along.along ∙ ap pairs_along turned);
    below = λ k d within.
        let held : All (λ (left : List Pair). AreBelow n left) (fewer ++ c ∷ []) = subst
        (λ (l : List (List Pair)). All (λ (left : List Pair). AreBelow n left) l) popped way.along.below in
        subst (λ (l : List Pair). AreBelow n l) (get_or_append_left fewer (c ∷ []) d k within)
        (held k d (omega (arith, within, length-append fewer (c ∷ []))));
  }

  -- past a last child
  pub past : (after : List Pair) → after ≡ take (length pairs - 1) pairs → drop 1 c ≡ [] → IsWayUp n after fewer first
  past after back last = record {
    after = sym (last_child c (reverse fewer) last) ∙ sym (ap places_after turned) ∙ way.after;
    along = taken after back;
  }

  -- on to the next child
  pub next_below : (d : List Pair) → d ≡ drop 1 c → AreBelow n d
  next_below d is = subst (λ (l : List Pair). AreBelow n l) (sym is) (All-drop (λ (p : Pair). (p.0 < n) × (p.1 < n)) 1 c popped_below)

  pub on : (after more : List Pair) (d : List Pair) (deep : List (List Pair)) → after ≡ take (length pairs - 1) pairs →
      d ≡ drop 1 c → 0 < length d →
      more ≡ after ++ take 1 d → deep ≡ fewer ++ d ∷ [] → GoesAlong n more deep
  on after more d deep back is d_some assumed pushed = deeper n after more fewer deep d (taken after back) d_some (next_below d is) assumed pushed
