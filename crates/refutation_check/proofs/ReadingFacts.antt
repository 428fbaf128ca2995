-- How far a tree file has been read: one line more, and what the first wrong line is.
use Rattle.std.proofs.lemmas.Grind.{common_steps}
use Rattle.std.proofs.Common.{◌≡◌, ℕ, ◌+◌, ◌<◌, ◌≤◌, List, [], ◌∷◌, ◌++◌, length, get_or, take, drop, map}
use Rattle.std.proofs.Common.{arith, refl, sym, ap, ◌∙◌, subst}
use Rattle.std.specs.List.{All, AllZip}
use Rattle.std.proofs.lemmas.List.{take_more, drop_more, take-append-drop, length-take-le}
use Rattle.std.proofs.lemmas.List.Elements.{All-cons, All-nil}
use Rattle.std.proofs.lemmas.Slice.Zip.{AllZip-long, all_zipped_more}
use Rattle.net_model.specs.Refusals.{IsNetwork}
use Rattle.order_core.specs.Pairs.{Pair}
use Rattle.order_core.specs.Turns.{child_pairs}
use Rattle.order_core.specs.declared.turn.Turn.{Turn}
use Rattle.igp_theory.specs.Migrations.{Migration}
use Rattle.order_search.specs.Trees.{Place, Fill, IsVisited, branch_count}
use Rattle.order_search.specs.declared.tree.Node.{Node}
use Rattle.order_search.specs.declared.tree.Node.TheVariants.{Branch, Leaf, Unvisited}
use Rattle.order_search.proofs.Fills.{Fill-push, branch_count-append}
use Rattle.order_core.specs.Turns.{HasBothTags}
use Rattle.igp_theory.specs.Loops.{IsLoop}
use Rattle.plan_theory.specs.Ranked.{base_of, by_router, ranked}
use Rattle.plan_theory.specs.declared.items.Items.{Items}
use Rattle.plan_theory.specs.declared.items.Items.TheVariants.{Routers, Changes}
use Rattle.plan_theory.proofs.ItemsServe.{items_ask}
use Rattle.plan_theory.proofs.ItemNumbers.{both_of_map}
use Rattle.refutation_check.specs.TreeLines.{as_said, pieces_of, SaysNode}
use Rattle.refutation_check.specs.Verdicts.{AreRightLines, IsRightNode, IsLinesVerdict, IsWrongAt, wrong_there, after_tree, ends_early, leaf_count}
use Rattle.refutation_check.specs.Verdicts.{open_count}
use Rattle.refutation_check.specs.WrongLines.{WrongWords, WrongNode, IsAssumedRound, IsLowestKind, kind_number}
use Rattle.refutation_check.specs.declared.reading.Reading.{Reading}
use Rattle.refutation_check.specs.declared.reading.WrongLine.{WrongLine}
use Rattle.refutation_check.specs.declared.tally.Tally.{Tally}
use Rattle.refutation_check.specs.declared.verdict.Verdict.{Verdict}
use Rattle.refutation_check.specs.declared.verdict.Verdict.TheVariants.{Closed, Unfinished, Wrong}
use Rattle.refutation_check.specs.declared.verdict.WrongKind.{WrongKind}
use Rattle.refutation_check.specs.declared.verdict.WrongKind.TheVariants.{Form, Router}
use Rattle.refutation_check.specs.steps.Counted.{CountsNode}
use Rattle.plan_theory.specs.Numbers.{AreNumbered}
use Rattle.refutation_check.specs.steps.Reading.{HasReadLines, IsFirstWrongOf, IsNotTaken, TakesLine, IsEndVerdict, IsWholeVerdict}
use Rattle.refutation_check.specs.steps.Shapes.{SaysNoNode}
use Rattle.refutation_check.specs.steps.Right.{IsRightBranch}
use Rattle.refutation_check.specs.steps.Walks.{IsRinged, IsTaken}
use Rattle.refutation_check.proofs.RingPlaces.{cycle_from}
use Rattle.refutation_check.proofs.SaidNodes.{form_of, one_node}

-- Counts

leaf_count-append : (nodes more : List Node) → leaf_count (nodes ++ more) ≡ leaf_count nodes + leaf_count more
leaf_count-append [] more = omega arith
leaf_count-append (n ∷ nodes) more = omega (arith, leaf_count-append nodes more)

pub open_count-append : (nodes more : List Node) → open_count (nodes ++ more) ≡ open_count nodes + open_count more
open_count-append [] more = omega arith
open_count-append (n ∷ nodes) more = omega (arith, open_count-append nodes more)

-- a node is counted once at most
pub branches-few : (nodes : List Node) → branch_count nodes ≤ length nodes
branches-few [] = omega arith
branches-few (Branch a turns ∷ nodes) = omega (arith, branches-few nodes)
branches-few (Leaf cycle ∷ nodes) = omega (arith, branches-few nodes)
branches-few (Unvisited ∷ nodes) = omega (arith, branches-few nodes)

pub leaves-few : (nodes : List Node) → leaf_count nodes ≤ length nodes
leaves-few [] = omega arith
leaves-few (Branch a turns ∷ nodes) = omega (arith, leaves-few nodes)
leaves-few (Leaf cycle ∷ nodes) = omega (arith, leaves-few nodes)
leaves-few (Unvisited ∷ nodes) = omega (arith, leaves-few nodes)

pub open-few : (nodes : List Node) → open_count nodes ≤ length nodes
open-few [] = omega arith
open-few (Branch a turns ∷ nodes) = omega (arith, open-few nodes)
open-few (Leaf cycle ∷ nodes) = omega (arith, open-few nodes)
open-few (Unvisited ∷ nodes) = omega (arith, open-few nodes)

-- where no unvisited place is counted, each node is visited
pub all_visited : (nodes : List Node) → open_count nodes ≡ 0 → All IsVisited nodes
all_visited [] none = All-nil IsVisited
all_visited (Branch a turns ∷ nodes) none = All-cons IsVisited (Branch a turns) nodes tt (all_visited nodes (omega (arith, none)))
all_visited (Leaf cycle ∷ nodes) none = All-cons IsVisited (Leaf cycle) nodes tt (all_visited nodes (omega (arith, none)))
all_visited (Unvisited ∷ nodes) none = absurd (omega (arith, none))

-- how many lines were read
pub read_long : (items : Items) (move : Migration) (lines : List (List ℕ)) (reading : Reading) (i : ℕ) → i ≤ length lines →
    (read : HasReadLines items move (take i lines) reading) → length read.nodes ≡ i
read_long items move lines reading i within read = grind (arith, common_steps, AllZip-long, length-take-le)

-- One line more

-- a node is counted as it is said
count_said : (items : Items) (before after : Tally) (node said : Node) → as_said items node ≡ said → CountsNode before after said →
    CountsNode before after node
count_said Routers before after node said is counts = subst (CountsNode before after) (sym is) counts
count_said Changes before after (Branch a turns) said is counts = by_kind (subst (CountsNode before after) (sym is) counts)
  where
    by_kind : CountsNode before after (Branch a (map by_router turns)) → CountsNode before after (Branch a turns)
    by_kind c = record { branches = c.branches; leaves = c.leaves; unvisited = c.unvisited }
count_said Changes before after (Leaf cycle) said is counts = subst (CountsNode before after) (sym is) counts
count_said Changes before after Unvisited said is counts = subst (CountsNode before after) (sym is) counts

pub read_more : (items : Items) (move : Migration) (lines : List (List ℕ)) (i : ℕ) (before after : Reading) → i < length lines →
    HasReadLines items move (take i lines) before
    → TakesLine items move (get_or lines i []) before after → HasReadLines items move (take (i + 1) lines) after
read_more items move lines i before after within read t = by_left before.walk.left read.right t.taken
  where
    by_left : (places : List Place) → AreRightLines items move (take i lines) read.nodes places → IsTaken items move places after.walk.left t.said →
        HasReadLines items move (take (i + 1) lines) after
    by_left [] right is = absurd is
    by_left (place ∷ left) right is =
        let counts = count_said items before.tally after.tally is.node t.said is.is_said t.counts in
        record {
          nodes = read.nodes ++ is.node ∷ [];
          right = record {
            said =
                subst (λ (l : List (List ℕ)).
                AllZip (λ (line : List ℕ) (node : Node). SaysNode items move.net (pieces_of line) (as_said items node)) l (read.nodes ++ is.node ∷ []))
                (sym (take_more lines i [] within))
                (all_zipped_more (λ (line : List ℕ) (node : Node). SaysNode items move.net (pieces_of line) (as_said items node)) (take i lines) read.nodes
                (get_or lines i []) is.node right.said
                (subst (λ (n : Node). SaysNode items move.net (pieces_of (get_or lines i [])) n) (sym is.is_said) t.says));
            fills = subst (λ (ps : List Place). Fill (IsRightNode items move) (base_of items (length move.net) ∷ []) (read.nodes ++ is.node ∷ []) ps)
                (sym is.below)
                (Fill-push (IsRightNode items move) (base_of items (length move.net) ∷ []) left place read.nodes is.node right.fills is.right);
          };
          counted = record {
            branches = omega (arith, counts.branches, read.counted.branches, branch_count-append read.nodes (is.node ∷ []));
            leaves = omega (arith, counts.leaves, read.counted.leaves, leaf_count-append read.nodes (is.node ∷ []));
            unvisited = omega (arith, counts.unvisited, read.counted.unvisited, open_count-append read.nodes (is.node ∷ []));
          };
        }

-- the lines before a place, the one there, and those after it
split_at : (lines : List (List ℕ)) (i : ℕ) → i < length lines → lines ≡ take i lines ++ get_or lines i [] ∷ drop (i + 1) lines
split_at lines i within = sym (take-append-drop i lines) ∙ ap (λ (l : List (List ℕ)). take i lines ++ l) (drop_more lines i [] within)

-- The first wrong line

-- a line that isn't taken is the first wrong one
pub wrong_at : (items : Items) (move : Migration) (lines : List (List ℕ)) (i : ℕ) (before : Reading) (kind : WrongKind) →
    i < length lines → HasReadLines items move (take i lines) before
    → IsNotTaken items move before.walk.left (get_or lines i []) kind → IsWrongAt items move lines i kind
wrong_at items move lines i before kind within read wrong =
    subst (λ (n : ℕ). IsWrongAt items move lines n kind) (length-take-le i lines (omega (arith, within)))
    (by_left before.walk.left read.right wrong)
  where
    by_left : (places : List Place) → AreRightLines items move (take i lines) read.nodes places →
        IsNotTaken items move places (get_or lines i []) kind →
        IsWrongAt items move lines (length (take i lines)) kind
    by_left [] right w =
        subst (λ (k : WrongKind). IsWrongAt items move lines (length (take i lines)) k) (sym w)
        (after_tree (take i lines) (get_or lines i []) (drop (i + 1) lines) read.nodes (split_at lines i within) right)
    by_left (place ∷ left) right w =
        wrong_there (take i lines) (get_or lines i []) (drop (i + 1) lines) read.nodes place left kind (split_at lines i within) right w

-- where a place is open behind the last line, the lines end too early
pub wrong_end : (items : Items) (move : Migration) (lines : List (List ℕ)) (reading : Reading) →
    HasReadLines items move lines reading → ¬ (reading.walk.left ≡ [])
    → IsWrongAt items move lines (length lines) Form
wrong_end items move lines reading read left_some = by_left reading.walk.left read.right left_some
  where
    by_left : (places : List Place) → AreRightLines items move lines read.nodes places → ¬ (places ≡ []) →
        IsWrongAt items move lines (length lines) Form
    by_left [] right some = absurd (some refl)
    by_left (place ∷ left) right some = ends_early read.nodes place left right

-- The verdict on a whole tree

pub whole_is : (items : Items) (move : Migration) (first : ℕ) (lines : List (List ℕ)) (reading : Reading) (verdict : Verdict) →
    HasReadLines items move lines reading → reading.walk.left ≡ []
    → IsWholeVerdict reading.tally verdict → IsLinesVerdict items move first lines verdict
whole_is items move first lines reading verdict read whole w = grind (arith, common_steps, all_visited)

-- A line that isn't taken

-- words that say no node are wrong with the lowest kind
pub unread_lowest : (items : Items) (move : Migration) (place : Place) (words : List (List ℕ)) (kind : WrongKind) → SaysNoNode items move.net words kind →
    IsLowestKind (WrongWords items move place words) kind
unread_lowest items move place words Form w = record { wrong = w; lowest = least }
  where
    least : (other : WrongKind) → WrongWords items move place words other → 1 ≤ kind_number other
    least Form x = omega arith
    least other x = omega arith
unread_lowest items move place words Router w = record { wrong = w.none; lowest = least }
  where
    least : (other : WrongKind) → WrongWords items move place words other → 2 ≤ kind_number other
    least Form x = absurd (x w.form)
    least other x = omega arith
unread_lowest items move place words kind w = absurd w

-- the node of some words is wrong with the lowest kind, and so are the words
module _ (items : Items) (move : Migration) (network : IsNetwork move.net) (place : Place) (words : List (List ℕ)) (node : Node)
    (says : SaysNode items move.net words node) where
  no_form : (n : Node) → WrongNode move place n Form → ⊥
  no_form (Branch a turns) w = w
  no_form (Leaf cycle) w = w
  no_form Unvisited w = w

  no_router : (n : Node) → WrongNode move place n Router → ⊥
  no_router (Branch a turns) w = w
  no_router (Leaf cycle) w = w
  no_router Unvisited w = w

  as_words : (kind : WrongKind) → WrongNode move place node kind → WrongWords items move place words kind
  as_words Form w = absurd (no_form node w)
  as_words Router w = absurd (no_router node w)
  as_words kind w = record { node = node; says = says; wrong = w }

  same_wrong : (other : Node) (kind : WrongKind) → SaysNode items move.net words other → WrongNode move place other kind →
      WrongNode move place node kind
  same_wrong other kind said w = subst (λ (n : Node). WrongNode move place n kind) (one_node items move.net network words other node said says) w

  pub wrong_words : (kind : WrongKind) → IsLowestKind (WrongNode move place node) kind → IsLowestKind (WrongWords items move place words) kind
  wrong_words kind is = record { wrong = as_words kind is.wrong; lowest = least }
    where
      least : (other : WrongKind) → WrongWords items move place words other → kind_number kind ≤ kind_number other
      least Form x = absurd (x (form_of items move.net words node says))
      least Router x = absurd (x node says)
      least other x = is.lowest other (same_wrong x.node other x.says x.wrong)

-- what came of a node at the first open place
pub taken_there : (items : Items) (move : Migration) (places after : List Place) (said : Node) → ¬ (places ≡ []) →
    ((place : Place) (left : List Place) → places ≡ place ∷ left → IsTaken items move (place ∷ left) after said) → IsTaken items move places after said
taken_there items move places after said some taken = grind (arith, common_steps)

pub not_there : (items : Items) (move : Migration) (places : List Place) (line : List ℕ) (kind : WrongKind) → ¬ (places ≡ [])
    → ((place : Place) (left : List Place) → places ≡ place ∷ left → IsLowestKind (WrongWords items move place (pieces_of line)) kind) →
    IsNotTaken items move places line kind
not_there items move places line kind some wrong = grind (arith, common_steps)

-- what came of a node, where it is a branch, a leaf or an unvisited place

-- a branch by the routers of its turns
branch_said : (items : Items) (move : Migration) (a : ℕ) (turns numbered : List Turn) → (ranked items move).ring numbered ≡ turns →
    as_said items (Branch a numbered) ≡ Branch a turns
branch_said items move a turns numbered is = grind (arith, common_steps)

leaf_said : (items : Items) (cycle : List ℕ) → as_said items (Leaf cycle) ≡ Leaf cycle
leaf_said items cycle = grind (arith, common_steps)

open_said : (items : Items) → as_said items Unvisited ≡ Unvisited
open_said items = grind (arith, common_steps)

-- the numbers of turns have their tags
pub numbers_have_both : (items : Items) (move : Migration) (turns numbered : List Turn) → (ranked items move).ring numbered ≡ turns →
    HasBothTags turns → HasBothTags numbered
numbers_have_both items move turns numbered same both = grind (arith, common_steps, both_of_map)

pub branch_taken : (items : Items) (move : Migration) (place : Place) (left after : List Place) (node : Node) (a : ℕ)
    (turns shown named numbered : List Turn) →
    node ≡ Branch a turns → shown ≡ turns → IsRinged items (length move.net) node → IsRightBranch move a shown →
    AreNumbered items move a named numbered → named ≡ turns →
    after ≡ map (λ (p : Pair). place ++ p ∷ []) (child_pairs numbered) ++ left → IsTaken items move (place ∷ left) after node
branch_taken items move place left after node a turns shown named numbered is shows ringed right numbers names below =
    let here : IsRightBranch move a turns = subst (λ (l : List Turn). IsRightBranch move a l) shows right in
    let many : IsRinged items (length move.net) (Branch a turns) = subst (IsRinged items (length move.net)) is ringed in
    let ring : (ranked items move).ring numbered ≡ turns = numbers.ring ∙ names in
    let loop : IsLoop move a turns = record { address = here.address; some = many.1.some; distinct = many.1.distinct; tags = here.tags } in
    subst (λ (n : Node). IsTaken items move (place ∷ left) after n) (sym is) (record {
      node = Branch a numbered;
      is_said = branch_said items move a turns numbered ring;
      right = (
        ((items_ask items move).real a numbered).1 (record { is_loop = subst (IsLoop move a) (sym ring) loop; named = numbers.named }),
        numbers_have_both items move turns numbered ring here.both,
      );
      below = below;
    })

pub leaf_taken : (items : Items) (move : Migration) (place : Place) (left after : List Place) (node : Node) (cycle shown : List ℕ) →
    node ≡ Leaf cycle →
    shown ≡ cycle → IsRinged items (length move.net) node
    → IsAssumedRound place shown → after ≡ left → IsTaken items move (place ∷ left) after node
leaf_taken items move place left after node cycle shown is shows ringed round behind =
    let many : IsRinged items (length move.net) (Leaf cycle) = subst (IsRinged items (length move.net)) is ringed in
    subst (λ (n : Node). IsTaken items move (place ∷ left) after n) (sym is) (record {
      node = Leaf cycle;
      is_said = leaf_said items cycle;
      right = cycle_from place cycle many.1.some many.1.distinct (subst (λ (l : List ℕ). IsAssumedRound place l) shows round);
      below = behind;
    })

pub open_taken : (items : Items) (move : Migration) (place : Place) (left after : List Place) (node : Node) → node ≡ Unvisited → after ≡ left →
    IsTaken items move (place ∷ left) after node
open_taken items move place left after node is behind = grind (arith, common_steps, open_said)

-- The end of a text

-- before the first line nothing is read
pub read_none : (items : Items) (move : Migration) (reading : Reading) → reading.walk.left ≡ base_of items (length move.net) ∷ [] →
    reading.tally ≡ record { branches = 0; leaves = 0; unvisited = 0 } → HasReadLines items move [] reading
read_none items move reading left tally = grind (arith, common_steps)

-- the verdict behind the last line
pub end_is : (items : Items) (move : Migration) (first : ℕ) (lines : List (List ℕ)) (reading : Reading) (next : ℕ) (verdict : Verdict) →
    HasReadLines items move lines reading → next ≡ length lines + first → IsEndVerdict reading next verdict →
    IsLinesVerdict items move first lines verdict
end_is items move first lines reading next (Closed branches leaves) read n w =
    whole_is items move first lines reading (Closed branches leaves) read w.0 w.1
end_is items move first lines reading next (Unfinished unvisited) read n w =
    whole_is items move first lines reading (Unfinished unvisited) read w.0 w.1
end_is items move first lines reading next (Wrong line kind) read n w = record {
  place = length lines;
  line_is = w.1 ∙ n;
  wrong = subst (λ (k : WrongKind). IsWrongAt items move lines (length lines) k) (sym w.2) (wrong_end items move lines reading read w.0);
}

-- the verdict where a line is wrong
pub wrong_from : (items : Items) (move : Migration) (first : ℕ) (lines : List (List ℕ)) (found : WrongLine) (verdict : Verdict) →
    verdict ≡ Wrong (found.place + first) found.kind → IsFirstWrongOf items move lines found → IsLinesVerdict items move first lines verdict
wrong_from items move first lines found verdict is wrong = grind (arith, common_steps)
