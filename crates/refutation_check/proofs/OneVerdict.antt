-- A text has one verdict. Each verdict tells how far the lines are right, and two of them tell it alike: where one goes on, no line is wrong.
use Rattle.std.proofs.lemmas.Grind.{common_steps}
use Rattle.std.proofs.Common.{◌≡◌, ℕ, ◌+◌, ◌-◌, ◌<◌, List, [], ◌∷◌, ◌++◌, length, get_or, map, take, All, ⊎_elim, arith, refl, sym, ap, ◌∙◌}
use Rattle.std.proofs.Common.{subst, length-append}
use Rattle.std.specs.List.{AllZip}
use Rattle.std.proofs.lemmas.Bool.{cases_lt}
use Rattle.std.proofs.lemmas.List.{append-nil}
use Rattle.std.proofs.lemmas.List.Elements.{All-head, All-tail}
use Rattle.net_addr.specs.Addresses.{Block}
use Rattle.net_addr.specs.Lines.{line_texts}
use Rattle.net_model.specs.Network.{Connected}
use Rattle.net_model.specs.Refusals.{IsNetwork}
use Rattle.igp_theory.proofs.OrderedLists.{longer, same_front}
use Rattle.igp_theory.specs.Loops.{IsLoop}
use Rattle.igp_theory.specs.Migrations.{Migration}
use Rattle.order_core.specs.declared.turn.Turn.{Turn}
use Rattle.order_search.specs.Trees.{Place, NodeFact, Fill, places_below, IsTreeNode, IsVisited, branch_count}
use Rattle.order_search.specs.declared.tree.Node.{Node}
use Rattle.order_search.specs.declared.tree.Node.TheVariants.{Branch, Leaf, Unvisited}
use Rattle.plan_theory.specs.Ranked.{CanRank, base_of, by_router, ranked}
use Rattle.plan_theory.specs.declared.items.Items.{Items}
use Rattle.plan_theory.specs.declared.items.Items.TheVariants.{Routers, Changes}
use Rattle.plan_theory.proofs.ItemsServe.{items_serve}
use Rattle.plan_theory.proofs.ItemNumbers.{both_in_map, turns_by_ring}
use Rattle.refutation_check.specs.TreeLines.{as_said, tree_header, pieces_of, SaysNode}
use Rattle.refutation_check.specs.Verdicts.{AreRightLines, StandsBehind, IsHeadedVerdict, IsLinesVerdict, IsRightNode, IsTextVerdict, IsWrongAt, leaf_count, open_count, header_missing, wrong_there}
use Rattle.refutation_check.specs.Verdicts.{after_tree, behind_header, ends_early}
use Rattle.refutation_check.specs.WrongLines.{WrongWords, WrongNode, IsLowestKind, kind_number}
use Rattle.refutation_check.specs.declared.verdict.Verdict.{Verdict}
use Rattle.refutation_check.specs.declared.verdict.Verdict.TheVariants.{Closed, Unfinished, Wrong}
use Rattle.refutation_check.specs.declared.verdict.WrongKind.{WrongKind}
use Rattle.refutation_check.specs.declared.verdict.WrongKind.TheVariants.{Form, Router, Address, Originator, Step, OneSided, NotAssumed}
use Rattle.refutation_check.proofs.BranchFacts.{one_target}
use Rattle.refutation_check.proofs.NumberedTurns.{round_must}
use Rattle.refutation_check.proofs.RingPlaces.{round_from}
use Rattle.refutation_check.proofs.SaidNodes.{form_of, one_node, later_words}

-- Places

-- nodes leave one list of places open
one_left : (P : NodeFact) (places : List Place) (nodes : List Node) (l1 l2 : List Place) → Fill P places nodes l1 → Fill P places nodes l2 → l1 ≡ l2
one_left P places [] l1 l2 f g = sym f ∙ g
one_left P [] (n ∷ nodes) l1 l2 f g = absurd f
one_left P (p ∷ places) (n ∷ nodes) l1 l2 f g = one_left P (places_below p n ++ places) nodes l1 l2 f.1 g.1

-- some nodes fill places, and further ones fill what they leave
fills_on : (P : NodeFact) (places : List Place) (front rest : List Node) (left : List Place) → Fill P places (front ++ rest) left →
    (mid : List Place) × Fill P places front mid × Fill P mid rest left
fills_on P places [] rest left f = (places, refl, f)
fills_on P [] (n ∷ front) rest left f = absurd f
fills_on P (p ∷ places) (n ∷ front) rest left f =
    let more = fills_on P (places_below p n ++ places) front rest left f.1 in
    (more.0, (f.0, more.1), more.2)

-- items related to the items of a list and some more are parted alike
record SaidParts {A B : Type 0} (R : A → B → Type 0) (xs ys : List A) (zs : List B) : Type 0 where
  front : List B
  rest : List B
  is : zs ≡ front ++ rest
  first : AllZip R xs front
  second : AllZip R ys rest

said_parts : {A B : Type 0} (R : A → B → Type 0) (xs ys : List A) (zs : List B) → AllZip R (xs ++ ys) zs → SaidParts R xs ys zs
said_parts R [] ys zs said = record { front = []; rest = zs; is = refl; first = tt; second = said }
said_parts R (x ∷ xs) ys [] said = absurd said
said_parts R (x ∷ xs) ys (z ∷ zs) said =
    let more = said_parts R xs ys zs said.1 in
    record { front = z ∷ more.front; rest = more.rest; is = ap (λ l. z ∷ l) more.is; first = (said.0, more.first); second = more.second }

-- A node that is right has no wrong kind

right_no_wrong : (move : Migration) → IsNetwork move.net → (place : Place) (node : Node) (kind : WrongKind) →
    IsTreeNode (IsLoop move) place node → WrongNode move place node kind → ⊥
right_no_wrong move network place (Branch a turns) Address right w = first turns right.0
  where
    first : (ts : List Turn) → IsLoop move a ts → ⊥
    first [] loop = omega (arith, loop.some)
    first (t ∷ ts) loop =
        let must = round_must move a (t ∷ ts) 0 t loop.tags (omega arith) refl in
        w must.target must.is_target
right_no_wrong move network place (Branch a turns) Originator right w =
    let must = round_must move a turns w.by_some.0 w.by_some.1 right.0.tags w.by_some.2 w.by_some.3 in
    let same : must.target ≡ w.target = one_target move.net a must.target w.target network must.is_target w.is_target in
    must.away (subst (λ (p : Block). Connected move.net w.by_some.1.router p) (sym same) w.by_some.4)
right_no_wrong move network place (Branch a turns) Step right w = w right.0.tags
right_no_wrong move network place (Branch a turns) OneSided right w = w right.1
right_no_wrong move network place (Branch a turns) kind right w = w
right_no_wrong move network place (Leaf cycle) NotAssumed right w = w (round_from place cycle right)
right_no_wrong move network place (Leaf cycle) kind right w = w
right_no_wrong move network place Unvisited kind right w = w

-- a right node is right as it is said
right_as_said : (items : Items) (move : Migration) (place : Place) (node : Node) → IsRightNode items move place node →
    IsTreeNode (IsLoop move) place (as_said items node)
right_as_said Routers move place node right = right
right_as_said Changes move place (Branch a turns) right = (right.0.is_loop, both_in_map by_router (λ t. refl) turns right.1)
right_as_said Changes move place (Leaf cycle) right = right
right_as_said Changes move place Unvisited right = right

-- and is told by what is said of it
right_by_said : (items : Items) (move : Migration) → CanRank items move → (place : Place) (n m : Node) → as_said items n ≡ as_said items m →
    IsRightNode items move place n → IsRightNode items move place m → n ≡ m
right_by_said Routers move can place n m same one two = same
right_by_said Changes move can place (Branch a s) (Branch b t) same one two =
    let address : a ≡ b = cc in
    let rings : map by_router s ≡ map by_router t = cc in
    let by_ring = (items_serve Changes move can).ring_is in
    let turns : s ≡ t = turns_by_ring move (ranked Changes move) (items_serve Changes move can) a s t (sym (by_ring s) ∙ rings ∙ by_ring t) one.0.named
    (subst (λ (c : ℕ). All ((ranked Changes move).names c) t) (sym address) two.0.named) in
    cc
right_by_said Changes move can place (Branch a s) (Leaf other) same one two = cc
right_by_said Changes move can place (Branch a s) Unvisited same one two = cc
right_by_said Changes move can place (Leaf cycle) (Branch b t) same one two = cc
right_by_said Changes move can place (Leaf cycle) (Leaf other) same one two = same
right_by_said Changes move can place (Leaf cycle) Unvisited same one two = cc
right_by_said Changes move can place Unvisited (Branch b t) same one two = cc
right_by_said Changes move can place Unvisited (Leaf other) same one two = cc
right_by_said Changes move can place Unvisited Unvisited same one two = refl

-- nor have words that say it
module _ (items : Items) (move : Migration) (network : IsNetwork move.net) (place : Place) (words : List (List ℕ)) (node : Node)
    (says : SaysNode items move.net words (as_said items node)) (right : IsRightNode items move place node) where
  no_wrong : (other : Node) (kind : WrongKind) → SaysNode items move.net words other → WrongNode move place other kind → ⊥
  no_wrong other kind said w =
      right_no_wrong move network place (as_said items node) kind (right_as_said items move place node right)
      (subst (λ (n : Node). WrongNode move place n kind) (one_node items move.net network words other (as_said items node) said says) w)

  no_wrong_words : (kind : WrongKind) → WrongWords items move place words kind → ⊥
  no_wrong_words Form w = w (form_of items move.net words (as_said items node) says)
  no_wrong_words Router w = w (as_said items node) says
  no_wrong_words kind w = no_wrong w.node kind w.says w.wrong

-- a kind is told by its number
abbrev by_number : List WrongKind
by_number = Form ∷ Form ∷ Router ∷ Address ∷ Originator ∷ Step ∷ OneSided ∷ NotAssumed ∷ []

is_numbered : (k : WrongKind) → get_or by_number (kind_number k) Form ≡ k
is_numbered k = grind (arith, common_steps)

one_kind : (k l : WrongKind) → kind_number k ≡ kind_number l → k ≡ l
one_kind k l e = sym (is_numbered k) ∙ ap (λ (n : ℕ). get_or by_number n Form) e ∙ is_numbered l

-- the lowest kind is one
pub one_lowest : (P : WrongKind → Type 0) (k l : WrongKind) → IsLowestKind P k → IsLowestKind P l → k ≡ l
one_lowest P k l low least = one_kind k l (omega (arith, low.lowest l least.wrong, least.lowest k low.wrong))

-- How far the lines are right

-- some first lines, with their nodes, the places that these leave open, and the lines behind them
record RightFront : Type 0 where
  before : List (List ℕ)
  rest : List (List ℕ)
  nodes : List Node
  left : List Place

abbrev right_front : List (List ℕ) → List (List ℕ) → List Node → List Place → RightFront
right_front before rest nodes left = record { before = before; rest = rest; nodes = nodes; left = left }

-- no place is open, and no line is left
abbrev IsEnded : List Place → List (List ℕ) → Type 0
IsEnded [] [] = Unit {0}
IsEnded [] (x ∷ rest) = ⊥
IsEnded (p ∷ left) rest = ⊥

module _ (items : Items) (move : Migration) (can : CanRank items move) (network : IsNetwork move.net) (first : ℕ) where
  -- why the first line of the rest is wrong, where places are open or lines left
  abbrev IsWrongNext : List Place → List (List ℕ) → WrongKind → Type 0
  IsWrongNext [] [] kind = ⊥
  IsWrongNext [] (x ∷ rest) kind = kind ≡ Form
  IsWrongNext (p ∷ left) [] kind = kind ≡ Form
  IsWrongNext (p ∷ left) (x ∷ rest) kind = IsLowestKind (WrongWords items move p (pieces_of x)) kind

  -- the verdict where some first lines are right
  abbrev Outcome : RightFront → Verdict → Type 0
  Outcome s (Closed branches leaves) =
      IsEnded s.left s.rest × All IsVisited s.nodes × (branches ≡ branch_count s.nodes) × (leaves ≡ leaf_count s.nodes)
  Outcome s (Unfinished unvisited) = IsEnded s.left s.rest × (0 < unvisited) × (unvisited ≡ open_count s.nodes)
  Outcome s (Wrong line kind) = (line ≡ length s.before + first) × IsWrongNext s.left s.rest kind

  ended_right : (left : List Place) (rest : List (List ℕ)) (kind : WrongKind) → IsEnded left rest → IsWrongNext left rest kind → ⊥
  ended_right [] [] kind ended wrong = wrong
  ended_right [] (x ∷ rest) kind ended wrong = ended
  ended_right (p ∷ left) rest kind ended wrong = ended

  one_wrong : (left : List Place) (rest : List (List ℕ)) (j k : WrongKind) → IsWrongNext left rest j → IsWrongNext left rest k → j ≡ k
  one_wrong [] [] j k f g = absurd f
  one_wrong [] (x ∷ rest) j k f g = f ∙ sym g
  one_wrong (p ∷ left) [] j k f g = f ∙ sym g
  one_wrong (p ∷ left) (x ∷ rest) j k f g = one_lowest (WrongWords items move p (pieces_of x)) j k f g

  -- no closed tree has an unvisited place
  none_open : (nodes : List Node) → All IsVisited nodes → open_count nodes ≡ 0
  none_open [] visited = refl
  none_open (Branch a turns ∷ nodes) visited = omega (arith, none_open nodes (All-tail IsVisited (Branch a turns) nodes visited))
  none_open (Leaf cycle ∷ nodes) visited = omega (arith, none_open nodes (All-tail IsVisited (Leaf cycle) nodes visited))
  none_open (Unvisited ∷ nodes) visited = absurd (All-head IsVisited Unvisited nodes visited)

  one_outcome : (s : RightFront) (one other : Verdict) → Outcome s one → Outcome s other → one ≡ other
  one_outcome s (Closed b l) (Closed c m) f g = ap (λ (n : ℕ). Closed n l) (f.2 ∙ sym g.2) ∙ ap (λ (n : ℕ). Closed c n) (f.3 ∙ sym g.3)
  one_outcome s (Closed b l) (Unfinished u) f g = absurd (omega (arith, none_open s.nodes f.1, g.1, g.2))
  one_outcome s (Closed b l) (Wrong n k) f g = absurd (ended_right s.left s.rest k f.0 g.1)
  one_outcome s (Unfinished u) (Closed c m) f g = absurd (omega (arith, none_open s.nodes g.1, f.1, f.2))
  one_outcome s (Unfinished u) (Unfinished v) f g = ap (λ (n : ℕ). Unfinished n) (f.2 ∙ sym g.2)
  one_outcome s (Unfinished u) (Wrong n k) f g = absurd (ended_right s.left s.rest k f.0 g.1)
  one_outcome s (Wrong n k) (Closed c m) f g = absurd (ended_right s.left s.rest k g.0 f.1)
  one_outcome s (Wrong n k) (Unfinished v) f g = absurd (ended_right s.left s.rest k g.0 f.1)
  one_outcome s (Wrong n k) (Wrong m j) f g =
      ap (λ (l : ℕ). Wrong l k) (f.0 ∙ sym g.0) ∙ ap (λ (x : WrongKind). Wrong m x) (one_wrong s.left s.rest k j f.1 g.1)

  -- some first lines are right, and the verdict is what follows
  record Stops (lines : List (List ℕ)) (verdict : Verdict) : Type 0 where
    at : RightFront
    is : lines ≡ at.before ++ at.rest
    right : AreRightLines items move at.before at.nodes at.left
    outcome : Outcome at verdict

  -- right nodes of the same lines are the same
  same_nodes : (lines : List (List ℕ)) (places : List Place) (ns ms : List Node) (l1 l2 : List Place) →
      AllZip (λ (l : List ℕ) (node : Node). SaysNode items move.net (pieces_of l) (as_said items node)) lines ns →
      AllZip (λ (l : List ℕ) (node : Node). SaysNode items move.net (pieces_of l) (as_said items node)) lines ms →
      Fill (IsRightNode items move) places ns l1 → Fill (IsRightNode items move) places ms l2 → ns ≡ ms
  same_nodes [] places [] [] l1 l2 one two f g = refl
  same_nodes [] places [] (m ∷ ms) l1 l2 one two f g = absurd two
  same_nodes [] places (n ∷ ns) ms l1 l2 one two f g = absurd one
  same_nodes (x ∷ lines) places [] ms l1 l2 one two f g = absurd one
  same_nodes (x ∷ lines) places (n ∷ ns) [] l1 l2 one two f g = absurd two
  same_nodes (x ∷ lines) [] (n ∷ ns) (m ∷ ms) l1 l2 one two f g = absurd f
  same_nodes (x ∷ lines) (p ∷ places) (n ∷ ns) (m ∷ ms) l1 l2 one two f g =
      let same : n ≡ m = right_by_said items move can p n m
      (one_node items move.net network (pieces_of x) (as_said items n) (as_said items m) one.0 two.0) f.0 g.0 in
      let rest : ns ≡ ms = same_nodes lines (places_below p n ++ places) ns ms l1 l2 one.1 two.1 f.1
      (subst (λ (k : Node). Fill (IsRightNode items move) (places_below p k ++ places) ms l2) (sym same) g.1) in
      ap (λ (k : Node). k ∷ ns) same ∙ ap (λ (l : List Node). m ∷ l) rest

  -- where a line is wrong or stands behind the tree, no right line goes on
  stops_there : (s : RightFront) (line : List ℕ) (later : List (List ℕ)) (left : List Place) (verdict : Verdict) (more : List Node) (end : List Place) →
      Outcome (right_front s.before (line ∷ later) s.nodes left) verdict → (after : List (List ℕ)) →
      AllZip (λ (l : List ℕ) (node : Node). SaysNode items move.net (pieces_of l) (as_said items node)) (line ∷ after) more →
      Fill (IsRightNode items move) left more end → ⊥
  stops_there s line later left verdict [] end out after said fills = said
  stops_there s line later [] verdict (n ∷ more) end out after said fills = fills
  stops_there s line later (p ∷ left) (Closed b l) (n ∷ more) end out after said fills = out.0
  stops_there s line later (p ∷ left) (Unfinished u) (n ∷ more) end out after said fills = out.0
  stops_there s line later (p ∷ left) (Wrong m k) (n ∷ more) end out after said fills =
      no_wrong_words items move network p (pieces_of line) n said.0 fills.0 k out.1.wrong

  -- so none stops further on than another
  no_further : (lines : List (List ℕ)) (v w : Verdict) (s : Stops lines v) (t : Stops lines w) → length s.at.before < length t.at.before → ⊥
  no_further lines v w s t less = by_rest s.at.rest s.is s.outcome
    where
      says : List ℕ → Node → Type 0
      says l node = SaysNode items move.net (pieces_of l) (as_said items node)

      by_rest : (rest : List (List ℕ)) → lines ≡ s.at.before ++ rest → Outcome (right_front s.at.before rest s.at.nodes s.at.left) v → ⊥
      by_rest [] is out =
          omega (arith, less, ap length (sym is ∙ t.is), length-append s.at.before [], length-append t.at.before t.at.rest)
      by_rest (line ∷ later) is out =
          let after = take (length t.at.before - length s.at.before - 1) later in
          let parts = said_parts says s.at.before (line ∷ after) t.at.nodes
          (subst (λ (l : List (List ℕ)). AllZip says l t.at.nodes) (longer s.at.before line later t.at.before t.at.rest (sym is ∙ t.is) less) t.right.said) in
          let fills = fills_on (IsRightNode items move) (base_of items (length move.net) ∷ []) parts.front parts.rest t.at.left
          (subst (λ (ns : List Node). Fill (IsRightNode items move) (base_of items (length move.net) ∷ []) ns t.at.left) parts.is t.right.fills) in
          let front : parts.front ≡ s.at.nodes = same_nodes s.at.before (base_of items (length move.net) ∷ []) parts.front s.at.nodes fills.0 s.at.left
          parts.first s.right.said fills.1 s.right.fills in
          let left : fills.0 ≡ s.at.left = one_left (IsRightNode items move) (base_of items (length move.net) ∷ []) s.at.nodes fills.0 s.at.left
          (subst (λ (ns : List Node). Fill (IsRightNode items move) (base_of items (length move.net) ∷ []) ns fills.0) front fills.1) s.right.fills in
          stops_there s.at line later s.at.left v parts.rest t.at.left out after parts.second
          (subst (λ (ps : List Place). Fill (IsRightNode items move) ps parts.rest t.at.left) left fills.2)

  same_length : (lines : List (List ℕ)) (v w : Verdict) (s : Stops lines v) (t : Stops lines w) → length s.at.before ≡ length t.at.before
  same_length lines v w s t =
      ⊎_elim (λ less. absurd (no_further lines v w s t less))
      (λ at_least. ⊎_elim (λ less. absurd (no_further lines w v t s less)) (λ at_most. omega (arith, at_least, at_most))
      (cases_lt (length t.at.before) (length s.at.before)))
      (cases_lt (length s.at.before) (length t.at.before))

  one_stop : (lines : List (List ℕ)) (v w : Verdict) → Stops lines v → Stops lines w → v ≡ w
  one_stop lines v w s t =
      let says : List ℕ → Node → Type 0 = λ (l : List ℕ) (node : Node). SaysNode items move.net (pieces_of l) (as_said items node) in
      let base : List Place = base_of items (length move.net) ∷ [] in
      let parts = same_front s.at.before t.at.before s.at.rest t.at.rest (sym s.is ∙ t.is) (same_length lines v w s t) in
      let nodes : s.at.nodes ≡ t.at.nodes = same_nodes t.at.before base s.at.nodes t.at.nodes s.at.left t.at.left
      (subst (λ (l : List (List ℕ)). AllZip says l s.at.nodes) parts.0 s.right.said) t.right.said s.right.fills t.right.fills in
      let left : s.at.left ≡ t.at.left = one_left (IsRightNode items move) base t.at.nodes s.at.left t.at.left
      (subst (λ (ns : List Node). Fill (IsRightNode items move) base ns s.at.left) nodes s.right.fills) t.right.fills in
      let one : s.at ≡ t.at = λ i. right_front (parts.0 i) (parts.1 i) (nodes i) (left i) in
      one_outcome t.at v w (subst (λ (x : RightFront). Outcome x v) one s.outcome) t.outcome

  -- the lines are right somewhere, and the verdict is what follows
  wrong_stops : (lines : List (List ℕ)) (place : ℕ) (kind : WrongKind) → IsWrongAt items move lines place kind → (line : ℕ) → line ≡ place + first →
      Stops lines (Wrong line kind)
  wrong_stops lines place kind (wrong_there before x after nodes at left k is right low) line n =
      record { at = right_front before (x ∷ after) nodes (at ∷ left); is = is; right = right; outcome = (n, low) }
  wrong_stops lines place kind (after_tree before x after nodes is right) line n =
      record { at = right_front before (x ∷ after) nodes []; is = is; right = right; outcome = (n, refl) }
  wrong_stops lines place kind (ends_early nodes at left right) line n =
      record { at = right_front lines [] nodes (at ∷ left); is = sym (append-nil lines); right = right; outcome = (n, refl) }

  stops : (lines : List (List ℕ)) (verdict : Verdict) → IsLinesVerdict items move first lines verdict → Stops lines verdict
  stops lines (Closed b l) is = record {
    at = right_front lines [] is.nodes [];
    is = sym (append-nil lines);
    right = is.right;
    outcome = (tt, is.visited, is.branches_are, is.leaves_are);
  }
  stops lines (Unfinished u) is = record {
    at = right_front lines [] is.nodes [];
    is = sym (append-nil lines);
    right = is.right;
    outcome = (tt, is.some, is.unvisited_are);
  }
  stops lines (Wrong line kind) is = wrong_stops lines is.place kind is.wrong line is.line_is

  pub one_lines_verdict : (lines : List (List ℕ)) (one other : Verdict) → IsLinesVerdict items move first lines one →
      IsLinesVerdict items move first lines other → one ≡ other
  one_lines_verdict lines one other is too = one_stop lines one other (stops lines one is) (stops lines other too)

-- Texts behind a header

module _ (items : Items) (move : Migration) (can : CanRank items move) (network : IsNetwork move.net) (header : List ℕ) where
  -- the first line is no header, or the lines behind it have a verdict
  data Judged (text : List ℕ) (verdict : Verdict) : Type 0 where
    no_header : ((lines : List (List ℕ)) → ¬ (line_texts text ≡ header ∷ lines)) → verdict ≡ Wrong 1 Form → Judged text verdict
    behind : StandsBehind (header ∷ []) text (λ lines. IsLinesVerdict items move 2 lines verdict) → Judged text verdict

  judged : (text : List ℕ) (verdict : Verdict) → IsHeadedVerdict items header move text verdict → Judged text verdict
  judged text (Closed b l) is = behind is
  judged text (Unfinished u) is = behind is
  judged text (Wrong line kind) (header_missing none) = no_header none refl
  judged text (Wrong line kind) (behind_header n k is) = behind is

  one_judged : (text : List ℕ) (v w : Verdict) → Judged text v → Judged text w → v ≡ w
  one_judged text v w (no_header none is) (no_header more also) = is ∙ sym also
  one_judged text v w (no_header none is) (behind other) = absurd (none other.lines other.text_is)
  one_judged text v w (behind one) (no_header none is) = absurd (none one.lines one.text_is)
  one_judged text v w (behind one) (behind other) =
      one_lines_verdict items move can network 2 other.lines v w
      (subst (λ (l : List (List ℕ)). IsLinesVerdict items move 2 l v) (later_words header header one.lines other.lines (sym one.text_is ∙ other.text_is))
      one.holds) other.holds

  pub one_headed : (text : List ℕ) (one other : Verdict) → IsHeadedVerdict items header move text one → IsHeadedVerdict items header move text other →
      one ≡ other
  one_headed text one other first second = one_judged text one other (judged text one first) (judged text other second)

pub one_verdict : (move : Migration) → IsNetwork move.net → (text : List ℕ) (one other : Verdict) → IsTextVerdict move text one →
    IsTextVerdict move text other → one ≡ other
one_verdict move network = one_headed Routers move tt network tree_header
