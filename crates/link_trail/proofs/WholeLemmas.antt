-- What holds of the fields of `Links` stays when a move is made or taken back.
use Rattle.std.proofs.lemmas.Grind.{common_steps}
use Rattle.std.proofs.Common.{◌≡◌, ℕ, zero, suc, ◌-◌, ◌<◌, ◌≤◌, Bool, true, false, cond, replicate, List, [], ◌∷◌}
use Rattle.std.proofs.Common.{◌++◌, length, Option, Some, None, get_or, set, take, drop, refl, sym, ap, ◌∙◌, subst, arith, append-nil}
use Rattle.std.proofs.Common.{append_assoc, take_all}
use Rattle.std.proofs.Math.Seq.{take-append_seam}
use Rattle.std.proofs.lemmas.List.{get_or_default, get_or-set_same, length-set, set-get_or}
use Rattle.std.specs.List.{Contains}
use Rattle.link_trail.proofs.ListLemmas.{absent-from_none, parts-at, unlinked-free, unlinked-one}
use Rattle.link_trail.specs.declared.chain.Node.{Node}
use Rattle.link_trail.specs.declared.chain.Ends.{Ends}
use Rattle.link_trail.specs.declared.moves.Move.{Move}
use Rattle.link_trail.specs.declared.moves.Move.TheVariants.{Linked, Unlinked}
use Rattle.link_trail.specs.Lists.{first_node, first_or, IsApart, IsFree, IsLinked, linked, list_at, unlinked}
use Rattle.link_trail.specs.Chains.{stretch_between, free_node, node_at, ends_at, last_node, AreChained, IsDistinct, ShowsLists}
use Rattle.link_trail.specs.steps.Splices.{kept, next_after, PutsBetween, TakesOut}
use Rattle.link_trail.specs.Moves.{lists_after, no_lists, StoodAfter, AreLinks}
use Rattle.link_trail.specs.steps.Undoing.{IsLatest, TakesBack}
use Rattle.link_trail.proofs.ChainLemmas.{distinct-out, last-list, first-list, linked-in_range, chained-left, chained-right, last-some}
use Rattle.link_trail.proofs.SpliceLemmas.{elsewhere, ShowsLists-node}
use Rattle.link_trail.proofs.MoveLemmas.{after-more, fit-more, fit-front, fit-last, fit-wider, last-next}

set-set : {A : Type 0} (xs : List A) (i : ℕ) (a b : A) → set (set xs i a) i b ≡ set xs i b
set-set [] i a b = refl
set-set (x ∷ xs) zero a b = refl
set-set (x ∷ xs) (suc i) a b = ap (λ ys. x ∷ ys) (set-set xs i a b)

-- a vector whose elements were all written
pub refilled : {A : Type 0} (n : ℕ) (ws xs : List A) → length ws ≡ n → take n (ws ++ drop (length ws) xs) ≡ ws
refilled n ws xs e = subst (λ k. take k (ws ++ drop (length ws) xs) ≡ ws) e (take-append_seam ws (drop (length ws) xs))

-- a read that is in range is the same with each default
pub read : {A : Type 0} (xs : List A) (i : ℕ) (r d : A) → i < length xs → r ≡ get_or xs i r → get_or xs i d ≡ r
read xs i r d l e = get_or_default xs i d r l ∙ sym e

-- the neighbors of a node are nodes
pub previous-in_range : (nodes : List Node) (ends : List Ends) (lists : List (List ℕ)) (list : ℕ) (before after : List ℕ) →
    ShowsLists nodes ends lists → list_at lists list ≡ before ++ after → list < length lists →
    (p : ℕ) → last_node before ≡ Some p → p < length nodes
previous-in_range nodes ends lists list before after shows is l p e =
    let s = subst (λ ys. AreChained nodes (stretch_between list None None) ys) is (shows.each list l).chained in
    linked-in_range nodes list p
    (last-list nodes list None before (first_or after None) (chained-left nodes list None before after None s) p e)

pub next-in_range : (nodes : List Node) (ends : List Ends) (lists : List (List ℕ)) (list : ℕ) (before after : List ℕ) →
    ShowsLists nodes ends lists → list_at lists list ≡ before ++ after → list < length lists →
    (n : ℕ) → first_node after ≡ Some n → n < length nodes
next-in_range nodes ends lists list before after shows is l n e =
    let s = subst (λ ys. AreChained nodes (stretch_between list None None) ys) is (shows.each list l).chained in
    linked-in_range nodes list n
    (first-list nodes list (last_node before) after None (chained-right nodes list None before after None s) n e)

-- the node after a place between two neighbors
pub next_after-is : (nodes : List Node) (ends : List Ends) (lists : List (List ℕ)) (list : ℕ) (before after : List ℕ) →
    ShowsLists nodes ends lists → list_at lists list ≡ before ++ after → list < length lists →
    next_after nodes ends list (last_node before) ≡ first_node after
next_after-is nodes ends lists list [] after shows is l = (shows.each list l).first ∙ ap first_node is
next_after-is nodes ends lists list (x ∷ before) after shows is l =
    let s = subst (λ ys. AreChained nodes (stretch_between list None None) ys) is (shows.each list l).chained in
    let z = last-some x before in
    subst (λ o. next_after nodes ends list o ≡ first_node after) (sym z.1)
    (last-next nodes list None (x ∷ before) (first_node after)
    (chained-left nodes list None (x ∷ before) after None s) z.0 z.1)

-- where a linked node stands
pub record Stands (nodes : List Node) (ends : List Ends) (lists : List (List ℕ)) (node : ℕ) : Type 0 where
  pub list : ℕ
  pub before : List ℕ
  pub after : List ℕ
  pub list_in_range : list < length lists
  pub node_in_range : node < length nodes
  pub stood : list_at lists list ≡ before ++ node ∷ after
  pub is : node_at nodes node ≡ record { list = Some list; previous = last_node before; next = first_node after }
  pub alone : unlinked lists node ≡ set lists list (before ++ after)

pub stands-at : (nodes : List Node) (ends : List Ends) (lists : List (List ℕ)) (node list : ℕ) (before after : List ℕ) →
    ShowsLists nodes ends lists → list < length lists → list_at lists list ≡ before ++ node ∷ after → Stands nodes ends lists node
stands-at nodes ends lists node list before after shows l stood =
    let is = ShowsLists-node nodes ends lists list node before after shows stood l in
    let own : (node_at nodes node).list ≡ Some list = ap (λ (n : Node). n.list) is in
    record {
      list = list;
      before = before;
      after = after;
      list_in_range = l;
      node_in_range = linked-in_range nodes list node own;
      stood = stood;
      is = is;
      alone = unlinked-one lists list node before after l stood
          (distinct-out node before after (subst (λ ys. IsDistinct ys) stood (shows.each list l).distinct)).1
          (λ other ne lo. elsewhere nodes list other (list_at lists other) node ne (shows.each other lo).chained own);
    }

pub stands : (nodes : List Node) (ends : List Ends) (lists : List (List ℕ)) (node : ℕ) →
    ShowsLists nodes ends lists → IsLinked lists node → Stands nodes ends lists node
stands nodes ends lists node shows linked =
    let parts = parts-at node (list_at lists linked.0) linked.2 in
    stands-at nodes ends lists node linked.0 parts.0 parts.1 shows linked.1 parts.2

-- the list that a node knows is the one that contains it
stands-list : (nodes : List Node) (ends : List Ends) (lists : List (List ℕ)) (node list : ℕ) → ShowsLists nodes ends lists →
    list < length lists → Contains (list_at lists list) node → (node_at nodes node).list ≡ Some list
stands-list nodes ends lists node list shows l here =
    let parts = parts-at node (list_at lists list) here in
    ap (λ (n : Node). n.list) (ShowsLists-node nodes ends lists list node parts.0 parts.1 shows parts.2 l)

-- no node is shown twice
pub ShowsLists-apart : (nodes : List Node) (ends : List Ends) (lists : List (List ℕ)) → ShowsLists nodes ends lists → IsApart lists
ShowsLists-apart nodes ends lists shows = record {
  one_list = λ node list other l lo here there.
      let at : Some list ≡ Some other =
      sym (stands-list nodes ends lists node list shows l here)
      ∙ stands-list nodes ends lists node other shows lo there in cc;
  once = λ node list before after l is. absent-from_none node (before ++ after)
      (distinct-out node before after (subst (λ ys. IsDistinct ys) is (shows.each list l).distinct)).1;
}

-- a node is linked
pub links-linked : (nodes nodes' : List Node) (ends ends' : List Ends) (moves : List Move) (list node : ℕ) →
    AreLinks nodes ends moves → list < length ends →
    IsFree (lists_after (no_lists (length ends)) moves) node →
    PutsBetween (kept nodes ends) (kept nodes' ends') (stretch_between list (ends_at ends list).last None) node →
    length nodes' ≡ length nodes → length ends' ≡ length ends → AreLinks nodes' ends' (moves ++ Linked list node ∷ [])
links-linked nodes nodes' ends ends' moves list node whole l free puts ln le =
    let start = no_lists (length ends) in
    let lists = lists_after start moves in
    let ll : list < length lists = omega (arith, whole.shown.count) in
    let shown : ShowsLists nodes' ends' (linked lists list node) =
    puts.shows lists (list_at lists list) [] whole.shown free (sym (append-nil (list_at lists list)))
    (sym (whole.shown.each list ll).last) refl in
    record {
      shown = rw (le, after-more start moves (Linked list node)) shown;
      fit = rw (le, ln) (fit-more (length nodes) start moves (Linked list node) whole.fit ll);
    }

-- a node is unlinked
pub links-unlinked : (nodes nodes' : List Node) (ends ends' : List Ends) (moves : List Move) (list node : ℕ) (previous : Option ℕ) →
    AreLinks nodes ends moves →
    IsLinked (lists_after (no_lists (length ends)) moves) node →
    (node_at nodes node).list ≡ Some list → (node_at nodes node).previous ≡ previous →
    TakesOut (kept nodes ends) (kept nodes' ends') list node →
    length nodes' ≡ length nodes → length ends' ≡ length ends → AreLinks nodes' ends' (moves ++ Unlinked list node previous ∷ [])
links-unlinked nodes nodes' ends ends' moves list node previous whole linked own own' takes ln le =
    let start = no_lists (length ends) in
    let lists = lists_after start moves in
    let s = stands nodes ends lists node whole.shown linked in
    let same : s.list ≡ list = (let e : Some s.list ≡ Some list = sym (ap (λ (n : Node). n.list) s.is) ∙ own in cc) in
    let stood : list_at lists list ≡ s.before ++ node ∷ s.after = subst (λ k. list_at lists k ≡ s.before ++ node ∷ s.after) same s.stood in
    let alone : unlinked lists node ≡ set lists list (s.before ++ s.after) =
    subst (λ k. unlinked lists node ≡ set lists k (s.before ++ s.after)) same s.alone in
    let shown : ShowsLists nodes' ends' (unlinked lists node) =
    subst (λ ls. ShowsLists nodes' ends' ls) (sym alone) (takes.shows lists s.before s.after whole.shown stood) in
    let fits : StoodAfter lists list node previous = record {
      before = s.before;
      after = s.after;
      list_in_range = omega (arith, s.list_in_range);
      stood = stood;
      follows = sym (ap (λ (n : Node). n.previous) s.is) ∙ own';
      alone = alone;
    } in
    record {
      shown = rw (le, after-more start moves (Unlinked list node previous)) shown;
      fit = rw (le, ln) (fit-more (length nodes) start moves (Unlinked list node previous) whole.fit (s.node_in_range, fits));
    }

-- taking back a link
pub take_back-linked : (nodes nodes' : List Node) (ends ends' : List Ends) (list node : ℕ) →
    TakesOut (kept nodes ends) (kept nodes' ends') list node → TakesBack (kept nodes ends) (kept nodes' ends') (Linked list node)
take_back-linked nodes nodes' ends ends' list node takes = record {
  shows = λ lists l shown.
      let last : List ℕ = list_at lists list ++ node ∷ [] in
      subst (λ ls. ShowsLists nodes' ends' ls)
      (set-set lists list last (list_at lists list ++ [])
      ∙ ap (λ ys. set lists list ys) (append-nil (list_at lists list)) ∙ set-get_or lists list [])
      (takes.shows (linked lists list node) (list_at lists list) [] shown (get_or-set_same lists list last [] l));
}

-- taking back an unlink
pub take_back-unlinked : (nodes nodes' : List Node) (ends ends' : List Ends) (list node : ℕ) (previous next : Option ℕ) →
    next ≡ next_after nodes ends list previous → PutsBetween (kept nodes ends) (kept nodes' ends') (stretch_between list previous next) node →
    TakesBack (kept nodes ends) (kept nodes' ends') (Unlinked list node previous)
take_back-unlinked nodes nodes' ends ends' list node previous next en puts = record {
  shows = λ lists fits shown.
      let f = fits.1 in
      let rest : List ℕ = f.before ++ f.after in
      let shown' : ShowsLists nodes ends (set lists list rest) = subst (λ ls. ShowsLists nodes ends ls) f.alone shown in
      let free : IsFree (set lists list rest) node = subst (λ ls. IsFree ls node) f.alone (unlinked-free lists node) in
      let here : list_at (set lists list rest) list ≡ rest = get_or-set_same lists list rest [] f.list_in_range in
      let l : list < length (set lists list rest) = omega (arith, f.list_in_range, length-set lists list rest) in
      let first : first_node f.after ≡ next =
      sym (next_after-is nodes ends (set lists list rest) list f.before f.after shown' here l)
      ∙ ap (λ o. next_after nodes ends list o) f.follows ∙ sym en in
      subst (λ ls. ShowsLists nodes' ends' ls)
      (set-set lists list rest (f.before ++ node ∷ f.after)
      ∙ ap (λ ys. set lists list ys) (sym f.stood) ∙ set-get_or lists list [])
      (puts.shows (set lists list rest) f.before f.after shown' free here f.follows first);
}

-- the latest move is taken back
pub latest : (nodes : List Node) (ends : List Ends) (all moves : List Move) (move : Move) →
    all ≡ moves ++ move ∷ [] → AreLinks nodes ends all → IsLatest nodes ends move
latest nodes ends all moves move e w = grind (arith, common_steps, after-more, fit-last)

pub links-back : (nodes nodes' : List Node) (ends ends' : List Ends) (all moves : List Move) (move : Move) →
    all ≡ moves ++ move ∷ [] → AreLinks nodes ends all → TakesBack (kept nodes ends) (kept nodes' ends') move →
    length nodes' ≡ length nodes → length ends' ≡ length ends → AreLinks nodes' ends' moves
links-back nodes nodes' ends ends' all moves move e w back ln le =
    grind (arith, common_steps, after-more, fit-front, fit-last)

-- what a node's taking out asks for
pub record IsPlaced (nodes : List Node) (ends : List Ends) (list node : ℕ) : Type 0 where
  pub list_in_range : list < length ends
  pub node_in_range : node < length nodes
  pub previous_in_range : (p : ℕ) → (node_at nodes node).previous ≡ Some p → p < length nodes
  pub next_in_range : (n : ℕ) → (node_at nodes node).next ≡ Some n → n < length nodes

pub placed-at : (nodes : List Node) (ends : List Ends) (lists : List (List ℕ)) (list node : ℕ) (before after : List ℕ) →
    ShowsLists nodes ends lists → list < length lists → list_at lists list ≡ before ++ node ∷ after → IsPlaced nodes ends list node
placed-at nodes ends lists list node before after shows l stood =
    let is = ShowsLists-node nodes ends lists list node before after shows stood l in
    record {
      list_in_range = omega (arith, shows.count);
      node_in_range = linked-in_range nodes list node (ap (λ (n : Node). n.list) is);
      previous_in_range = λ p e. previous-in_range nodes ends lists list before (node ∷ after) shows stood l p
          (sym (ap (λ (n : Node). n.previous) is) ∙ e);
      next_in_range = λ n e. next-in_range nodes ends lists list (before ++ node ∷ []) after shows
          (stood ∙ sym (append_assoc before (node ∷ []) after)) l n (sym (ap (λ (n : Node). n.next) is) ∙ e);
    }

-- what a node's putting in asks for
pub record IsGap (nodes : List Node) (ends : List Ends) (list : ℕ) (previous : Option ℕ) : Type 0 where
  pub list_in_range : list < length ends
  pub previous_in_range : (p : ℕ) → previous ≡ Some p → p < length nodes
  pub next_in_range : (n : ℕ) → next_after nodes ends list previous ≡ Some n → n < length nodes

pub gap-at : (nodes : List Node) (ends : List Ends) (lists : List (List ℕ)) (list : ℕ) (before after : List ℕ) →
    ShowsLists nodes ends lists → list < length lists → list_at lists list ≡ before ++ after → IsGap nodes ends list (last_node before)
gap-at nodes ends lists list before after shows l is = record {
  list_in_range = omega (arith, shows.count);
  previous_in_range = previous-in_range nodes ends lists list before after shows is l;
  next_in_range = λ n e. next-in_range nodes ends lists list before after shows is l n
      (sym (next_after-is nodes ends lists list before after shows is l) ∙ e);
}

pub placed-latest : (nodes : List Node) (ends : List Ends) (move : Move) (list node : ℕ) → move ≡ Linked list node →
    IsLatest nodes ends move → IsPlaced nodes ends list node
placed-latest nodes ends move list node e h =
    let is : IsLatest nodes ends (Linked list node) = subst (λ m. IsLatest nodes ends m) e h in
    let last : List ℕ = list_at is.lists list ++ node ∷ [] in
    placed-at nodes ends (linked is.lists list node) list node (list_at is.lists list) [] is.shown
    (omega (arith, is.fits, length-set is.lists list last)) (get_or-set_same is.lists list last [] is.fits)

pub gap-latest : (nodes : List Node) (ends : List Ends) (move : Move) (list node : ℕ) (previous : Option ℕ) →
    move ≡ Unlinked list node previous → IsLatest nodes ends move → IsGap nodes ends list previous × (node < length nodes)
gap-latest nodes ends move list node previous e h =
    let is : IsLatest nodes ends (Unlinked list node previous) = subst (λ m. IsLatest nodes ends m) e h in
    let f = is.fits.1 in
    let rest : List ℕ = f.before ++ f.after in (
      subst (λ o. IsGap nodes ends list o) f.follows
          (gap-at nodes ends (set is.lists list rest) list f.before f.after (subst (λ ls. ShowsLists nodes ends ls) f.alone is.shown)
          (omega (arith, f.list_in_range, length-set is.lists list rest))
          (get_or-set_same is.lists list rest [] f.list_in_range)),
      is.fits.0,
    )

-- the last node of a list is a node
pub last-in_range : (nodes : List Node) (ends : List Ends) (lists : List (List ℕ)) (list : ℕ) → ShowsLists nodes ends lists →
    list < length lists → (z : ℕ) → (ends_at ends list).last ≡ Some z → z < length nodes
last-in_range nodes ends lists list shows l z e =
    previous-in_range nodes ends lists list (list_at lists list) [] shows (sym (append-nil (list_at lists list))) l z
    (sym (shows.each list l).last ∙ e)

-- a linked node may be taken out
pub placed : (nodes : List Node) (ends : List Ends) (lists : List (List ℕ)) (node list : ℕ) → ShowsLists nodes ends lists →
    IsLinked lists node → (node_at nodes node).list ≡ Some list → IsPlaced nodes ends list node
placed nodes ends lists node list shows linked own =
    let s = stands nodes ends lists node shows linked in
    let same : s.list ≡ list = (let e : Some s.list ≡ Some list = sym (ap (λ (n : Node). n.list) s.is) ∙ own in cc) in
    subst (λ k. IsPlaced nodes ends k node) same
    (placed-at nodes ends lists s.list node s.before s.after shows s.list_in_range s.stood)

-- more nodes, none of them linked
free-all : (k z : ℕ) → get_or (replicate k free_node) z free_node ≡ free_node
free-all zero z = refl
free-all (suc k) zero = refl
free-all (suc k) (suc z) = free-all k z

wider-at : (nodes : List Node) (k z : ℕ) → node_at (nodes ++ replicate k free_node) z ≡ node_at nodes z
wider-at [] k z = free-all k z
wider-at (n ∷ nodes) k zero = refl
wider-at (n ∷ nodes) k (suc z) = wider-at nodes k z

chained-same : (nodes nodes' : List Node) → ((z : ℕ) → node_at nodes' z ≡ node_at nodes z) → (list : ℕ) (previous : Option ℕ)
    (xs : List ℕ) (next : Option ℕ) → AreChained nodes (stretch_between list previous next) xs → AreChained nodes' (stretch_between list previous next) xs
chained-same nodes nodes' same list previous [] next h = tt
chained-same nodes nodes' same list previous (x ∷ xs) next h = (same x ∙ h.0, chained-same nodes nodes' same list (Some x) xs next h.1)

pub links-wider : (nodes : List Node) (ends : List Ends) (moves : List Move) (k : ℕ) →
    AreLinks nodes ends moves → AreLinks (nodes ++ replicate k free_node) ends moves
links-wider nodes ends moves k whole = grind (arith, common_steps, chained-same, fit-wider, wider-at)

pub links-resized : (nodes nodes' : List Node) (ends : List Ends) (moves : List Move) (n m : ℕ) (b : Bool) →
    nodes' ≡ cond b (take n nodes ++ replicate (n - m) free_node) nodes → length nodes ≤ n →
    AreLinks nodes ends moves → AreLinks nodes' ends moves
links-resized nodes nodes' ends moves n m true e l whole =
    subst (λ ns. AreLinks ns ends moves) (ap (λ ns. ns ++ replicate (n - m) free_node) (sym (take_all n nodes l)) ∙ sym e)
    (links-wider nodes ends moves (n - m) whole)
links-resized nodes nodes' ends moves n m false e l whole =
    subst (λ ns. AreLinks ns ends moves) (sym e) whole
