-- How a chain changes where a node is put in or taken out.
use Rattle.std.proofs.lemmas.Grind.{common_steps}
use Rattle.std.proofs.Common.{◌≡◌, ◌≢◌, ℕ, zero, suc, ◌<◌, List, [], ◌∷◌, ◌++◌, length, Option, Some, None, set, refl, sym, ap}
use Rattle.std.proofs.Common.{◌∙◌, subst, arith}
use Rattle.std.proofs.lemmas.List.{get_or-set_same, get_or-set_other, length-set}
use Rattle.link_trail.specs.declared.chain.Node.{Node}
use Rattle.link_trail.specs.declared.chain.Ends.{Ends}
use Rattle.link_trail.specs.Lists.{first_node, first_or}
use Rattle.link_trail.specs.Chains.{stretch_between, free_node, node_at, ends_at, no_ends, last_or, last_node, IsNoneOf, IsDistinct, AreChained}
use Rattle.link_trail.specs.steps.Splices.{with_first, with_last, with_next, with_previous}

-- the ends of joined lists
pub first-append : (before after : List ℕ) (next : Option ℕ) →
    first_or (before ++ after) next ≡ first_or before (first_or after next)
first-append before after next = grind (arith, common_steps)

pub last-append : (previous : Option ℕ) (before after : List ℕ) →
    last_or previous (before ++ after) ≡ last_or (last_or previous before) after
last-append previous [] after = refl
last-append previous (x ∷ before) after = last-append (Some x) before after

pub last-some : (x : ℕ) (xs : List ℕ) → (z : ℕ) × (last_or (Some x) xs ≡ Some z)
last-some x [] = (x, refl)
last-some x (y ∷ xs) = last-some y xs

-- nodes that are none of a list
pub none-append : (z : ℕ) (before after : List ℕ) → IsNoneOf z (before ++ after) → IsNoneOf z before × IsNoneOf z after
none-append z [] after h = (tt, h)
none-append z (x ∷ before) after h =
    let ih = none-append z before after h.1 in ((h.0, ih.0), ih.1)

pub none-put : (z x : ℕ) (before after : List ℕ) → IsNoneOf z (before ++ after) → z ≢ x → IsNoneOf z (before ++ x ∷ after)
none-put z x [] after h ne = (ne, h)
none-put z x (y ∷ before) after h ne = (h.0, none-put z x before after h.1 ne)

pub none-out : (z x : ℕ) (before after : List ℕ) → IsNoneOf z (before ++ x ∷ after) → IsNoneOf z (before ++ after) × (z ≢ x)
none-out z x [] after h = (h.1, h.0)
none-out z x (y ∷ before) after h =
    let ih = none-out z x before after h.1 in ((h.0, ih.0), ih.1)

-- distinct nodes
pub distinct-left : (before after : List ℕ) → IsDistinct (before ++ after) → IsDistinct before
distinct-left [] after h = tt
distinct-left (x ∷ before) after h = ((none-append x before after h.0).0, distinct-left before after h.1)

pub distinct-right : (before after : List ℕ) → IsDistinct (before ++ after) → IsDistinct after
distinct-right [] after h = h
distinct-right (x ∷ before) after h = distinct-right before after h.1

pub distinct-put : (x : ℕ) (before after : List ℕ) → IsDistinct (before ++ after) → IsNoneOf x (before ++ after) →
    IsDistinct (before ++ x ∷ after)
distinct-put x [] after h n = (n, h)
distinct-put x (y ∷ before) after h n =
    (none-put y x before after h.0 (λ e. n.0 (sym e)), distinct-put x before after h.1 n.1)

pub distinct-out : (x : ℕ) (before after : List ℕ) → IsDistinct (before ++ x ∷ after) →
    IsDistinct (before ++ after) × IsNoneOf x (before ++ after)
distinct-out x [] after h = (h.1, h.0)
distinct-out x (y ∷ before) after h =
    let ih = distinct-out x before after h.1 in
    let o = none-out y x before after h.0 in
    ((o.0, ih.0), (λ e. o.1 (sym e), ih.1))

-- the last of the nodes before is none of those after, and the first after none of those before
pub last-apart : (before after : List ℕ) → IsDistinct (before ++ after) → (z : ℕ) → last_node before ≡ Some z → IsNoneOf z after
last-apart [] after h z e = absurd (let k : Some z ≡ None = sym e in cc)
last-apart (x ∷ []) after h z e = subst (λ w. IsNoneOf w after) (let k : x ≡ z = cc in k) h.0
last-apart (x ∷ y ∷ before) after h z e = last-apart (y ∷ before) after h.1 z e

pub first-apart : (before after : List ℕ) → IsDistinct (before ++ after) → (z : ℕ) → first_node after ≡ Some z → IsNoneOf z before
first-apart [] after h z e = tt
first-apart (x ∷ before) [] h z e = absurd (let k : Some z ≡ None = sym e in cc)
first-apart (x ∷ before) (y ∷ after) h z e =
    (λ k. (none-out x y before after h.0).1 (let q : x ≡ y = cc in q), first-apart before (y ∷ after) h.1 z e)

-- a node that is none of the nodes is not the last or the first of them
pub none-last : (z w : ℕ) (xs : List ℕ) → IsNoneOf z xs → last_node xs ≡ Some w → z ≢ w
none-last z w [] h e = λ k. (let q : ⊥ = cc in q)
none-last z w (x ∷ []) h e = λ k. h.0 (let q : z ≡ x = cc in q)
none-last z w (x ∷ y ∷ xs) h e = none-last z w (y ∷ xs) h.1 e

pub none-first : (z w : ℕ) (xs : List ℕ) → IsNoneOf z xs → first_node xs ≡ Some w → z ≢ w
none-first z w xs h e = grind (arith, common_steps)

-- the nodes of a chain stand in its list
pub last-list : (nodes : List Node) (list : ℕ) (previous : Option ℕ) (xs : List ℕ) (next : Option ℕ) →
    AreChained nodes (stretch_between list previous next) xs → (z : ℕ) → last_node xs ≡ Some z → (node_at nodes z).list ≡ Some list
last-list nodes list previous [] next h z e = absurd (let k : Some z ≡ None = sym e in cc)
last-list nodes list previous (x ∷ []) next h z e =
    subst (λ w. (node_at nodes w).list ≡ Some list) (let k : x ≡ z = cc in k) (ap (λ (n : Node). n.list) h.0)
last-list nodes list previous (x ∷ y ∷ xs) next h z e = last-list nodes list (Some x) (y ∷ xs) next h.1 z e

pub first-list : (nodes : List Node) (list : ℕ) (previous : Option ℕ) (xs : List ℕ) (next : Option ℕ) →
    AreChained nodes (stretch_between list previous next) xs → (z : ℕ) → first_node xs ≡ Some z → (node_at nodes z).list ≡ Some list
first-list nodes list previous xs next h z e = grind (arith, common_steps)

pub other-list : (nodes : List Node) (list : ℕ) (previous : Option ℕ) (xs : List ℕ) (next : Option ℕ) →
    AreChained nodes (stretch_between list previous next) xs → (z : ℕ) → (node_at nodes z).list ≢ Some list → IsNoneOf z xs
other-list nodes list previous [] next h z ne = tt
other-list nodes list previous (x ∷ xs) next h z ne = (
  λ e. ne (ap (λ w. (node_at nodes w).list) e ∙ ap (λ (n : Node). n.list) h.0),
  other-list nodes list (Some x) xs next h.1 z ne,
)

-- a node that stands in a list is one of the nodes
pub linked-in_range : (nodes : List Node) (list z : ℕ) → (node_at nodes z).list ≡ Some list → z < length nodes
linked-in_range [] list z e = absurd (let k : Some list ≡ None = sym e in cc)
linked-in_range (n ∷ nodes) list zero e = omega arith
linked-in_range (n ∷ nodes) list (suc z) e = omega (arith, linked-in_range nodes list z e)

-- what a write leaves of the other nodes
pub next-other : (nodes : List Node) (o w : Option ℕ) (x : ℕ) → ((z : ℕ) → o ≡ Some z → x ≢ z) →
    node_at (with_next nodes o w) x ≡ node_at nodes x
next-other nodes o w x ne = grind (arith, common_steps, get_or-set_other)

pub previous-other : (nodes : List Node) (o w : Option ℕ) (x : ℕ) → ((z : ℕ) → o ≡ Some z → x ≢ z) →
    node_at (with_previous nodes o w) x ≡ node_at nodes x
previous-other nodes o w x ne = grind (arith, common_steps, get_or-set_other)

pub length-next : (nodes : List Node) (o w : Option ℕ) → length (with_next nodes o w) ≡ length nodes
length-next nodes o w = grind (arith, common_steps, length-set)

pub length-previous : (nodes : List Node) (o w : Option ℕ) → length (with_previous nodes o w) ≡ length nodes
length-previous nodes o w = grind (arith, common_steps, length-set)

-- a chain stays where the write is to none of its nodes
pub chained-set : (nodes : List Node) (list : ℕ) (previous : Option ℕ) (xs : List ℕ) (next : Option ℕ) (z : ℕ) (v : Node) →
    IsNoneOf z xs → AreChained nodes (stretch_between list previous next) xs → AreChained (set nodes z v) (stretch_between list previous next) xs
chained-set nodes list previous [] next z v n h = tt
chained-set nodes list previous (x ∷ xs) next z v n h =
    (get_or-set_other nodes z x v free_node (λ e. n.0 (sym e)) ∙ h.0, chained-set nodes list (Some x) xs next z v n.1 h.1)

pub chained-next : (nodes : List Node) (list : ℕ) (previous : Option ℕ) (xs : List ℕ) (next : Option ℕ) (o w : Option ℕ) →
    ((z : ℕ) → o ≡ Some z → IsNoneOf z xs) → AreChained nodes (stretch_between list previous next) xs →
    AreChained (with_next nodes o w) (stretch_between list previous next) xs
chained-next nodes list previous xs next o w n h = grind (arith, common_steps, chained-set)

pub chained-previous : (nodes : List Node) (list : ℕ) (previous : Option ℕ) (xs : List ℕ) (next : Option ℕ) (o w : Option ℕ) →
    ((z : ℕ) → o ≡ Some z → IsNoneOf z xs) → AreChained nodes (stretch_between list previous next) xs →
    AreChained (with_previous nodes o w) (stretch_between list previous next) xs
chained-previous nodes list previous xs next o w n h = grind (arith, common_steps, chained-set)

-- parts of a chain
pub chained-left : (nodes : List Node) (list : ℕ) (previous : Option ℕ) (before after : List ℕ) (next : Option ℕ) →
    AreChained nodes (stretch_between list previous next) (before ++ after) → AreChained nodes (stretch_between list previous (first_or after next)) before
chained-left nodes list previous [] after next h = tt
chained-left nodes list previous (x ∷ before) after next h = (
  subst (λ (o : Option ℕ). node_at nodes x ≡ record { list = Some list; previous = previous; next = o }) (first-append before after next) h.0,
  chained-left nodes list (Some x) before after next h.1,
)

pub chained-right : (nodes : List Node) (list : ℕ) (previous : Option ℕ) (before after : List ℕ) (next : Option ℕ) →
    AreChained nodes (stretch_between list previous next) (before ++ after) → AreChained nodes (stretch_between list (last_or previous before) next) after
chained-right nodes list previous [] after next h = h
chained-right nodes list previous (x ∷ before) after next h = chained-right nodes list (Some x) before after next h.1

pub chained-join : (nodes : List Node) (list : ℕ) (previous : Option ℕ) (before after : List ℕ) (next : Option ℕ) →
    AreChained nodes (stretch_between list previous (first_or after next)) before →
    AreChained nodes (stretch_between list (last_or previous before) next) after →
    AreChained nodes (stretch_between list previous next) (before ++ after)
chained-join nodes list previous [] after next h k = k
chained-join nodes list previous (x ∷ before) after next h k = (
  subst (λ (o : Option ℕ). node_at nodes x ≡ record { list = Some list; previous = previous; next = o }) (sym (first-append before after next)) h.0,
  chained-join nodes list (Some x) before after next h.1 k,
)

-- a chain that goes on elsewhere after its last node, and one that comes from elsewhere before its first
pub chained-onward : (nodes : List Node) (list : ℕ) (previous : Option ℕ) (xs : List ℕ) (next onward : Option ℕ) →
    IsDistinct xs → AreChained nodes (stretch_between list previous next) xs →
    AreChained (with_next nodes (last_node xs) onward) (stretch_between list previous onward) xs
chained-onward nodes list previous [] next onward d h = tt
chained-onward nodes list previous (x ∷ []) next onward d h = (
  get_or-set_same nodes x _ free_node (linked-in_range nodes list x (ap (λ (n : Node). n.list) h.0))
      ∙ ap (λ (n : Node). let r : Node = record { list = n.list; previous = n.previous; next = onward } in r) h.0,
  tt,
)
chained-onward nodes list previous (x ∷ y ∷ xs) next onward d h = (
  next-other nodes (last_node (y ∷ xs)) onward x (λ z e. none-last x z (y ∷ xs) d.0 e) ∙ h.0,
  chained-onward nodes list (Some x) (y ∷ xs) next onward d.1 h.1,
)

pub chained-origin : (nodes : List Node) (list : ℕ) (previous origin : Option ℕ) (xs : List ℕ) (next : Option ℕ) →
    IsDistinct xs → AreChained nodes (stretch_between list previous next) xs →
    AreChained (with_previous nodes (first_node xs) origin) (stretch_between list origin next) xs
chained-origin nodes list previous origin xs next d h =
    grind (arith, common_steps, chained-set, get_or-set_same, linked-in_range)

-- the ends of the list after a write
pub ends-first : (ends : List Ends) (list : ℕ) (before : List ℕ) (or next : Option ℕ) → list < length ends →
    (ends_at ends list).first ≡ first_or before or →
    ends_at (with_first ends list (last_node before) next) list
    ≡ record { first = first_or before next; last = (ends_at ends list).last }
ends-first ends list [] or next l e = get_or-set_same ends list _ no_ends l
ends-first ends list (x ∷ before) or next l e =
    let s = last-some x before in
    subst (λ (o : Option ℕ). ends_at (with_first ends list o next) list ≡ record { first = Some x; last = (ends_at ends list).last })
    (sym s.1)
    (ap (λ (o : Option ℕ). let r : Ends = record { first = o; last = (ends_at ends list).last } in r) e)

pub ends-last : (ends : List Ends) (list : ℕ) (after : List ℕ) (or previous : Option ℕ) → list < length ends →
    (ends_at ends list).last ≡ last_or or after →
    ends_at (with_last ends list (first_node after) previous) list
    ≡ record { first = (ends_at ends list).first; last = last_or previous after }
ends-last ends list after or previous l e = grind (arith, common_steps, get_or-set_same)

pub first-other : (ends : List Ends) (list other : ℕ) (o w : Option ℕ) → other ≢ list →
    ends_at (with_first ends list o w) other ≡ ends_at ends other
first-other ends list other o w ne = grind (arith, common_steps, get_or-set_other)

pub last-other : (ends : List Ends) (list other : ℕ) (o w : Option ℕ) → other ≢ list →
    ends_at (with_last ends list o w) other ≡ ends_at ends other
last-other ends list other o w ne = grind (arith, common_steps, get_or-set_other)

pub length-first : (ends : List Ends) (list : ℕ) (o w : Option ℕ) → length (with_first ends list o w) ≡ length ends
length-first ends list o w = grind (arith, common_steps, length-set)

pub length-last : (ends : List Ends) (list : ℕ) (o w : Option ℕ) → length (with_last ends list o w) ≡ length ends
length-last ends list o w = grind (arith, common_steps, length-set)
