-- Lists with a node put in or taken out, which lists contain a node, and where.
use Rattle.std.proofs.Common.{◌≡◌, ◌≢◌, ℕ, zero, suc, ◌<◌, List, [], ◌∷◌, ◌++◌, length, set, refl, sym, ap, subst, ⊎_elim, arith}
use Rattle.std.proofs.lemmas.List.{get_or-set_same, get_or-set_other, length-set}
use Rattle.std.proofs.lemmas.Bool.{cases_eq, eq-eqb, ne_eqb}
use Rattle.std.specs.List.{Contains}
use Rattle.link_trail.specs.Lists.{IsFree, linked, list_at, unlinked, without}
use Rattle.link_trail.specs.Chains.{IsNoneOf}

-- a node is none of a list exactly where the list doesn't contain it
pub none-from_absent : (z : ℕ) (xs : List ℕ) → (Contains xs z → ⊥) → IsNoneOf z xs
none-from_absent z [] absent = tt
none-from_absent z (x ∷ xs) absent = (
  λ e. absent (zero, omega arith, sym e),
  none-from_absent z xs (λ c. absent (suc c.0, omega (arith, c.1), c.2)),
)

pub absent-from_none : (z : ℕ) (xs : List ℕ) → IsNoneOf z xs → Contains xs z → ⊥
absent-from_none z [] n c = omega (arith, c.1)
absent-from_none z (x ∷ xs) n (zero, l, e) = n.0 (sym e)
absent-from_none z (x ∷ xs) n (suc k, l, e) = absent-from_none z xs n.1 (k, omega (arith, l), e)

pub free-none : (lists : List (List ℕ)) (z list : ℕ) → IsFree lists z → list < length lists → IsNoneOf z (list_at lists list)
free-none lists z list free l = none-from_absent z (list_at lists list) (free list l)

pub free-from_none : (lists : List (List ℕ)) (z : ℕ) → ((list : ℕ) → list < length lists → IsNoneOf z (list_at lists list)) →
    IsFree lists z
free-from_none lists z h = λ list l c. absent-from_none z (list_at lists list) (h list l) c

-- a node that is free once one list has changed was free before, where it wasn't in that list
pub free-before : (lists : List (List ℕ)) (z list : ℕ) (xs : List ℕ) → IsFree (set lists list xs) z →
    IsNoneOf z (list_at lists list) → IsFree lists z
free-before lists z list xs free here =
    free-from_none lists z (λ other l. ⊎_elim
    (λ (e : other ≡ list). subst (λ k. IsNoneOf z (list_at lists k)) (sym e) here)
    (λ (ne : other ≢ list). subst (λ ys. IsNoneOf z ys) (get_or-set_other lists list other xs [] ne)
    (free-none (set lists list xs) z other free (omega (arith, length-set lists list xs))))
    (cases_eq other list))

-- a list without a node
pub without-none : (node : ℕ) (xs : List ℕ) → IsNoneOf node xs → without node xs ≡ xs
without-none node [] n = refl
without-none node (x ∷ xs) n = rw (ne_eqb x node (λ e. n.0 (sym e))) (ap (λ ys. x ∷ ys) (without-none node xs n.1))

pub without-one : (node : ℕ) (before after : List ℕ) → IsNoneOf node (before ++ after) →
    without node (before ++ node ∷ after) ≡ before ++ after
without-one node [] after n = rw (eq-eqb node node refl) (without-none node after n)
without-one node (x ∷ before) after n =
    rw (ne_eqb x node (λ e. n.0 (sym e))) (ap (λ ys. x ∷ ys) (without-one node before after n.1))

pub none-without : (node : ℕ) (xs : List ℕ) → IsNoneOf node (without node xs)
none-without node [] = tt
none-without node (x ∷ xs) = ⊎_elim
    (λ (e : x ≡ node). rw (eq-eqb x node e) (none-without node xs))
    (λ (ne : x ≢ node). rw (ne_eqb x node ne) ((λ e. ne (sym e)), none-without node xs))
    (cases_eq x node)

pub unlinked-none : (lists : List (List ℕ)) (node : ℕ) →
    ((other : ℕ) → other < length lists → IsNoneOf node (list_at lists other)) → unlinked lists node ≡ lists
unlinked-none [] node n = refl
unlinked-none (xs ∷ lists) node n =
    rw (without-none node xs (n zero (omega arith)))
    (ap (λ ls. xs ∷ ls) (unlinked-none lists node (λ k l. n (suc k) (omega arith))))

-- the lists without a node that stands once, in one of them
pub unlinked-one : (lists : List (List ℕ)) (list node : ℕ) (before after : List ℕ) → list < length lists →
    list_at lists list ≡ before ++ node ∷ after → IsNoneOf node (before ++ after) →
    ((other : ℕ) → other ≢ list → other < length lists → IsNoneOf node (list_at lists other)) →
    unlinked lists node ≡ set lists list (before ++ after)
unlinked-one [] list node before after l is none others = absurd (omega arith)
unlinked-one (xs ∷ lists) zero node before after l is none others =
    rw (is, without-one node before after none)
    (ap (λ ls. (before ++ after) ∷ ls) (unlinked-none lists node (λ k lk. others (suc k) (omega arith) (omega arith))))
unlinked-one (xs ∷ lists) (suc list) node before after l is none others =
    rw (without-none node xs (others zero (omega arith) (omega arith)))
    (ap (λ ls. xs ∷ ls) (unlinked-one lists list node before after (omega arith) is none
    (λ k ne lk. others (suc k) (λ e. ne (omega arith)) (omega arith))))

pub unlinked-at : (lists : List (List ℕ)) (node list : ℕ) → list_at (unlinked lists node) list ≡ without node (list_at lists list)
unlinked-at [] node list = refl
unlinked-at (xs ∷ lists) node zero = refl
unlinked-at (xs ∷ lists) node (suc list) = unlinked-at lists node list

pub unlinked-free : (lists : List (List ℕ)) (node : ℕ) → IsFree (unlinked lists node) node
unlinked-free lists node = free-from_none (unlinked lists node) node
    (λ list l. subst (λ ys. IsNoneOf node ys) (sym (unlinked-at lists node list)) (none-without node (list_at lists list)))

-- where a list contains a node, the list parts there
pub parts-at : (node : ℕ) (xs : List ℕ) → Contains xs node → (before : List ℕ) × (after : List ℕ) × (xs ≡ before ++ node ∷ after)
parts-at node [] c = absurd (omega (arith, c.1))
parts-at node (x ∷ xs) (zero, l, e) = ([], xs, ap (λ y. y ∷ xs) e)
parts-at node (x ∷ xs) (suc k, l, e) =
    let ih = parts-at node xs (k, omega (arith, l), e) in (x ∷ ih.0, ih.1, ap (λ ys. x ∷ ys) ih.2)

-- the lists with a node at the end of one
pub length-linked : (lists : List (List ℕ)) (list node : ℕ) → length (linked lists list node) ≡ length lists
length-linked lists list node = length-set lists list (list_at lists list ++ node ∷ [])

pub linked-at : (lists : List (List ℕ)) (list node : ℕ) → list < length lists →
    list_at (linked lists list node) list ≡ list_at lists list ++ node ∷ []
linked-at lists list node l = get_or-set_same lists list (list_at lists list ++ node ∷ []) [] l

pub linked-other : (lists : List (List ℕ)) (list node other : ℕ) → other ≢ list →
    list_at (linked lists list node) other ≡ list_at lists other
linked-other lists list node other ne = get_or-set_other lists list other (list_at lists list ++ node ∷ []) [] ne
