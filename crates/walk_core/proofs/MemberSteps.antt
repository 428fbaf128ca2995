-- One more vertex is numbered, and what is known at places is spread to their vertices.
use Rattle.std.proofs.Common.{◌≡◌, ◌≢◌, ℕ, zero, suc, ◌+◌, ◌-◌, ◌<◌, ◌≤◌, ◌⊎◌, List, [], ◌∷◌, ◌++◌, Bool, true, false, length}
use Rattle.std.proofs.Common.{length-append, length-set, replicate, get_or, get_or-set_same, get_or-set_other, set}
use Rattle.std.proofs.Common.{arith, inl, inr, sym, ◌∙◌, subst, ap}
use Rattle.std.proofs.lemmas.Bool.{cases_lt, cases_eq}
use Rattle.std.proofs.lemmas.List.{get_or_append_left, get_or_push, get_or_past, get_or-replicate, length-replicate, set-append_right}
use Rattle.walk_core.specs.steps.Members.{Numbering, PlacesFit, AreVertices, HaveMarked, HasPlace, IsSpread, NumbersVertex, member_at}
use Rattle.walk_core.specs.steps.Members.{place_in}

-- one more vertex, behind the others, is a member
abbrev pub with_member : Numbering → ℕ → Numbering
with_member members vertex = record {
  count = members.count;
  places = set members.places vertex (length members.vertices);
  vertices = members.vertices ++ vertex ∷ [];
  end = vertex + 1;
}

pub place_other : (m : Numbering) (vertex v : ℕ) → v ≢ vertex → place_in (with_member m vertex) v ≡ place_in m v
place_other m vertex v apart = get_or-set_other m.places vertex v (length m.vertices) m.count apart

pub place_here : (m : Numbering) (vertex : ℕ) → vertex < length m.places →
    place_in (with_member m vertex) vertex ≡ length m.vertices
place_here m vertex below = get_or-set_same m.places vertex (length m.vertices) m.count below

member_before : (m : Numbering) (vertex p : ℕ) → p < length m.vertices →
    member_at (with_member m vertex).vertices p ≡ member_at m.vertices p
member_before m vertex p below = get_or_append_left m.vertices (vertex ∷ []) 0 p below

member_here : (m : Numbering) (vertex p : ℕ) → p ≡ length m.vertices → member_at (with_member m vertex).vertices p ≡ vertex
member_here m vertex p is = get_or_push m.vertices vertex 0 p (sym is)

long : (m : Numbering) (vertex : ℕ) → length (with_member m vertex).vertices ≡ length m.vertices + 1
long m vertex = omega (arith, length-append m.vertices (vertex ∷ []))

vertices_more : (m : Numbering) (vertex : ℕ) → PlacesFit m → m.end ≤ vertex →
    AreVertices (with_member m vertex).vertices (vertex + 1)
vertices_more m vertex are next = record {
  within = λ p below. elim (cases_lt p (length m.vertices)) [
    | inl less ↦ omega (arith, member_before m vertex p less, are.vertices.within p less, next)
    | inr not ↦ omega (arith, member_here m vertex p (omega (arith, not, below, long m vertex)))
  ];
  ascending = λ p q less below. elim (cases_lt q (length m.vertices)) [
    | inl earlier ↦
        omega (
          arith,
          member_before m vertex p
              (omega (arith, less, earlier)),
          member_before m vertex q earlier,
          are.vertices.ascending p q less earlier,
        )
    | inr not ↦
        let last : q ≡ length m.vertices = omega (arith, not, below, long m vertex) in
        let before : p < length m.vertices = omega (arith, less, last) in
        omega (arith, member_here m vertex q last, member_before m vertex p before, are.vertices.within p before, next)
  ];
}

others_more : (m : Numbering) (vertex : ℕ) → PlacesFit m → vertex < m.count → (v : ℕ) →
    HasPlace (with_member m vertex) v ⊎ (place_in (with_member m vertex) v ≡ m.count)
others_more m vertex are within v = elim (cases_eq v vertex) [
  | inl same ↦
      let here : place_in (with_member m vertex) v ≡ length m.vertices =
      ap (λ (w : ℕ). place_in (with_member m vertex) w) same ∙ place_here m vertex (omega (arith, within, are.long)) in
      inl (record {
        place = omega (arith, here, long m vertex);
        back = member_here m vertex
            (place_in (with_member m vertex) v) here ∙ sym same;
      })
  | inr apart ↦ elim (are.others v) [
    | inl is ↦ inl (record {
      place = omega (arith, place_other m vertex v apart, is.place, long m vertex);
      back = ap (λ (p : ℕ). member_at (with_member m vertex).vertices p) (place_other m vertex v apart)
          ∙ member_before m vertex (place_in m v) is.place ∙ is.back;
    })
    | inr none ↦ inr (place_other m vertex v apart ∙ none)
  ]
]

pub numbered_more : (m : Numbering) (vertex : ℕ) → PlacesFit m → m.end ≤ vertex → vertex < m.count →
    PlacesFit (with_member m vertex)
numbered_more m vertex are next within = record {
  long = length-set m.places vertex (length m.vertices) ∙ are.long;
  few = omega (arith, are.few, long m vertex, next);
  end = omega (arith, within);
  vertices = vertices_more m vertex are next;
  places = λ p below. elim (cases_lt p (length m.vertices)) [
    | inl less ↦
        let apart : member_at m.vertices p ≢ vertex = λ same. omega (arith, same, are.vertices.within p less, next) in
        ap (λ (v : ℕ). place_in (with_member m vertex) v) (member_before m vertex p less)
        ∙ place_other m vertex (member_at m.vertices p) apart ∙ are.places p less
    | inr not ↦
        let last : p ≡ length m.vertices = omega (arith, not, below, long m vertex) in
        ap (λ (v : ℕ). place_in (with_member m vertex) v) (member_here m vertex p last)
        ∙ place_here m vertex (omega (arith, within, are.long)) ∙ sym last
  ];
  others = others_more m vertex are within;
}

pub numbered_as : (m : Numbering) (vertex : ℕ) (after : Numbering) → PlacesFit m → m.end ≤ vertex → vertex < m.count →
    after.count ≡ m.count →
    after.places ≡ set m.places vertex (length m.vertices) → after.vertices ≡ m.vertices ++ vertex ∷ [] →
    after.end ≡ vertex + 1 → PlacesFit after
numbered_as m vertex after are next within count places vertices end =
    subst (λ (n : ℕ). PlacesFit (record { count = n; places = after.places; vertices = after.vertices; end = after.end }))
    (sym count)
    (subst (λ (l : List ℕ). PlacesFit (record { count = m.count; places = l; vertices = after.vertices; end = after.end }))
    (sym places)
    (subst (λ (l : List ℕ). PlacesFit
    (record { count = m.count; places = (with_member m vertex).places; vertices = l; end = after.end })) (sym vertices)
    (subst (λ (n : ℕ). PlacesFit (record {
      count = m.count;
      places = (with_member m vertex).places;
      vertices = (with_member m vertex).vertices;
      end = n;
    })) (sym end) (numbered_more m vertex are next within))))

-- before the first vertex there is no member
pub none_numbered : (count : ℕ) → PlacesFit (record { count = count; places = replicate count count; vertices = []; end = 0 })
none_numbered count = record {
  long = length-replicate count count;
  few = omega arith;
  end = omega arith;
  vertices = record {
    within = λ p below. absurd (omega (arith, below));
    ascending = λ p q less below. absurd
        (omega (arith, below));
  };
  places = λ p below. absurd (omega (arith, below));
  others = λ v. inr (elim (cases_lt v count) [
    | inl below ↦ get_or-replicate count v count count below
    | inr past ↦ get_or_past (replicate count count) v count (omega (arith, past, length-replicate count count))
  ]);
}

-- marks stay where one more is put
pub still_marked : (marks : List Bool) (i v : ℕ) → i < length marks → get_or marks v false ≡ true →
    get_or (set marks i true) v false ≡ true
still_marked marks i v below is = elim (cases_eq v i) [
  | inl same ↦ ap (λ (w : ℕ). get_or (set marks i true) w false) same ∙ get_or-set_same marks i true false below
  | inr apart ↦ get_or-set_other marks i v true false apart ∙ is
]

-- the marked vertices so far, and one more
pub marked_more : (marks : List Bool) (vertex : ℕ) (before after : Numbering) →
    NumbersVertex vertex (get_or marks vertex false) before after →
    HaveMarked marks vertex before → HaveMarked marks (vertex + 1) after
marked_more marks vertex before after numbers have v below marked = elim (cases_lt v vertex) [
  | inl less ↦ omega (arith, numbers.kept v less, have v less marked, numbers.more)
  | inr not ↦
      let here : v ≡ vertex = omega (arith, not, below) in
      subst (λ (w : ℕ). place_in after w < length after.vertices) (sym here)
      (numbers.member (subst (λ (w : ℕ). get_or marks w false ≡ true) here marked))
]

-- what stands at one more place is put at its vertex
pub spread_more : {X : Type 0} (none : X) (vertices : List ℕ) (end n : ℕ) (part whole : List X) (x : X) →
    AreVertices vertices end →
    n < length vertices → length whole ≡ end → x ≡ get_or part n none → IsSpread none vertices n part whole →
    IsSpread none vertices (n + 1) part (set whole (member_at vertices n) x)
spread_more {X} none vertices end n part whole x are below long is before = record {
  at = λ p less. elim (cases_lt p n) [
    | inl earlier ↦ get_or-set_other whole (member_at vertices n) (member_at vertices p) x none
        (λ same. omega (arith, same, are.ascending p n earlier below)) ∙ before.at p earlier
    | inr not ↦
        let here : p ≡ n = omega (arith, not, less) in
        ap (λ (q : ℕ). get_or (set whole (member_at vertices n) x) (member_at vertices q) none) here
        ∙ get_or-set_same whole (member_at vertices n) x none (omega (arith, are.within n below, long))
        ∙ is ∙ ap (λ (q : ℕ). get_or part q none) (sym here)
  ];
  others = λ v apart. get_or-set_other whole (member_at vertices n) v x none (λ same. apart n (omega arith) (sym same))
      ∙ before.others v (λ p less. apart p (omega (arith, less)));
}

-- the first vertex is none behind another, nor behind their end
pub first_before : (vertices : List ℕ) (end : ℕ) → AreVertices vertices end → (p : ℕ) → p < length vertices →
    member_at vertices 0 ≤ member_at vertices p
first_before vertices end are zero below = omega arith
first_before vertices end are (suc p) below = omega (arith, are.ascending 0 (suc p) (omega arith) below)

pub first_within : (vertices : List ℕ) (end : ℕ) → AreVertices vertices end → member_at vertices 0 ≤ end
first_within [] end are = omega arith
first_within (v ∷ vertices) end are = omega (arith, are.within 0 (omega arith))

-- the same along the vertices from the first on
pub along_more : {X : Type 0} (none : X) (vertices : List ℕ) (end n first : ℕ) (part whole : List X) (x : X) →
    AreVertices vertices end → n < length vertices → member_at vertices 0 + length whole ≡ end → first ≡ member_at vertices 0 → x ≡ get_or part n none →
    IsSpread none vertices n part (replicate (member_at vertices 0) none ++ whole) →
    IsSpread none vertices (n + 1) part (replicate (member_at vertices 0) none ++ set whole (member_at vertices n - first) x)
along_more {X} none vertices end n first part whole x are below long here is before =
    let front : List X = replicate (member_at vertices 0) none in
    let fills : length front ≡ first = length-replicate (member_at vertices 0) none ∙ sym here in
    let behind : first ≤ member_at vertices n = omega (arith, here, first_before vertices end are n below) in
    subst (IsSpread none vertices (n + 1) part) (set-append_right front whole first (member_at vertices n) x fills behind)
    (spread_more none vertices end n part (front ++ whole) x are below
    (omega (arith, length-append front whole, fills, here, long)) is before)

-- no place is past its vertex
pub place_at_most : (vertices : List ℕ) (end : ℕ) → AreVertices vertices end → (p : ℕ) → p < length vertices →
    p ≤ member_at vertices p
place_at_most vertices end are zero below = omega arith
place_at_most vertices end are (suc p) below =
    omega (arith, place_at_most vertices end are p (omega (arith, below)), are.ascending p (suc p) (omega arith) below)
