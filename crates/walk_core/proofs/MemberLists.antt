-- Lists of numbers, each in place of another one.
use Rattle.std.proofs.Common.{◌≡◌, ℕ, ◌-◌, ◌<◌, ◌≤◌, List, [], ◌∷◌, length, map, get_or, take, drop, refl, ap, sym, subst, ◌∙◌}
use Rattle.std.proofs.Common.{arith, All, inl, inr}
use Rattle.std.proofs.lemmas.Bool.{cases_lt}
use Rattle.std.proofs.Math.ListN.{get_or-map}
use Rattle.std.proofs.lemmas.List.{drop-map, take-map, length-map, get_or_past}
use Rattle.walk_core.specs.declared.long_lists.Span.{Span}
use Rattle.walk_core.specs.steps.NumberLists.{Numbers}
use Rattle.walk_core.specs.steps.NumberLists.Numbers.{Nothing, One, More}
use Rattle.walk_core.specs.steps.Members.{IsSpread, member_at, members_at}
use Rattle.walk_core.specs.steps.NumberLists.{part_of, lists_of, list_of, renumbered, AreSpansWithin, IsLongListKept}

-- a span of other numbers is that of the numbers, in place of each its other one
part_renumbered : (f : ℕ → ℕ) (numbers : List ℕ) (span : Span) → part_of (map f numbers) span ≡ map f (part_of numbers span)
part_renumbered f numbers span =
    ap (λ (l : List ℕ). take (span.end - span.start) l) (drop-map f span.start numbers)
    ∙ take-map f (span.end - span.start) (drop span.start numbers)

pub lists_renumbered : (f : ℕ → ℕ) (numbers : List ℕ) (spans : List Span) →
    lists_of (map f numbers) spans ≡ map (map f) (lists_of numbers spans)
lists_renumbered f numbers [] = refl
lists_renumbered f numbers (span ∷ spans) =
    ap (λ (l : List ℕ). l ∷ lists_of (map f numbers) spans) (part_renumbered f numbers span)
    ∙ ap (λ (l : List (List ℕ)). map f (part_of numbers span) ∷ l) (lists_renumbered f numbers spans)

pub spans_renumbered : (f : ℕ → ℕ) (numbers : List ℕ) (spans : List Span) → AreSpansWithin numbers spans →
    AreSpansWithin (map f numbers) spans
spans_renumbered f numbers spans are k d below = record {
  ordered = (are k d below).ordered;
  within = subst (λ (n : ℕ). (get_or spans k d).end ≤ n) (sym (length-map numbers f)) (are k d below).within;
}

-- a list by long ones of other numbers has in place of each number its other one
list_renumbered : (vertices : List ℕ) (long : List (List ℕ)) (numbers : Numbers) →
    list_of (map (members_at vertices) long) (renumbered vertices numbers) ≡ members_at vertices (list_of long numbers)
list_renumbered vertices long Nothing = refl
list_renumbered vertices long (One number) = refl
list_renumbered vertices long (More place) = get_or-map (members_at vertices) long place []

-- where it is a long list, it is there still
pub kept_renumbered : (vertices : List ℕ) (long : List (List ℕ)) (numbers : Numbers) → IsLongListKept long numbers →
    IsLongListKept long (renumbered vertices numbers)
kept_renumbered vertices long Nothing kept place is = kept place is
kept_renumbered vertices long (One number) kept place is = absurd (cc is)
kept_renumbered vertices long (More other) kept place is = kept place is

-- it is so at each place, and past the last
pub kept_at : (long : List (List ℕ)) (all : List Numbers) (place : ℕ) → All (IsLongListKept long) all →
    IsLongListKept long (get_or all place Nothing)
kept_at long all place kept = elim (cases_lt place (length all)) [
  | inl below ↦ kept place Nothing below
  | inr past ↦ λ other is. absurd (cc (is, get_or_past all place Nothing (omega (arith, past))))
]

pub all_renumbered : (vertices : List ℕ) (long : List (List ℕ)) (all : List Numbers) (f : ℕ → ℕ) → All (IsLongListKept long) all →
    All (IsLongListKept (map (map f) long)) all
all_renumbered vertices long all f kept k d below place is =
    subst (λ (n : ℕ). place < n) (sym (length-map long (map f))) (kept k d below place is)

-- the lists that stand at the vertices of places
pub lists_spread : (vertices : List ℕ) (n : ℕ) (long : List (List ℕ)) (all whole : List Numbers) →
    IsSpread Nothing vertices n (map (renumbered vertices) all) whole →
    IsSpread [] vertices n (map (members_at vertices) (map (list_of long) all))
    (map (list_of (map (members_at vertices) long)) whole)
lists_spread vertices n long all whole is = record {
  at = λ p below.
      get_or-map other whole (member_at vertices p) Nothing
      ∙ ap other (is.at p below ∙ get_or-map (renumbered vertices) all p Nothing)
      ∙ list_renumbered vertices long (get_or all p Nothing)
      ∙ ap (members_at vertices) (sym (get_or-map (list_of long) all p Nothing))
      ∙ sym (get_or-map (members_at vertices) (map (list_of long) all) p []);
  others = λ v apart. get_or-map other whole v Nothing ∙ ap other (is.others v apart);
}
  where
    other : Numbers → List ℕ
    other = list_of (map (members_at vertices) long)

pub lists_spread_as : (vertices : List ℕ) (n : ℕ) (long after lists : List (List ℕ)) (all numbers whole : List Numbers) →
    after ≡ map (members_at vertices) long → numbers ≡ all → lists ≡ map (list_of long) all →
    IsSpread Nothing vertices n (map (renumbered vertices) numbers) whole →
    IsSpread [] vertices n (map (members_at vertices) lists) (map (list_of after) whole)
lists_spread_as vertices n long after lists all numbers whole renamed same is spread =
    subst (λ (l : List (List ℕ)). IsSpread [] vertices n (map (members_at vertices) lists) (map (list_of l) whole)) (sym renamed)
    (subst (λ (l : List (List ℕ)). IsSpread [] vertices n (map (members_at vertices) l)
    (map (list_of (map (members_at vertices) long)) whole)) (sym is)
    (lists_spread vertices n long all whole
    (subst (λ (l : List Numbers). IsSpread Nothing vertices n (map (renumbered vertices) l) whole) same spread)))
