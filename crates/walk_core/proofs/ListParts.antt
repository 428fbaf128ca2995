-- Spans of one list of numbers as lists, and lists of one number or more.
use Rattle.std.proofs.lemmas.Grind.{common_steps}
use Rattle.std.proofs.Common.{◌≡◌, ℕ, zero, suc, List, [], ◌∷◌, ◌++◌, length, map, set, replicate, All, refl, ap, ◌∙◌, arith}
use Rattle.std.proofs.lemmas.List.{drop-append-le, drop_at, take-append-le, take_all, map-append, map-set, length-drop}
use Rattle.std.proofs.lemmas.List.Elements.{All-head, All-tail}
use Rattle.walk_core.specs.steps.NumberLists.{part_of, lists_of, list_of, IsWithin, AreSpansWithin, IsLongListKept, Grows}
use Rattle.walk_core.specs.declared.long_lists.Span.{Span}
use Rattle.walk_core.specs.steps.NumberLists.{Numbers}
use Rattle.walk_core.specs.steps.NumberLists.Numbers.{Nothing, One, More}

-- more numbers behind the others change no span
pub part_stays : (numbers more : List ℕ) (span : Span) → IsWithin numbers span → part_of (numbers ++ more) span ≡ part_of numbers span
part_stays numbers more span is = grind (arith, common_steps, drop-append-le, length-drop, take-append-le)

pub lists_stay : (numbers more : List ℕ) (spans : List Span) → AreSpansWithin numbers spans → lists_of (numbers ++ more) spans ≡ lists_of numbers spans
lists_stay numbers more [] are = refl
lists_stay numbers more (span ∷ spans) are =
    ap (λ (l : List ℕ). l ∷ lists_of (numbers ++ more) spans) (part_stays numbers more span (All-head (IsWithin numbers) span spans are))
    ∙ ap (λ (l : List (List ℕ)). part_of numbers span ∷ l) (lists_stay numbers more spans (All-tail (IsWithin numbers) span spans are))

-- the span of the last numbers is the list that came
pub part_behind : (numbers more : List ℕ) (span : Span) → span.start ≡ length numbers → span.end ≡ length (numbers ++ more) →
    part_of (numbers ++ more) span ≡ more
part_behind numbers more span starts ends = grind (arith, common_steps, drop_at, take_all)

pub lists_more : (numbers more : List ℕ) (spans : List Span) (span : Span) → AreSpansWithin numbers spans → span.start ≡ length numbers →
    span.end ≡ length (numbers ++ more) → lists_of (numbers ++ more) (spans ++ span ∷ []) ≡ lists_of numbers spans ++ more ∷ []
lists_more numbers more spans span are starts ends = grind (arith, common_steps, lists_stay, map-append, part_behind)

-- a list stays as it is where long ones come behind the others
list_stays : (old new : List (List ℕ)) (numbers : Numbers) → Grows old new → IsLongListKept old numbers → list_of new numbers ≡ list_of old numbers
list_stays old new Nothing grows kept = refl
list_stays old new (One number) grows kept = refl
list_stays old new (More place) grows kept = grows.same place (kept place refl)

all_stay : (old new : List (List ℕ)) (all : List Numbers) → Grows old new → All (IsLongListKept old) all → map (list_of new) all ≡ map (list_of old) all
all_stay old new [] grows kept = refl
all_stay old new (numbers ∷ all) grows kept =
    ap (λ (l : List ℕ). l ∷ map (list_of new) all) (list_stays old new numbers grows (All-head (IsLongListKept old) numbers all kept))
    ∙ ap (λ (l : List (List ℕ)). list_of old numbers ∷ l) (all_stay old new all grows (All-tail (IsLongListKept old) numbers all kept))

pub all_more : (old new : List (List ℕ)) (all : List Numbers) (numbers : Numbers) (list : List ℕ) → Grows old new → All (IsLongListKept old) all →
    list_of new numbers ≡ list → map (list_of new) (all ++ numbers ∷ []) ≡ map (list_of old) all ++ list ∷ []
all_more old new all numbers list grows kept is =
    map-append (list_of new) all (numbers ∷ [])
    ∙ ap (λ (l : List (List ℕ)). l ++ list_of new numbers ∷ []) (all_stay old new all grows kept)
    ∙ ap (λ (l : List ℕ). map (list_of old) all ++ l ∷ []) is

-- a copy with an empty list at a place
pub copied_without : (old new : List (List ℕ)) (all copy : List Numbers) (place : ℕ) → new ≡ old → copy ≡ set all place Nothing →
    map (list_of new) copy ≡ set (map (list_of old) all) place []
copied_without old new all copy place long same = grind (arith, common_steps, map-set)

-- no numbers in front of others are empty lists in front of theirs
pub none_in_front : (long : List (List ℕ)) (all : List Numbers) (n : ℕ) →
    map (list_of long) (replicate n Nothing ++ all) ≡ replicate n [] ++ map (list_of long) all
none_in_front long all zero = refl
none_in_front long all (suc n) = ap (λ (lists : List (List ℕ)). [] ∷ lists) (none_in_front long all n)

-- a copy behind so many empty lists
pub copied_behind : (old new : List (List ℕ)) (all copy : List Numbers) (n : ℕ) → new ≡ old → copy ≡ replicate n Nothing ++ all →
    map (list_of new) copy ≡ replicate n [] ++ map (list_of old) all
copied_behind old new all copy n long same =
    ap (λ (l : List Numbers). map (list_of new) l) same ∙ none_in_front new all n
    ∙ ap (λ (l : List (List ℕ)). replicate n [] ++ map (list_of l) all) long
